use Rattle.std.proofs.Common.{None}
use Rattle.serde_json.specs.View.{view}
use Rattle.asm_journal.specs.Event.{IsClashForm, IsReplyForm}
use Rattle.asm_journal.proofs.Carried.{carried_err, refused}
use Rattle.asm_journal.proofs.Events.{clash_read}
use Rattle.asm_journal.proofs.form.answer.ReplyFromJson.from_json.Goals as goal

pub returns-in_err-clash : goal.returns-in_err-clash
returns-in_err-clash c =
    let d = view c.args.json.now in
    let clash = view c.in-Some-one_member-3.clash.now in
    refused IsReplyForm d _ c.in_err-clash.field-0.0 c.from_residual-in_err-clash.ensures.1
    (λ fault. clash_read d clash None c.in-Some-one_member-3.ensures.some (carried_err IsClashForm clash _ _ c.from_json-2.ensures c.in_err-clash.ensures.carried fault))
