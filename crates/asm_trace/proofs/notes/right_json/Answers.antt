use Rattle.std.proofs.Common.{sym, ap, ◌∙◌}
use Rattle.std.proofs.lemmas.Result.{IfOk-weaker}
use Rattle.asm_storage.specs.Machine.{reply_to}
use Rattle.asm_storage.specs.declared.call.Answer.TheVariants as answer
use Rattle.asm_storage.specs.declared.call.Call.TheVariants as call
use Rattle.asm_journal.specs.Check.{machine}
use Rattle.asm_trace.proofs.Noted.{right_of_fire}
use Rattle.asm_trace.proofs.notes.right_json.Goals as goal

pub returns-in_ok-reply-in-Fire : goal.returns-in_ok-reply-in-Fire
returns-in_ok-reply-in-Fire g c =
    let part = (g.A.Aggregator.meaning c.args.aggregator.now).part in
    let f = c.in-Fire in
    let reply = c.in_ok-reply-in-Fire.reply in
    let call-is = f.is ∙ ap (λ rs. call.Fire rs f.instrs) (sym c.as_slice-in-Fire.ensures) in
    IfOk-weaker c.to_json.result _ _ (λ json is. (
      answer.Fire reply,
      is ∙ sym (right_of_fire c.args.event.now.answer reply),
      λ init q stands. c.in_ok-reply-in-Fire.ensures init q stands ∙ sym (ap (reply_to (machine part init c.args.capacity) q) call-is),
    )) c.to_json.ensures
