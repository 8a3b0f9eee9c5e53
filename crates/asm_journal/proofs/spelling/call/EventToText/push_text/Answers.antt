use Rattle.std.proofs.Common.{codes}
use Rattle.asm_journal.specs.Event.{answer_json_of, call_json_of}
use Rattle.asm_journal.specs.Shape.{number_json_of}
use Rattle.asm_journal.proofs.Spelt.{three_members}
use Rattle.asm_journal.proofs.spelling.call.EventToText.push_text.Goals as goal

pub returns : goal.returns
returns c =
    let e = c.args.self.now in
    three_members _ _ _ _ _ _ (codes "agent") (number_json_of e.agent) (codes "call") (call_json_of e.call)
    (codes "reply") (answer_json_of e.answer) c.in_ok-push_sign.ensures c.in_ok-push_member.ensures
    c.in_ok-push_member-2.ensures c.in_ok-push_member-3.ensures c.in_ok-push_sign-2.ensures
