use Rattle.std.proofs.Common.{sym, subst, ◌∙◌}
use Rattle.serde_json.specs.View.{view}
use Rattle.asm_journal.specs.Event.{IsCallForm, IsAnswerForm, IsEventForm}
use Rattle.asm_journal.proofs.Carried.{carried_ok, carried_err, refused}
use Rattle.asm_journal.proofs.Events.{same_three}
use Rattle.asm_journal.proofs.form.call.EventFromJson.from_json.Goals as goal

pub returns-in_err-call : goal.returns-in_err-call
returns-in_err-call c =
    let call = view c.in-Some.call.now in
    refused IsEventForm (view c.args.json.now) _ c.in_err-call.field-0.0 c.from_residual.ensures.1
    (λ fault e h.
    carried_err IsCallForm call _ _ c.from_json.ensures c.in_err-call.ensures.carried fault e.call
    (subst (IsCallForm e.call) (same_three _ _ _ _ _ _ _ _ _ (sym h.3 ∙ c.in-Some.ensures.some)).1 h.5))

pub returns-in_err-answer : goal.returns-in_err-answer
returns-in_err-answer c =
    let reply = view c.in-Some.reply.now in
    refused IsEventForm (view c.args.json.now) _ c.in_err-answer.field-0.0 c.from_residual-in_err-answer.ensures.1
    (λ fault e h.
    carried_err IsAnswerForm reply _ _ c.from_json-2.ensures c.in_err-answer.ensures.carried fault e.answer
    (subst (IsAnswerForm e.answer) (same_three _ _ _ _ _ _ _ _ _ (sym h.3 ∙ c.in-Some.ensures.some)).2 h.6))

pub returns : goal.returns
returns c =
    let call = view c.in-Some.call.now in
    let reply = view c.in-Some.reply.now in
    let called = carried_ok IsCallForm call _ c.in_ok-call.call c.from_json.ensures c.in_ok-call.ensures.carried in
    let answered = carried_ok IsAnswerForm reply _ c.in_ok-answer.answer c.from_json-2.ensures c.in_ok-answer.ensures.carried in
    (view c.in-Some.agent.now, call, reply, c.in-Some.ensures.some, c.in-Some-read_number.ensures, called, answered)
