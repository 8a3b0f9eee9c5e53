use Rattle.std.proofs.Common.{sym, subst, ◌∙◌}
use Rattle.asm_storage.specs.declared.call.Answer.TheVariants as answer
use Rattle.asm_journal.specs.Event.{IsAnswerForm}
use Rattle.asm_journal.specs.Shape.{BeginsAs}
use Rattle.asm_journal.proofs.FrontObjects.{values_begin}
use Rattle.asm_journal.proofs.front.answer.front_values.Goals as goal

pub returns : goal.returns
returns c =
    let text = c.args.text.now in
    let rest = c.in_ok-rest.rest.now in
    let n = c.in_ok-number.number in
    subst (λ vs. BeginsAs IsAnswerForm text (answer.Read n vs) rest) (sym (c.new-values.ensures ∙ c.into_vec.ensures))
    (values_begin text c.in_ok-inside.inside.now c.in_ok-number.left.now c.in_ok-second.second.now c.in_ok-listed.end.now rest n
    c.in_ok-listed.listed c.in_ok-inside.ensures c.in_ok-number.ensures c.in_ok-second.ensures c.in_ok-listed.ensures c.in_ok-rest.ensures)
