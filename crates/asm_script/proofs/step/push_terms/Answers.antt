use Rattle.std.proofs.Common.{◌≡◌, ◌++◌, [], append-nil, ap, sym, ◌∙◌}
use Rattle.asm_script.specs.Ready.{written_form}
use Rattle.asm_script.specs.StepReads.{taken}
use Rattle.asm_script.proofs.ReadyInstructions.{none_taken}
use Rattle.asm_script.proofs.step.push_terms.Goals as goal

pub returns-in-Ready : goal.returns-in-Ready
returns-in-Ready c =
    let places = c.args.places.now.items in
    let none : taken c.args.block.now ≡ [] = ap taken (sym c.form.ensures.form ∙ ap written_form c.in-Ready.is)
    ∙ none_taken c.in-Ready.field-0 in sym (ap (λ ls. places ++ ls) none ∙ append-nil places)
