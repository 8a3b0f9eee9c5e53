use Rattle.std.proofs.Common.{◌≡◌, [], drop, sym, ap, ◌∙◌}
use Rattle.std.specs.Prelude.{Result, Ok, Err}
use Rattle.std.proofs.lemmas.List.{drop_all}
use Rattle.asm_element.specs.Place.{Place}
use Rattle.asm_update.specs.State.{State}
use Rattle.asm_update.specs.declared.clash.Cause.TheVariants.{Two}
use Rattle.asm_update.specs.declared.clash.Clash.{Clash}
use Rattle.asm_update.proofs.PlainLemmas.{write_in_order, plain_fires, plain_clashes}
use Rattle.asm_update.proofs.fire.fire_plain.Goals as goal

abbrev clash_at : Place → Result State Clash
clash_at l = Err (record { at = l; cause = Two })

pub returns-in-Some-clause-clash : goal.returns-in-Some-clause-clash
returns-in-Some-clause-clash c = λ part.
    plain_clashes part c.args.state.now c.args.instructions.now c.requires c.in-Some.at.now c.in-Some.ensures ∙ ap clash_at (sym c.in_ok-copy.ensures)

pub returns-clause-fired : goal.returns-clause-fired
returns-clause-fired c = λ part.
    let M = c.as_slice-instruction-items.result.now in
    let left : drop c.loop-instruction.instruction-index M ≡ [] = drop_all c.loop-instruction.instruction-index M c.loop-instruction-test.false in
    plain_fires part c.args.state.now c.args.instructions.now c.requires c.in_default.ensures
    ∙ ap Ok (ap (write_in_order c.args.state.now) (sym c.as_slice-instruction-items.ensures) ∙ sym c.loop-instruction.invariant ∙ ap (write_in_order c.loop-instruction.next) left)
