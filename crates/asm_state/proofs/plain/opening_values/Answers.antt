use Rattle.std.proofs.Common.{◌≡◌, List, subst, rules}
use Rattle.std.specs.FinMap as finite
use Rattle.asm_element.specs.Place.{Place}
use Rattle.asm_element.specs.declared.value.Value.{Value}
use Rattle.asm_update.specs.State.{val}
use Rattle.asm_state.specs.Plain.{is_wanted}
use Rattle.asm_state.proofs.Insertions.{rising_start}
use Rattle.asm_state.proofs.Wanted.{IsFilled, all_has, opening_start, filled_step, filled_end}
use Rattle.asm_state.proofs.plain.opening_values.Goals as goal

pub loop-at-init : goal.loop-at-init
loop-at-init c =
    let opening = c.args.opening.now in
    let left = c.into_iter-at-iterator.result in
    let start : left ≡ finite.entries opening = search rules in
    opening_start (is_wanted c.args.name) opening c.new-plain.result left (rising_start opening left start)
    (λ q named. all_has opening left start q) c.new-plain.ensures

pub loop-at-preserved : goal.loop-at-preserved
loop-at-preserved c =
    let opening = c.args.opening.now in
    filled_step (λ v. v) (is_wanted c.args.name) (val opening) c.in-Some.at.now c.in-Some.value.now c.next.new.self
    c.loop-at.plain c.put_wanted.new.plain c.in_ok-put_wanted.ensures
    (subst (λ (es : List (Place × Value)). IsFilled (λ v. v) (is_wanted c.args.name) (val opening) es c.loop-at.plain)
    c.in-Some.ensures.steps c.loop-at.invariant)

pub returns : goal.returns
returns c =
    let opening = c.args.opening.now in
    filled_end {X = Value} (λ v. v) (is_wanted c.args.name) (val opening) c.loop-at.plain
    (subst (λ (es : List (Place × Value)). IsFilled (λ v. v) (is_wanted c.args.name) (val opening) es c.loop-at.plain)
    c.in-None.ensures.steps.0 c.loop-at.invariant)
