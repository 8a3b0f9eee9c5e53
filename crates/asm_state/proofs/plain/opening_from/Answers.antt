use Rattle.std.proofs.Common.{◌≡◌, List, ◌∷◌, false, true, ap, sym, ◌∙◌, subst}
use Rattle.asm_element.specs.Place.{Place}
use Rattle.asm_element.specs.declared.value.Value.{Value}
use Rattle.asm_update.specs.State.{val}
use Rattle.asm_state.specs.Scans.{has_name}
use Rattle.asm_state.proofs.Onward.{IsOnward, onward_has, onward_past, onward_start, onward_step}
use Rattle.asm_state.proofs.Wanted.{IsFilled, filled_end, filled_past, filled_taken, opening_start}
use Rattle.asm_state.proofs.plain.opening_from.Goals as goal

pub loop-at-init : goal.loop-at-init
loop-at-init c =
    let first = c.args.first.now in
    let opening = c.args.opening.now in
    let left = c.into_iter-at-iterator.result in
    let is = c.into_iter-at-iterator.ensures.into_iter_gives ∙ c.onward-at-items.ensures in
    let walk = onward_start first opening left is in
    record {
      walk = walk;
      filled = opening_start (has_name first.name) opening c.new-plain.result left walk.rising
          (onward_has first opening left is c.requires) c.new-plain.ensures;
    }

pub loop-at-preserved : goal.loop-at-preserved
loop-at-preserved c =
    let first = c.args.first.now in
    let test = has_name first.name in
    let opening = c.args.opening.now in
    let k = c.in-Some.at.now in
    let v = c.in-Some.value.now in
    let rest = c.next.new.self in
    let named : test k ≡ true = ap (λ n. has_name n k) (sym c.name.ensures.name) ∙ sym c.has_name.ensures ∙ c.if-not-has_name.false in
    record {
      walk = onward_step first k v rest
          (subst (λ (es : List (Place × Value)). IsOnward first es) c.in-Some.ensures.steps c.loop-at.invariant.walk);
      filled = filled_taken (λ v. v) test (val opening) k v rest c.loop-at.plain c.put_copy.new.plain named c.in_ok-put_copy.ensures
          (subst (λ (es : List (Place × Value)). IsFilled (λ v. v) test (val opening) es c.loop-at.plain) c.in-Some.ensures.steps c.loop-at.invariant.filled);
    }

pub returns-then-not-has_name : goal.returns-then-not-has_name
returns-then-not-has_name c =
    let first = c.args.first.now in
    let k = c.in-Some.at.now in
    let v = c.in-Some.value.now in
    let rest = c.next.new.self in
    let walk = subst (λ (es : List (Place × Value)). IsOnward first es) c.in-Some.ensures.steps c.loop-at.invariant.walk in
    let other : has_name first.name k ≡ false = ap (λ n. has_name n k) (sym c.name.ensures.name) ∙ sym c.has_name.ensures ∙ c.if-not-has_name.true in
    filled_past (λ v. v) (has_name first.name) (val c.args.opening.now) ((k, v) ∷ rest) c.loop-at.plain
    (subst (λ (es : List (Place × Value)). IsFilled (λ v. v) (has_name first.name) (val c.args.opening.now) es c.loop-at.plain) c.in-Some.ensures.steps c.loop-at.invariant.filled)
    (onward_past first k v rest walk other)

pub returns : goal.returns
returns c =
    let first = c.args.first.now in
    filled_end {X = Value} (λ v. v) (has_name first.name) (val c.args.opening.now) c.loop-at.plain
    (subst (λ (es : List (Place × Value)). IsFilled (λ v. v) (has_name first.name) (val c.args.opening.now) es c.loop-at.plain)
    c.in-None.ensures.steps.0 c.loop-at.invariant.filled)
