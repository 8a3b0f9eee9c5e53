use Rattle.std.proofs.Common.{◌≡◌, List, ◌∷◌, Option, cond, false, true, ap, sym, ◌∙◌, subst}
use Rattle.std.specs.Prelude.{unwrap_or}
use Rattle.std.specs.BTreeMap.Range.{entries_between}
use Rattle.std.specs.FinMap as finite
use Rattle.std.specs.declared.ops.Bound.TheVariants.{Included, Unbounded}
use Rattle.asm_element.specs.Place.{Place, location_cmp}
use Rattle.asm_element.specs.Value.{undef}
use Rattle.asm_element.specs.declared.value.Value.{Value}
use Rattle.asm_update.specs.State.{State, val, write}
use Rattle.asm_state.specs.declared.entries.WrittenValue.{WrittenValue}
use Rattle.asm_state.specs.Scans.{has_name}
use Rattle.asm_state.specs.View.{StateView, value_at}
use Rattle.asm_state.proofs.Onward.{IsOnward, onward_has, onward_past, onward_start, onward_step}
use Rattle.asm_state.proofs.Wanted.{IsFilled, entries_start, filled_end, filled_past, filled_taken, held_value}
use Rattle.asm_state.proofs.state.State.from_first.Goals as goal

pub loop-at-init : goal.loop-at-init
loop-at-init c =
    let first = c.args.first.now in
    let test = has_name first.name in
    let s = c.args.self.now in
    let left = c.into_iter-at-iterator.result in
    let is = c.into_iter-at-iterator.ensures.into_iter_gives ∙ c.onward-at-items.ensures
    ∙ ap (λ (t : StateView). entries_between location_cmp (Included first) Unbounded (finite.entries t.entries)) c.self.view_is in
    let walk = onward_start first s.entries left is in
    let base : c.deref.result.now ≡ s.base = c.deref.ensures ∙ ap (λ (t : StateView). t.base) c.self.view_is in
    record {
      walk = walk;
      filled = entries_start test s c.in_ok-plain.plain left walk.rising (onward_has first s.entries left is c.requires)
          (λ q. c.in_ok-plain.ensures q ∙ ap (λ (A : State). cond (test q) (val A q) undef) base);
    }

pub loop-at-preserved : goal.loop-at-preserved
loop-at-preserved c =
    let first = c.args.first.now in
    let test = has_name first.name in
    let goal = value_at c.args.self.now in
    let k = c.in-Some.at.now in
    let w = c.in-Some.written.now in
    let rest = c.next.new.self in
    let old = c.loop-at.plain in
    let named : test k ≡ true = ap (λ n. has_name n k) (sym c.name.ensures.name) ∙ sym c.has_name.ensures ∙ c.if-not-has_name.false in
    record {
      walk = onward_step first k w rest
          (subst (λ (es : List (Place × WrittenValue)). IsOnward first es) c.in-Some.ensures.steps c.loop-at.invariant.walk);
      filled = filled_taken held_value test goal k w rest old c.put_copy.new.plain named
          (c.in_ok-put_copy.ensures ∙ ap (λ (o : Option Value). write old k (unwrap_or o undef)) c.as_ref.ensures.value)
          (subst (λ (es : List (Place × WrittenValue)). IsFilled held_value test goal es old) c.in-Some.ensures.steps c.loop-at.invariant.filled);
    }

pub returns-then-not-has_name : goal.returns-then-not-has_name
returns-then-not-has_name c =
    let first = c.args.first.now in
    let test = has_name first.name in
    let goal = value_at c.args.self.now in
    let k = c.in-Some.at.now in
    let w = c.in-Some.written.now in
    let rest = c.next.new.self in
    let walk = subst (λ (es : List (Place × WrittenValue)). IsOnward first es) c.in-Some.ensures.steps c.loop-at.invariant.walk in
    let other : test k ≡ false = ap (λ n. has_name n k) (sym c.name.ensures.name) ∙ sym c.has_name.ensures ∙ c.if-not-has_name.true in
    filled_past held_value test goal ((k, w) ∷ rest) c.loop-at.plain
    (subst (λ (es : List (Place × WrittenValue)). IsFilled held_value test goal es c.loop-at.plain) c.in-Some.ensures.steps c.loop-at.invariant.filled)
    (onward_past first k w rest walk other)

pub returns : goal.returns
returns c =
    let test = has_name c.args.first.now.name in
    let goal = value_at c.args.self.now in
    filled_end {X = WrittenValue} held_value test goal c.loop-at.plain
    (subst (λ (es : List (Place × WrittenValue)). IsFilled held_value test goal es c.loop-at.plain)
    c.in-None.ensures.steps.0 c.loop-at.invariant.filled)
