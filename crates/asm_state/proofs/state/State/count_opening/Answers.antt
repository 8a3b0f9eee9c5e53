use Rattle.std.proofs.Common.{◌≡◌, ◌&&◌, List, ◌∷◌, Option, None, Some, false, true, not, is_some, unwrap_or, ap, sym, ◌∙◌, subst, refl}
use Rattle.std.specs.BTreeMap.Range.{entries_between}
use Rattle.std.specs.FinMap as finite
use Rattle.std.specs.declared.ops.Bound.TheVariants.{Included, Unbounded}
use Rattle.asm_element.specs.Place.{Place, location_cmp}
use Rattle.asm_element.specs.Value.{is_undef, undef}
use Rattle.asm_element.specs.declared.value.Value.{Value}
use Rattle.asm_update.specs.State.{State, val}
use Rattle.asm_state.specs.Scans.{has_name}
use Rattle.asm_state.specs.Shown.{shown_as_opened}
use Rattle.asm_state.specs.View.{StateView}
use Rattle.asm_state.proofs.Counted.{IsAhead, IsCounting, ahead_first, ahead_start, ahead_step, counting_end, counting_past, counting_step}
use Rattle.asm_state.proofs.Counted.{opened_by, opened_start, unnamed_opened}
use Rattle.asm_state.proofs.Onward.{onward_has, onward_start}
use Rattle.asm_state.proofs.state.State.count_opening.Goals as goal

pub loop-at-init : goal.loop-at-init
loop-at-init g c =
    let first = c.args.first.now in
    let s = c.args.self.now in
    let shown = g.L.Lookup.value_at c.args.shown.now in
    let left = c.into_iter-at-iterator.result in
    let is = c.into_iter-at-iterator.ensures.into_iter_gives ∙ c.onward-at-items.ensures
    ∙ ap (λ (A : State). entries_between location_cmp (Included first) Unbounded (finite.entries A)) (c.deref.ensures ∙ ap (λ (t : StateView). t.base) c.self.view_is) in
    let walk = onward_start first s.base left is in
    record {
      ahead = ahead_start first s.base left walk (onward_has first s.base left is c.requires);
      counting = opened_start s first.name shown left walk.rising (onward_has first s.base left is c.requires);
    }

pub loop-at-preserved : goal.loop-at-preserved
loop-at-preserved g c =
    let first = c.args.first.now in
    let s = c.args.self.now in
    let shown = g.L.Lookup.value_at c.args.shown.now in
    let k = c.in-Some.at.now in
    let x = c.in-Some.value.now in
    let rest = c.next.new.self in
    let named : has_name first.name k ≡ true = ap (λ n. has_name n k) (sym c.name.ensures.name) ∙ sym c.has_name.ensures ∙ c.if-not-has_name.false in
    let ahead : IsAhead first s.base ((k, x) ∷ rest) = subst (λ (es : List (Place × Value)). IsAhead first s.base es) c.in-Some.ensures.steps c.loop-at.invariant.ahead in
    let counting : IsCounting (λ q. None) (shown_as_opened s first.name shown) ((k, x) ∷ rest) c.loop-at.count =
    subst (λ (es : List (Place × Value)). IsCounting (λ q. None) (shown_as_opened s first.name shown) es c.loop-at.count) c.in-Some.ensures.steps c.loop-at.invariant.counting in
    let has : finite.get s.base k ≡ Some x = ahead_first first s.base k x rest ahead named in
    let held : val s.base k ≡ x = ap (λ (o : Option Value). unwrap_or o undef) has in
    let test = c.is_shown_as_opened.ensures
    ∙ ap (λ (v : Value). not (is_undef v) && (not (is_some (finite.get s.entries k)) && not (is_undef (shown k)))) (sym held) in
    record {
      ahead = ahead_step first s.base k x rest ahead;
      counting = counting_step (λ q. None) (shown_as_opened s first.name shown) k x rest c.loop-at.count _ (shown k) _ refl (opened_by s first.name shown k _ named test)
          c.one_more_if-count.ensures counting;
    }

pub returns-then-not-has_name : goal.returns-then-not-has_name
returns-then-not-has_name g c =
    let first = c.args.first.now in
    let s = c.args.self.now in
    let shown = g.L.Lookup.value_at c.args.shown.now in
    let k = c.in-Some.at.now in
    let x = c.in-Some.value.now in
    let rest = c.next.new.self in
    let other : has_name first.name k ≡ false = ap (λ n. has_name n k) (sym c.name.ensures.name) ∙ sym c.has_name.ensures ∙ c.if-not-has_name.true in
    let ahead : IsAhead first s.base ((k, x) ∷ rest) = subst (λ (es : List (Place × Value)). IsAhead first s.base es) c.in-Some.ensures.steps c.loop-at.invariant.ahead in
    counting_past (λ q. None) (shown_as_opened s first.name shown) first k x rest c.loop-at.count other (unnamed_opened s first.name shown) ahead.walk
    (subst (λ (es : List (Place × Value)). IsCounting (λ q. None) (shown_as_opened s first.name shown) es c.loop-at.count) c.in-Some.ensures.steps c.loop-at.invariant.counting)

pub returns : goal.returns
returns g c =
    let first = c.args.first.now in
    let s = c.args.self.now in
    let shown = g.L.Lookup.value_at c.args.shown.now in
    counting_end {X = Value} (λ q. None) (shown_as_opened s first.name shown) c.loop-at.count
    (subst (λ (es : List (Place × Value)). IsCounting (λ q. None) (shown_as_opened s first.name shown) es c.loop-at.count) c.in-None.ensures.steps.0 c.loop-at.invariant.counting)
