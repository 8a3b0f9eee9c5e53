use Rattle.std.proofs.Common.{◌≡◌, ◌&&◌, List, ◌∷◌, Option, Some, false, true, not, ap, sym, ◌∙◌, subst}
use Rattle.std.specs.BTreeMap.Range.{entries_between}
use Rattle.std.specs.FinMap as finite
use Rattle.std.specs.declared.ops.Bound.TheVariants.{Included, Unbounded}
use Rattle.asm_element.specs.Place.{Place, location_cmp}
use Rattle.asm_element.specs.Value.{is_undef}
use Rattle.asm_update.specs.State.{val}
use Rattle.asm_state.specs.declared.entries.WrittenValue.{WrittenValue}
use Rattle.asm_state.specs.Scans.{has_name}
use Rattle.asm_state.specs.Shown.{shown_as_opened, shown_there}
use Rattle.asm_state.specs.View.{StateView, value_over}
use Rattle.asm_state.proofs.Counted.{IsAhead, IsCounting, ahead_first, ahead_start, ahead_step, counting_end, counting_past, counting_step}
use Rattle.asm_state.proofs.Counted.{entry_not_opened, there_by, there_start, unnamed_there}
use Rattle.asm_state.proofs.Onward.{onward_has, onward_start}
use Rattle.asm_state.proofs.state.State.count_shown.Goals as goal

pub loop-at-init : goal.loop-at-init
loop-at-init g c =
    let first = c.args.first.now in
    let s = c.args.self.now in
    let shown = g.L.Lookup.value_at c.args.shown.now in
    let left = c.into_iter-at-iterator.result in
    let is = c.into_iter-at-iterator.ensures.into_iter_gives ∙ c.onward-at-items.ensures
    ∙ ap (λ (t : StateView). entries_between location_cmp (Included first) Unbounded (finite.entries t.entries)) c.self.view_is in
    let walk = onward_start first s.entries left is in
    record {
      ahead = ahead_start first s.entries left walk (onward_has first s.entries left is c.requires);
      counting = there_start s first.name shown left _ walk.rising (onward_has first s.entries left is c.requires) c.count_opening-count.ensures;
    }

pub loop-at-preserved : goal.loop-at-preserved
loop-at-preserved g c =
    let first = c.args.first.now in
    let s = c.args.self.now in
    let shown = g.L.Lookup.value_at c.args.shown.now in
    let k = c.in-Some.at.now in
    let x = c.in-Some.written.now in
    let rest = c.next.new.self in
    let named : has_name first.name k ≡ true = ap (λ n. has_name n k) (sym c.name.ensures.name) ∙ sym c.has_name.ensures ∙ c.if-not-has_name.false in
    let ahead : IsAhead first s.entries ((k, x) ∷ rest) = subst (λ (es : List (Place × WrittenValue)). IsAhead first s.entries es) c.in-Some.ensures.steps c.loop-at.invariant.ahead in
    let counting : IsCounting (shown_as_opened s first.name shown) (shown_there s first.name shown) ((k, x) ∷ rest) c.loop-at.count =
    subst (λ (es : List (Place × WrittenValue)). IsCounting (shown_as_opened s first.name shown) (shown_there s first.name shown) es c.loop-at.count) c.in-Some.ensures.steps c.loop-at.invariant.counting in
    let has : finite.get s.entries k ≡ Some x = ahead_first first s.entries k x rest ahead named in
    let test = c.is_shown.ensures
    ∙ ap (λ (o : Option WrittenValue). not (is_undef (value_over (val s.base k) o)) && not (is_undef (shown k))) (sym has) in
    record {
      ahead = ahead_step first s.entries k x rest ahead;
      counting = counting_step (shown_as_opened s first.name shown) (shown_there s first.name shown) k x rest c.loop-at.count _ (shown k) _ (entry_not_opened s first.name shown k x has)
          (there_by s first.name shown k _ named test) c.one_more_if-count.ensures counting;
    }

pub returns-then-not-has_name : goal.returns-then-not-has_name
returns-then-not-has_name g c =
    let first = c.args.first.now in
    let s = c.args.self.now in
    let shown = g.L.Lookup.value_at c.args.shown.now in
    let k = c.in-Some.at.now in
    let x = c.in-Some.written.now in
    let rest = c.next.new.self in
    let other : has_name first.name k ≡ false = ap (λ n. has_name n k) (sym c.name.ensures.name) ∙ sym c.has_name.ensures ∙ c.if-not-has_name.true in
    let ahead : IsAhead first s.entries ((k, x) ∷ rest) = subst (λ (es : List (Place × WrittenValue)). IsAhead first s.entries es) c.in-Some.ensures.steps c.loop-at.invariant.ahead in
    counting_past (shown_as_opened s first.name shown) (shown_there s first.name shown) first k x rest c.loop-at.count other (unnamed_there s first.name shown) ahead.walk
    (subst (λ (es : List (Place × WrittenValue)). IsCounting (shown_as_opened s first.name shown) (shown_there s first.name shown) es c.loop-at.count) c.in-Some.ensures.steps c.loop-at.invariant.counting)

pub returns : goal.returns
returns g c =
    let first = c.args.first.now in
    let s = c.args.self.now in
    let shown = g.L.Lookup.value_at c.args.shown.now in
    counting_end {X = WrittenValue} (shown_as_opened s first.name shown) (shown_there s first.name shown) c.loop-at.count
    (subst (λ (es : List (Place × WrittenValue)). IsCounting (shown_as_opened s first.name shown) (shown_there s first.name shown) es c.loop-at.count) c.in-None.ensures.steps.0 c.loop-at.invariant.counting)
