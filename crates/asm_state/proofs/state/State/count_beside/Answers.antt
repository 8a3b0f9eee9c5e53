use Rattle.std.proofs.Common.{◌≡◌, List, ◌∷◌, ap, not, rules, ◌∙◌, subst}
use Rattle.std.specs.FinMap as finite
use Rattle.asm_element.specs.Place.{Place}
use Rattle.asm_element.specs.Value.{is_undef}
use Rattle.asm_element.specs.declared.value.Value.{Value}
use Rattle.asm_state.specs.Shown.{with_own}
use Rattle.asm_state.specs.View.{value_at}
use Rattle.asm_state.proofs.Counted.{IsCounting, IsRest, beside_start, beside_step, counting_end, rest_start, rest_step, twice}
use Rattle.asm_state.proofs.state.State.count_beside.Goals as goal

pub loop-at-init : goal.loop-at-init
loop-at-init c =
    let own = c.args.own.now in
    let left = c.into_iter-at-iterator.result in
    let start : left ≡ finite.entries own = search rules in
    record {
      rest = rest_start own left start;
      counting = λ found counted none. beside_start own (value_at c.args.self.now) found none left c.args.counted start counted;
    }

pub loop-at-preserved : goal.loop-at-preserved
loop-at-preserved c =
    let own = c.args.own.now in
    let s = c.args.self.now in
    let k = c.in-Some.at.now in
    let x = c.in-Some._value.now in
    let rest = c.next.new.self in
    let is : IsRest own ((k, x) ∷ rest) = subst (λ (es : List (Place × Value)). IsRest own es) c.in-Some.ensures.steps c.loop-at.invariant.rest in
    record {
      rest = rest_step own k x rest is;
      counting = λ found counted none.
          beside_step own (value_at s) found none k x rest c.loop-at.count _ _ is
          (ap not c.is_there.ensures ∙ twice (is_undef _) ∙ ap is_undef c.get.ensures.value) c.one_more_if-count.ensures
          (subst (λ (es : List (Place × Value)). IsCounting found (with_own (value_at s) own found) es c.loop-at.count) c.in-Some.ensures.steps
          (c.loop-at.invariant.counting found counted none));
    }

pub returns : goal.returns
returns c found counted none =
    let own = c.args.own.now in
    let s = c.args.self.now in
    counting_end {X = Value} found (with_own (value_at s) own found) c.loop-at.count
    (subst (λ (es : List (Place × Value)). IsCounting found (with_own (value_at s) own found) es c.loop-at.count) c.in-None.ensures.steps.0
    (c.loop-at.invariant.counting found counted none))
