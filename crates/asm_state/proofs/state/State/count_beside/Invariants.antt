use Rattle.std.proofs.Common.{◌≡◌, true, Option, None}
use Rattle.asm_element.specs.Place.{Place}
use Rattle.asm_element.specs.Value.{is_undef}
use Rattle.asm_element.specs.declared.value.Value.{Value}
use Rattle.asm_state.specs.Shown.{IsCountOf, with_own}
use Rattle.asm_state.specs.View.{value_at}
use Rattle.asm_state.proofs.Counted.{IsCounting, IsRest}
use Rattle.asm_state.proofs.state.State.count_beside.Given as goal

abbrev pub invariant-loop-at : goal.invariant-loop-at
invariant-loop-at l = record {
  rest : IsRest l.own l.at-iterator;
  counting : (found : Place → Option Value) → IsCountOf found l.fn.counted →
      ((k : Place) → is_undef (value_at l.self k) ≡ true → found k ≡ None) →
      IsCounting found (with_own (value_at l.self) l.own found) l.at-iterator l.count;
}
