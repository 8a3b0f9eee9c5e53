use Rattle.std.proofs.Common.{◌≡◌, ◌+◌, true, false, not, ◌||◌, ◌∷◌, ◌++◌, drop, sym, ap, ◌∙◌, arith}
use Rattle.std.specs.List.{cons_option, list_any}
use Rattle.std.specs.Ordering.{eq_by_cmp}
use Rattle.std.proofs.lemmas.List.{drop_more}
use Rattle.asm_element.specs.Place.{location_cmp}
use Rattle.asm_element.specs.Tests.{true_from_not, false_from_not}
use Rattle.asm_element.specs.Value.{value_eq}
use Rattle.asm_update.specs.Action.{regular_value}
use Rattle.asm_update.specs.Move.{are_different, regular_values}
use Rattle.asm_update.proofs.MoveLemmas.{listed, regular_values-cons, no_value}
use Rattle.asm_update.proofs.consistency.has_two_values.Goals as goal
use Rattle.asm_update.proofs.consistency.has_two_values.Goals.{in-Regular+in-None, in-Regular+in-Some+else-ne-2, in_default}

pub loop-instruction-preserved : goal.loop-instruction-preserved
loop-instruction-preserved c =
    let M = c.args.instructions.now in
    let m = c.instruction-item.result in
    let i = c.loop-instruction.instruction-index in
    let rest = regular_values (drop (i + 1) M) c.args.at.now in
    let here : eq_by_cmp location_cmp m.at c.args.at.now ≡ true = true_from_not _ _ c.ne.ensures c.if-ne.false in
    let left = drop_more M i m (omega arith) ∙ ap (λ x. x ∷ drop (i + 1) M) (sym c.instruction-item.is) in
    let values = ap (λ N. regular_values N c.args.at.now) left ∙ regular_values-cons m (drop (i + 1) M) c.args.at.now here in
    let now = ap (λ vs. are_different (listed c.loop-instruction.first ++ vs)) (sym values) ∙ c.loop-instruction.invariant in
    elim c.match-instruction.branch [
      | in-Regular+in-None w ↦
          ap (λ f. are_different (listed f ++ rest)) w.first-is
          ∙ (λ j. are_different (listed (sym w.in-None.is j) ++ cons_option (regular_value (sym w.in-Regular.is j)) rest))
          ∙ now
      | in-Regular+in-Some+else-ne-2 w ↦
          let same : value_eq w.in-Some.other.now w.in-Regular.value ≡ true = true_from_not _ _ w.ne-in-Some.ensures w.if-ne-2.false in
          ap (λ f. are_different (listed f ++ rest)) (w.first-is ∙ w.in-Some.is)
          ∙ ap (λ b. not b || list_any (λ x. not (value_eq w.in-Some.other.now x)) rest) (sym same)
          ∙ (λ j. are_different (listed (sym w.in-Some.is j) ++ cons_option (regular_value (sym w.in-Regular.is j)) rest))
          ∙ now
      | in_default w ↦
          (λ j. are_different (listed (w.first-is j) ++ cons_option (sym (no_value m.action w.in_default.not-Regular) j) rest))
          ∙ now
    ]

pub returns-then-ne-2 : goal.returns-then-ne-2
returns-then-ne-2 c =
    let M = c.args.instructions.now in
    let m = c.instruction-item.result in
    let i = c.loop-instruction.instruction-index in
    let rest = regular_values (drop (i + 1) M) c.args.at.now in
    let here : eq_by_cmp location_cmp m.at c.args.at.now ≡ true = true_from_not _ _ c.ne.ensures c.if-ne.false in
    let left = drop_more M i m (omega arith) ∙ ap (λ x. x ∷ drop (i + 1) M) (sym c.instruction-item.is) in
    let values = ap (λ N. regular_values N c.args.at.now) left ∙ regular_values-cons m (drop (i + 1) M) c.args.at.now here in
    let differs : value_eq c.in-Some.other.now c.in-Regular.value ≡ false = false_from_not _ _ c.ne-in-Some.ensures c.if-ne-2.true in
    ap (λ b. not b || list_any (λ x. not (value_eq c.in-Some.other.now x)) rest) (sym differs)
    ∙ (λ j. are_different (listed (sym c.in-Some.is j) ++ cons_option (regular_value (sym c.in-Regular.is j)) rest))
    ∙ ap (λ vs. are_different (listed c.loop-instruction.first ++ vs)) (sym values) ∙ c.loop-instruction.invariant
