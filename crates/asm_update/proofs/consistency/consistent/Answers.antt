use Rattle.std.proofs.Common.{◌≡◌, ◌+◌, false, MatchOption, sym, subst, ◌∙◌, inl, inr, arith}
use Rattle.asm_element.specs.Place.{Place, comes_before}
use Rattle.asm_update.specs.Move.{Move, has_two, IsLeast}
use Rattle.std.specs.Prelude.{◌⊎◌}
use Rattle.asm_update.proofs.LeastLemmas.{Known, takes, skips, known_all}
use Rattle.asm_update.proofs.consistency.consistent.Goals as goal
use Rattle.asm_update.proofs.consistency.consistent.Goals.{then-comes_before+then-has_two_values, else-comes_before, else-comes_before-via-then-comes_before+else-has_two_values, else-comes_before-via-else-comes_before}

pub loop-instruction-preserved : goal.loop-instruction-preserved
loop-instruction-preserved c =
    let M = c.as_slice-list.result.now in
    let m = c.instruction-item.result in
    let n = c.loop-instruction.instruction-index in
    let least = c.loop-instruction.least in
    elim c.if-comes_before.branch [
      | then-comes_before+then-has_two_values w ↦
          subst (Known (n + 1) M) (sym w.least-is)
          (takes M n m (omega arith) c.instruction-item.is least (sym c.comes_before.ensures ∙ w.if-comes_before.true) (sym w.has_two_values.ensures ∙ w.if-has_two_values.true) c.loop-instruction.invariant)
      | else-comes_before w ↦
          let why : (comes_before m.at least ≡ false) ⊎ (has_two M m.at ≡ false) = elim w.else-comes_before.branch [
            | else-comes_before-via-then-comes_before+else-has_two_values v ↦ inr (sym v.has_two_values.ensures ∙ v.if-has_two_values.false)
            | else-comes_before-via-else-comes_before v ↦ inl (sym c.comes_before.ensures ∙ v.if-comes_before.false)
          ] in
          subst (Known (n + 1) M) (sym w.least-is) (skips M n m (omega arith) c.instruction-item.is least why c.loop-instruction.invariant)
    ]

pub returns : goal.returns
returns c =
    subst (λ (M : Move). MatchOption c.loop-instruction.least ((l : Place) → has_two M l ≡ false) (λ l. IsLeast (has_two M) l.now)) c.as_slice-list.ensures
    (known_all c.as_slice-list.result.now c.loop-instruction.instruction-index c.loop-instruction-test.false c.loop-instruction.least c.loop-instruction.invariant)
