use Rattle.std.proofs.Common.{take, length, cond, is_some, ap, subst, ◌∙◌, arith}
use Rattle.std.specs.FinMap as finite
use Rattle.asm_update.specs.Move.{Move}
use Rattle.asm_step.specs.Next.{AreFilled}
use Rattle.asm_step.proofs.Filled.{none_filled, one_filled, one_counted, one_or_none, taken_all, taken_one}
use Rattle.asm_step.proofs.next.fill.Goals as goal

pub loop-instruction-init : goal.loop-instruction-init
loop-instruction-init c = record {
  filled = none_filled c.args.outcomes.now;
  counted = omega arith;
  few = omega arith;
}

pub loop-instruction-preserved : goal.loop-instruction-preserved
loop-instruction-preserved c =
    let i = c.loop-instruction.instruction-index in
    let M = c.args.instructions.now in
    let x = c.instruction-item.result in
    let had = c.loop-instruction.invariant in
    let counted = one_counted c.loop-instruction.outcomes c.add.new.self x.at x.action c.in_ok-is_there.ensures.0 in
    let one = c.one_if-count.ensures ∙ ap (λ b. cond b 1 0) c.in_ok-is_there.ensures.1 in
    let few = one_or_none (is_some (finite.get c.loop-instruction.outcomes x.at)) in
    record {
      filled = subst (λ (N : Move). AreFilled N c.args.outcomes.now c.add.new.self)
          (taken_one c.as_slice-instruction-items.result.now M i x c.as_slice-instruction-items.ensures c.loop-instruction-test.true c.instruction-item.is)
          (one_filled (take i M) x c.args.outcomes.now c.loop-instruction.outcomes c.add.new.self had.filled c.in_ok-is_there.ensures.0);
      counted = omega (arith, had.counted, counted, one);
      few = omega (arith, had.few, one, few);
    }

pub overflow_add-count : goal.overflow_add-count
overflow_add-count c =
    let x = c.instruction-item.result in
    let one = c.one_if-count.ensures ∙ ap (λ b. cond b 1 0) c.in_ok-is_there.ensures.1 in
    let few = one_or_none (is_some (finite.get c.loop-instruction.outcomes x.at)) in
    omega (arith, c.loop-instruction.invariant.few, one, few, c.loop-instruction-test.true, ap length c.as_slice-instruction-items.ensures)

pub returns-clause-filled : goal.returns-clause-filled
returns-clause-filled c =
    subst (λ (N : Move). AreFilled N c.args.outcomes.now c.loop-instruction.outcomes)
    (taken_all c.as_slice-instruction-items.result.now c.args.instructions.now c.loop-instruction.instruction-index
    c.as_slice-instruction-items.ensures c.loop-instruction-test.false)
    c.loop-instruction.invariant.filled

pub returns-clause-few : goal.returns-clause-few
returns-clause-few c =
    let long = ap length c.as_slice-instruction-items.ensures in
    omega (arith, c.loop-instruction.invariant.few, c.loop-instruction.auto.instruction-index-end, long)
