use Rattle.std.proofs.Common.{take, subst}
use Rattle.asm_update.specs.Move.{Move}
use Rattle.asm_step.specs.Next.{AreMarked}
use Rattle.asm_step.proofs.Filled.{none_marked, one_marked, taken_all, taken_one}
use Rattle.asm_step.proofs.next.mark_each.Goals as goal

pub loop-instruction-init : goal.loop-instruction-init
loop-instruction-init c = none_marked c.args.outcomes.now

pub loop-instruction-preserved : goal.loop-instruction-preserved
loop-instruction-preserved c =
    let i = c.loop-instruction.instruction-index in
    let M = c.args.instructions.now in
    let x = c.instruction-item.result in
    subst (λ (N : Move). AreMarked N c.args.outcomes.now c.mark.new.outcomes)
    (taken_one c.as_slice-instruction-items.result.now M i x c.as_slice-instruction-items.ensures c.loop-instruction-test.true c.instruction-item.is)
    (one_marked (take i M) x c.args.outcomes.now c.loop-instruction.outcomes c.mark.new.outcomes c.loop-instruction.invariant c.mark.ensures)

pub returns : goal.returns
returns c =
    subst (λ (N : Move). AreMarked N c.args.outcomes.now c.loop-instruction.outcomes)
    (taken_all c.as_slice-instruction-items.result.now c.args.instructions.now c.loop-instruction.instruction-index
    c.as_slice-instruction-items.ensures c.loop-instruction-test.false)
    c.loop-instruction.invariant
