use Rattle.std.proofs.Common.{take, subst}
use Rattle.asm_update.specs.Move.{Move}
use Rattle.asm_step.specs.Next.{AreWhere}
use Rattle.asm_step.proofs.Filled.{taken_all, taken_one}
use Rattle.asm_step.proofs.ExtendedMoves.{nothing_written, one_written}
use Rattle.asm_step.proofs.joining.undef_where.Goals as goal

pub loop-instruction-init : goal.loop-instruction-init
loop-instruction-init c = nothing_written c.new-values.result c.new-values.ensures

pub loop-instruction-preserved : goal.loop-instruction-preserved
loop-instruction-preserved c =
    let i = c.loop-instruction.instruction-index in
    let M = c.args.instructions.now in
    let x = c.instruction-item.result in
    subst (λ (N : Move). AreWhere N c.put.new.self)
    (taken_one c.as_slice-instruction-items.result.now M i x c.as_slice-instruction-items.ensures c.loop-instruction-test.true c.instruction-item.is)
    (one_written (take i M) x c.in_ok-copy.field-0 _ c.loop-instruction.values c.put.new.self c.in_ok-copy.ensures
    c.loop-instruction.invariant c.in_ok-put.ensures.ok)

pub returns : goal.returns
returns c =
    subst (λ (N : Move). AreWhere N c.loop-instruction.values)
    (taken_all c.as_slice-instruction-items.result.now c.args.instructions.now c.loop-instruction.instruction-index
    c.as_slice-instruction-items.ensures c.loop-instruction-test.false)
    c.loop-instruction.invariant
