use Rattle.std.proofs.Common.{subst}
use Rattle.std.proofs.lemmas.List.Elements.{All-more}
use Rattle.asm_update.specs.Action.{IsProperInstruction}
use Rattle.asm_update.proofs.proper.proper_instructions.Goals as goal

pub loop-instruction-preserved : goal.loop-instruction-preserved
loop-instruction-preserved c =
    All-more IsProperInstruction c.args.instructions.now c.loop-instruction.instruction-index c.instruction-item.result
    c.loop-instruction-test.true c.loop-instruction.invariant
    (subst IsProperInstruction c.instruction-item.is c.proper_instruction.ensures)
