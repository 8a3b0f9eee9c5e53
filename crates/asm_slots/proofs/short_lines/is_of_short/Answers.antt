use Rattle.std.proofs.Common.{arith}
use Rattle.asm_slots.proofs.ShortParts.{fire_of_short}
use Rattle.asm_slots.proofs.short_lines.is_of_short.Goals as goal

pub returns : goal.returns
returns c = λ short.
    fire_of_short c.args.reads.now c.args.instrs.now (omega (arith, c.if-reads-gt-SHORT_READS.false)) (omega (arith, c.if-instrs-gt-SHORT_MOVE.false)) (c.are_short.ensures c.if-not-are_short.false)
    (c.are_short-2.ensures short)
