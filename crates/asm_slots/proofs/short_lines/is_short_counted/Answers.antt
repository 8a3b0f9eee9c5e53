use Rattle.std.proofs.Common.{arith}
use Rattle.asm_slots.proofs.short_lines.is_short_counted.Goals as goal

pub returns : goal.returns
returns c = λ short. omega (arith, c.short_number.ensures, c.is_short.ensures short)
