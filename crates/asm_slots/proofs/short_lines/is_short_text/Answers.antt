use Rattle.std.proofs.Common.{arith, length}
use Rattle.std.proofs.lemmas.Bool.{leb-true}
use Rattle.asm_slots.proofs.LineRooms.{quoted_short}
use Rattle.asm_slots.proofs.short_lines.is_short_text.Goals as goal

pub returns : goal.returns
returns c = λ short. omega (arith, quoted_short c.args.text.now, leb-true (length c.args.text.now) 1000 short)
