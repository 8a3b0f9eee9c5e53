use Rattle.asm_element.proofs.Bits.{bits-zero}
use Rattle.asm_element.proofs.mask.MaskMarks.none.Goals as goal

pub returns : goal.returns
returns c = bits-zero 64
