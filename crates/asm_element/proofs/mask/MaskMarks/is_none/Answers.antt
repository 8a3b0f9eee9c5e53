use Rattle.std.proofs.Common.{◌≡◌, ◌<◌, ℕ, get_or, ap, ◌∙◌}
use Rattle.std.specs.Cmp.{unsigned_Decides}
use Rattle.std.proofs.lemmas.Nat.Bits.{bit_at-zero}
use Rattle.asm_element.specs.Bits.{bits}
use Rattle.asm_element.proofs.Bits.{get_or-bits}
use Rattle.asm_element.proofs.mask.MaskMarks.is_none.Goals as goal

pub returns : goal.returns
returns c is k lt = ap (λ (w : ℕ). get_or (bits 64 w) k 0) ((unsigned_Decides c.args.self.now.word 0).0 is) ∙ get_or-bits 64 0 k lt ∙ bit_at-zero k
