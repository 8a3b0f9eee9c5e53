use Rattle.std.proofs.Common.{◌≡◌, ◌<◌, ℕ, sym, ap, ◌∙◌, arith}
use Rattle.std.specs.Int.{bit_at, w64}
use Rattle.std.proofs.lemmas.Nat.Bits.{bit_at_set_same, bit_at_set_other, bit_at_clear_same, bit_at_clear_other}
use Rattle.asm_element.proofs.Bits.{bits-set}
use Rattle.asm_element.proofs.mask.MaskMarks.put.Goals as goal

pub returns-then-n-eq0 : goal.returns-then-n-eq0
returns-then-n-eq0 c =
    let w : ℕ = c.args.self.now.word in
    let lt : c.args.at < 64 = c.requires.in_range in
    bits-set 64 _ w c.args.at c.args.n lt (bit_at_clear_same w64 w c.args.at lt ∙ sym c.if-n-eq0.true) (λ j below other. bit_at_clear_other w64 w c.args.at lt j below other)

pub returns-else-n-eq0 : goal.returns-else-n-eq0
returns-else-n-eq0 c =
    let w : ℕ = c.args.self.now.word in
    let lt : c.args.at < 64 = c.requires.in_range in
    let one : 1 ≡ c.args.n = omega (arith, c.if-n-eq0.false, c.requires.fits) in
    bits-set 64 _ w c.args.at c.args.n lt (bit_at_set_same w64 w c.args.at lt ∙ one) (λ j below other. bit_at_set_other w64 w c.args.at lt j other)
