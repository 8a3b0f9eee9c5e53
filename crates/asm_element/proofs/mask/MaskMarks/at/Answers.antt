use Rattle.std.proofs.Common.{◌≡◌, ◌<◌, ℕ, sym, ap, ◌∙◌, arith}
use Rattle.std.specs.Int.{bit_at}
use Rattle.std.proofs.lemmas.Nat.Bits.{shr_and_one, bit_at-lt}
use Rattle.asm_element.proofs.Bits.{get_or-bits}
use Rattle.asm_element.proofs.mask.MaskMarks.at.Goals as goal

pub returns-then-self-at-eq1-clause-value : goal.returns-then-self-at-eq1-clause-value
returns-then-self-at-eq1-clause-value c =
    sym (get_or-bits 64 c.args.self.now.word c.args.at c.requires ∙ sym (shr_and_one c.args.self.now.word c.args.at) ∙ c.if-self-at-eq1.true)

pub returns-else-self-at-eq1-clause-value : goal.returns-else-self-at-eq1-clause-value
returns-else-self-at-eq1-clause-value c =
    let is = shr_and_one c.args.self.now.word c.args.at in
    let small = bit_at-lt c.args.self.now.word c.args.at in
    let none : 0 ≡ bit_at c.args.self.now.word c.args.at = omega (arith, is, small, c.if-self-at-eq1.false) in
    none ∙ sym (get_or-bits 64 c.args.self.now.word c.args.at c.requires)
