use Rattle.std.proofs.Common.{◌≡◌, ◌<◌, ◌≤◌, ◌+◌, ◌*◌, ◌/◌, ◌%◌, ◌^◌, ℕ, sym, ap, ◌∙◌, arith}
use Rattle.asm_element.proofs.Bits.{bits_opened, opened_fits, opened_less, unit}
use Rattle.asm_element.proofs.mask.opened.Goals as goal

pub overflow_mul-higher : goal.overflow_mul-higher
overflow_mul-higher c =
    let one = unit c.args.at c.requires.place in
    let less = opened_less c.args.word c.args.at in
    let is = ap (λ (u : ℕ). c.args.word % 9223372036854775808 / 2 ^ c.args.at * u) one in
    let top : c.args.word % 9223372036854775808 < 9223372036854775808 = omega arith in
    omega (arith, is, less, top)

pub overflow_add-result-3 : goal.overflow_add-result-3
overflow_add-result-3 c =
    let one = unit c.args.at c.requires.place in
    let fits = opened_fits c.args.word c.args.at c.requires.place in
    let is = ap (λ (u : ℕ). c.args.word % 9223372036854775808 / 2 ^ c.args.at * u) one in
    let top : c.args.word % 9223372036854775808 < 9223372036854775808 = omega arith in
    omega (arith, is, fits, top, one)

pub returns-then-n-eq0 : goal.returns-then-n-eq0
returns-then-n-eq0 c =
    let one = unit c.args.at c.requires.place in
    let is = ap (λ (u : ℕ). c.args.word % 9223372036854775808 / 2 ^ c.args.at * u) one in
    let none = ap (λ (m : ℕ). m * 2 ^ c.args.at) c.if-n-eq0.true in
    bits_opened c.args.word c.args.at c.args.n _ c.requires.place c.requires.fits (omega (arith, is, none))

pub returns : goal.returns
returns c =
    let unit_is = unit c.args.at c.requires.place in
    let is = ap (λ (u : ℕ). c.args.word % 9223372036854775808 / 2 ^ c.args.at * u) unit_is in
    let one : c.args.n ≡ 1 = omega (arith, c.if-n-eq0.false, c.requires.fits) in
    let some = ap (λ (m : ℕ). m * 2 ^ c.args.at) one in
    bits_opened c.args.word c.args.at c.args.n _ c.requires.place c.requires.fits (omega (arith, is, some, unit_is))
