use Rattle.std.proofs.Common.{◌<◌, ◌+◌, ◌*◌, ◌++◌, ◌^◌, ◌≤◌, decimal, sym, ap, subst, ◌∙◌, arith}
use Rattle.asm_journal.proofs.Compact.{one_digit, zero_digit, first_digit, next_small}
use Rattle.asm_journal.proofs.front.scalars.digits.Goals as goal

pub returns-then-first-eq48-clause-text : goal.returns-then-first-eq48-clause-text
returns-then-first-eq48-clause-text c =
    zero_digit c.in_ok-first.first.now c.args.text.now c.in_ok-first.rest.now c.if-first-eq48.true c.in_ok-first.ensures.cases.0

pub digits-init : goal.digits-init
digits-init c =
    let digit = sym c.if-not-is_ascii_digit.ensures.value in
    let first = first_digit c.in_ok-first.first.now c.args.text.now c.in_ok-first.rest.now digit c.if-first-eq48.false c.in_ok-first.ensures.cases.0 in
    record {
      some = subst (λ n. 1 ≤ n) (sym c.from-value.ensures) first.some;
      small = subst (λ n. n < 2 ^ 63) (sym c.from-value.ensures) first.small;
      whole = first.whole ∙ ap (λ n. decimal n ++ c.in_ok-first.rest.now) (sym c.from-value.ensures);
    }

pub digits-preserved : goal.digits-preserved
digits-preserved c =
    let l = c.digits in
    let n = c.in-Some.next.now in
    let digit = sym c.if-not-is_ascii_digit-2.ensures.value in
    let below : l.value < 900000000000000000 = c.if-value-ge900000000000000000.false in
    let whole = one_digit l.value n c.args.text.now c.in-Some.more.now l.invariant.some below digit
    (l.invariant.whole ∙ ap (λ t. decimal l.value ++ t) c.in-Some.ensures.cases.0) in
    record {
      some = omega (arith, l.invariant.some);
      small = subst (λ m. l.value * 10 + m < 2 ^ 63) (sym c.from.ensures) (next_small l.value n below digit);
      whole = whole ∙ ap (λ m. decimal (l.value * 10 + m) ++ c.in-Some.more.now) (sym c.from.ensures);
    }
