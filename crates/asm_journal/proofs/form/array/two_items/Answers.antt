use Rattle.asm_journal.proofs.Arrays.{none_gives, no_first, no_second, just_two, more_than_two}
use Rattle.asm_journal.proofs.form.array.two_items.Goals as goal

pub returns-in_err-first-clause-none : goal.returns-in_err-first-clause-none
returns-in_err-first-clause-none c =
    none_gives c.from_residual.result _ (no_first c.args.items.now c.in_err-first.ensures.cases)

pub returns-in_err-second-clause-none : goal.returns-in_err-second-clause-none
returns-in_err-second-clause-none c =
    none_gives c.from_residual-in_err-second.result _ (no_second c.args.items.now c.in_ok-first.rest.now c.in_ok-first.first.now c.in_ok-first.ensures.cases.0 c.in_err-second.ensures.cases)

pub returns-then-is_empty-clause-some : goal.returns-then-is_empty-clause-some
returns-then-is_empty-clause-some c =
    just_two c.args.items.now c.in_ok-first.rest.now c.in_ok-second.rest.now c.in_ok-first.first.now c.in_ok-second.second.now c.is_empty.result
    c.in_ok-first.ensures.cases.0 c.in_ok-second.ensures.cases.0 c.is_empty.ensures c.if-is_empty.true

pub returns-else-is_empty-clause-none : goal.returns-else-is_empty-clause-none
returns-else-is_empty-clause-none c =
    more_than_two c.args.items.now c.in_ok-first.rest.now c.in_ok-second.rest.now c.in_ok-first.first.now c.in_ok-second.second.now c.is_empty.result
    c.in_ok-first.ensures.cases.0 c.in_ok-second.ensures.cases.0 c.is_empty.ensures c.if-is_empty.false
