use Rattle.std.proofs.Common.{sym, subst}
use Rattle.asm_step.specs.Next.{IsComposed}
use Rattle.asm_step.proofs.Answered.{followed_does, last_on}
use Rattle.asm_step.proofs.OneMove.{none_before, some_before}
use Rattle.asm_step.proofs.Prefixes.{no_top_by_test, top_by_test}
use Rattle.asm_step.proofs.step.Step.followed_by.Goals as goal

pub returns-then-is_none-clause-composed : goal.returns-then-is_none-clause-composed
returns-then-is_none-clause-composed g c =
    let a = g.A.Aggregator.meaning c.args.aggregator.now in
    let none = none_before c.args.self.now (no_top_by_test c.args.self.now c.top.result c.top.ensures.count c.if-is_none.ensures) in
    (subst (λ o. IsComposed a o c.args.instructions.now c.move_after.result) (sym none) c.move_after.ensures).0

pub returns-then-is_none-clause-all : goal.returns-then-is_none-clause-all
returns-then-is_none-clause-all g c old groups =
    let a = g.A.Aggregator.meaning c.args.aggregator.now in
    let none = none_before c.args.self.now (no_top_by_test c.args.self.now c.top.result c.top.ensures.count c.if-is_none.ensures) in
    followed_does a old c.args.self.now groups c.args.instructions.now c.move_after.result
    (subst (λ o. IsComposed a o c.args.instructions.now c.move_after.result) (sym none) c.move_after.ensures)

pub returns-then-is_none-clause-last : goal.returns-then-is_none-clause-last
returns-then-is_none-clause-last g c old groups B =
    let a = g.A.Aggregator.meaning c.args.aggregator.now in
    let none = none_before c.args.self.now (no_top_by_test c.args.self.now c.top.result c.top.ensures.count c.if-is_none.ensures) in
    last_on a old c.args.self.now groups c.args.instructions.now B c.move_after.result
    (subst (λ o. IsComposed a o c.args.instructions.now c.move_after.result) (sym none) c.move_after.ensures)

pub returns-clause-composed : goal.returns-clause-composed
returns-clause-composed g c =
    let a = g.A.Aggregator.meaning c.args.aggregator.now in
    let top = top_by_test c.args.self.now c.top.result c.top.ensures.count c.if-is_none.ensures in
    let some = some_before c.args.self.now top.0 c.in_ok-earlier.earlier top.1 c.in_ok-earlier.ensures.one in
    (subst (λ o. IsComposed a o c.args.instructions.now c.move_after-2.result) (sym some) c.move_after-2.ensures).0

pub returns-clause-all : goal.returns-clause-all
returns-clause-all g c old groups =
    let a = g.A.Aggregator.meaning c.args.aggregator.now in
    let top = top_by_test c.args.self.now c.top.result c.top.ensures.count c.if-is_none.ensures in
    let some = some_before c.args.self.now top.0 c.in_ok-earlier.earlier top.1 c.in_ok-earlier.ensures.one in
    followed_does a old c.args.self.now groups c.args.instructions.now c.move_after-2.result
    (subst (λ o. IsComposed a o c.args.instructions.now c.move_after-2.result) (sym some) c.move_after-2.ensures)

pub returns-clause-last : goal.returns-clause-last
returns-clause-last g c old groups B =
    let a = g.A.Aggregator.meaning c.args.aggregator.now in
    let top = top_by_test c.args.self.now c.top.result c.top.ensures.count c.if-is_none.ensures in
    let some = some_before c.args.self.now top.0 c.in_ok-earlier.earlier top.1 c.in_ok-earlier.ensures.one in
    last_on a old c.args.self.now groups c.args.instructions.now B c.move_after-2.result
    (subst (λ o. IsComposed a o c.args.instructions.now c.move_after-2.result) (sym some) c.move_after-2.ensures)
