use Rattle.std.proofs.Common.{ap, arith}
use Rattle.asm_update.specs.Action.{is_of}
use Rattle.asm_update.specs.declared.action.Family.TheVariants.{Bag}
use Rattle.asm_step.proofs.Joined.{bag_removed_ok}
use Rattle.asm_step.proofs.amounts.Amounts.remove.Goals as goal

pub returns-clause-ok : goal.returns-clause-ok
returns-clause-ok g c =
    let some = c.in-Some.ensures in
    let had = c.count.ensures in
    let added = c.count-added.ensures in
    let n = c.get-n.ensures.value in
    let rest = c.saturating_sub-rest.ensures in
    let left = c.saturating_sub.ensures in
    bag_removed_ok (g.A.Aggregator.meaning c.args.aggregator.now) c.requires.known c.args.action.now (ap (is_of Bag) c.requires.removed) c.args.value.now
    c.recount.new.value c.args.self.now.added c.args.self.now.removed c.recount.new.from c.recount.new.to c.requires.some
    c.held.ensures c.held-2.ensures c.recount.result c.args.element.now c.args.amount c.in-Some.up c.saturating_sub.result
    c.requires.removed (omega (arith, left, added, n)) (omega (arith, some.1, had, added, n, rest)) (omega (arith, some.0, some.1)) c.recount.ensures.to c.recount.ensures.from c.recount.ensures.value
    c.recount.ensures.grown
