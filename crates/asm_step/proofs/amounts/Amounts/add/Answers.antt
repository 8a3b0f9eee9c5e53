use Rattle.std.proofs.Common.{ap, arith}
use Rattle.asm_update.specs.Action.{is_of}
use Rattle.asm_update.specs.declared.action.Family.TheVariants.{Bag}
use Rattle.asm_step.proofs.Joined.{bag_added_ok}
use Rattle.asm_step.proofs.amounts.Amounts.add.Goals as goal

pub returns-clause-ok : goal.returns-clause-ok
returns-clause-ok g c =
    let some = c.in-Some.ensures in
    let had = c.count.ensures in
    let n = c.get.ensures.value in
    bag_added_ok (g.A.Aggregator.meaning c.args.aggregator.now) c.requires.known c.args.action.now (ap (is_of Bag) c.requires.added) c.args.value.now
    c.recount.new.value c.args.self.now.added c.args.self.now.removed c.recount.new.to c.recount.new.from c.requires.some
    c.held.ensures c.held-2.ensures c.recount.result c.args.element.now c.args.amount c.in-Some.up c.count-removed.result
    c.requires.added (omega (arith, some.1, had, n)) c.count-removed.ensures (omega (arith, some.0, some.1)) c.recount.ensures.to c.recount.ensures.from c.recount.ensures.value
    c.recount.ensures.grown
