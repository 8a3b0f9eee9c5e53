use Rattle.asm_step.proofs.Joined.{added_ok, exchanged_apart, removed_ok}
use Rattle.asm_step.proofs.SetLists.{apart_back}
use Rattle.asm_step.proofs.sides.Sides.join.Goals as goal

pub returns-in-SetAdd-clause-apart : goal.returns-in-SetAdd-clause-apart
returns-in-SetAdd-clause-apart g c =
    exchanged_apart c.exchange.result c.args.self.now.added c.args.self.now.removed c.exchange.new.to c.exchange.new.from
    c.in-SetAdd.element c.exchange.ensures.to c.exchange.ensures.from c.exchange.ensures.err_to c.exchange.ensures.err_from
    c.requires.apart

pub returns-in-SetAdd-clause-ok : goal.returns-in-SetAdd-clause-ok
returns-in-SetAdd-clause-ok g c =
    added_ok (g.A.Aggregator.meaning c.args.aggregator.now) c.requires.known c.args.action.now c.requires.partial
    c.args.value.now c.exchange.new.value c.args.self.now.added c.args.self.now.removed c.exchange.new.to c.exchange.new.from
    c.requires.some c.requires.apart c.proper.ensures c.in-SetAdd.element c.exchange.result c.in-SetAdd.is c.exchange.ensures.to
    c.exchange.ensures.from c.exchange.ensures.value c.exchange.ensures.grown

pub returns-in-SetRemove-clause-apart : goal.returns-in-SetRemove-clause-apart
returns-in-SetRemove-clause-apart g c =
    let e = c.exchange-in-SetRemove in
    apart_back e.new.to e.new.from
    (exchanged_apart e.result c.args.self.now.removed c.args.self.now.added e.new.to e.new.from
    c.in-SetRemove.element e.ensures.to e.ensures.from e.ensures.err_to e.ensures.err_from
    (apart_back c.args.self.now.added c.args.self.now.removed c.requires.apart))

pub returns-in-SetRemove-clause-ok : goal.returns-in-SetRemove-clause-ok
returns-in-SetRemove-clause-ok g c =
    let e = c.exchange-in-SetRemove in
    removed_ok (g.A.Aggregator.meaning c.args.aggregator.now) c.requires.known c.args.action.now c.requires.partial
    c.args.value.now e.new.value c.args.self.now.added c.args.self.now.removed e.new.from e.new.to
    c.requires.some c.requires.apart c.proper.ensures c.in-SetRemove.element e.result c.in-SetRemove.is e.ensures.to e.ensures.from
    e.ensures.value e.ensures.grown
