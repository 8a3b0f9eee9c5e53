use Rattle.asm_trace.proofs.Unchanged.{brought, stayed}
use Rattle.asm_trace.proofs.named.raise.Goals as goal

pub returns-in_ok-put : goal.returns-in_ok-put
returns-in_ok-put c =
    brought c.args.part.now c.args.whole.now c.args.action.now c.in-Some.element.now c.in-Some.ensures c.count-had.result
    c.count-count.result c.count-had.ensures c.count-count.ensures c.put.new.self c.in_ok-copy.field-0
    c.in_ok-put.ensures.ok c.in_ok-copy.ensures

pub returns-else-had-count : goal.returns-else-had-count
returns-else-had-count c =
    stayed c.args.part.now c.args.whole.now c.args.action.now c.in-Some.element.now c.in-Some.ensures c.count-had.result
    c.count-count.result c.count-had.ensures c.count-count.ensures c.if-had-count.false
