use Rattle.std.proofs.Common.{ap, ◌∙◌}
use Rattle.asm_element.specs.Set.{insert}
use Rattle.asm_trace.proofs.Making.{noted, unnoted, differ_from, alike_from}
use Rattle.asm_trace.proofs.bags.note.Goals as goal

pub returns-in_ok-insert : goal.returns-in_ok-insert
returns-in_ok-insert c = λ e.
    let a = c.args.old.now in
    let b = c.args.new.now in
    let x = c.args.element.now in
    noted a b c.args.set.now c.insert.new.self x e
    (differ_from a b x c.count.result c.count-2.result c.count.ensures c.count-2.ensures c.if-count.true)
    (c.in_ok-insert.ensures.ok ∙ ap (insert c.args.set.now) c.in_ok-copy.ensures)

pub returns-else-count : goal.returns-else-count
returns-else-count c = λ e.
    let a = c.args.old.now in
    let b = c.args.new.now in
    let x = c.args.element.now in
    unnoted a b c.args.set.now x e
    (alike_from a b x c.count.result c.count-2.result c.count.ensures c.count-2.ensures c.if-count.false)
