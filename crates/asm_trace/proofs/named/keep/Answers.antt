use Rattle.std.proofs.Common.{sym, ◌∙◌}
use Rattle.asm_trace.proofs.Unchanged.{kept, left_out}
use Rattle.asm_trace.proofs.named.keep.Goals as goal

pub returns-in_ok-insert : goal.returns-in_ok-insert
returns-in_ok-insert c =
    kept c.args.part.now c.args.whole.now c.args.action.now c.in-Some.element.now c.in-Some.ensures c.insert.new.self
    c.in_ok-copy.field-0 (sym c.contains.ensures ∙ c.if-contains.true) c.in_ok-insert.ensures.ok c.in_ok-copy.ensures

pub returns-else-contains : goal.returns-else-contains
returns-else-contains c =
    left_out c.args.part.now c.args.whole.now c.args.action.now c.in-Some.element.now c.in-Some.ensures
    (sym c.contains.ensures ∙ c.if-contains.false)
