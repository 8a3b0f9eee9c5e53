use Rattle.asm_step.proofs.SetLists.{exchanged}
use Rattle.asm_step.proofs.sides.exchange.Goals as goal

pub returns-in-Ok-true-clause-grown : goal.returns-in-Ok-true-clause-grown
returns-in-Ok-true-clause-grown g c =
    exchanged c.args.to.now c.args.from.now c.insert.new.self c.remove-was_there.new.self c.in_ok-copy.field-0 c.args.element.now
    c.in_ok-is_new.is_new c.remove-was_there.result c.one_if.result c.one_if-in-Ok-true.result c.in_ok-copy.ensures
    c.in_ok-is_new.ensures.added c.in_ok-is_new.ensures.ok c.remove-was_there.ensures.removed c.remove-was_there.ensures.new
    c.one_if.ensures c.one_if-in-Ok-true.ensures
