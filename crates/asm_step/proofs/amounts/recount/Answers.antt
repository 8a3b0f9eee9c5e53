use Rattle.asm_step.proofs.BagCounts.{recounted, restored}
use Rattle.asm_step.proofs.amounts.recount.Goals as goal

pub returns-in-Ok-true-clause-grown : goal.returns-in-Ok-true-clause-grown
returns-in-Ok-true-clause-grown g c =
    recounted c.args.to.now c.args.from.now c.raise_to.new.self c.lower_to.new.self c.args.element.now c.args.up c.args.down
    c.count-before.result c.count-had.result c.comes.result c.comes-in-Ok-true.result c.one_if.result c.one_if-in-Ok-true.result
    c.held.ensures c.held-2.ensures c.requires.up c.requires.down c.in_ok-raise_to.ensures.ok c.lower_to.ensures
    c.count-before.ensures c.count-had.ensures c.comes.ensures c.comes-in-Ok-true.ensures c.one_if.ensures c.one_if-in-Ok-true.ensures

pub returns-in-Ok-false-clause-to : goal.returns-in-Ok-false-clause-to
returns-in-Ok-false-clause-to g c =
    restored c.args.to.now c.raise_to.new.self c.lower_to-in-Ok-false.new.self c.args.element.now c.args.up c.count-before.result
    c.held.ensures c.requires.up c.ranges.up.fits c.count-before.ensures c.in_ok-raise_to.ensures.ok c.lower_to-in-Ok-false.ensures

pub returns-in-Err-clause-err_to : goal.returns-in-Err-clause-err_to
returns-in-Err-clause-err_to g c =
    restored c.args.to.now c.raise_to.new.self c.lower_to-in-Err.new.self c.args.element.now c.args.up c.count-before.result
    c.held.ensures c.requires.up c.ranges.up.fits c.count-before.ensures c.in_ok-raise_to.ensures.ok c.lower_to-in-Err.ensures
