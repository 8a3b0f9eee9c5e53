use Rattle.std.proofs.Common.{arith}
use Rattle.asm_driver_tests.proofs.limits.tries_have_limits.Goals as goal

pub returns-clause-in_vain : goal.returns-clause-in_vain
returns-clause-in_vain c own m q s places n es vain = (vain.lost, vain.counted)

pub returns-clause-given_up : goal.returns-clause-given_up
returns-clause-given_up c own m q s places es given = (given.all, given.few)

pub returns-clause-ended : goal.returns-clause-ended
returns-clause-ended c own m q s places es after = (omega (arith, after.most), after.few, after.fresh)
