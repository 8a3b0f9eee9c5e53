use Rattle.std.proofs.Common.{refl}
use Rattle.asm_aggregate.proofs.BagSteps.{short_here, take_counts}
use Rattle.asm_aggregate.proofs.bag_agg.take_removed.Goals as goal

pub returns-then-not-checked_take-clause-err : goal.returns-then-not-checked_take-clause-err
returns-then-not-checked_take-clause-err c =
    short_here _ _ _ _ _ c.in-BagRemove.is c.get.ensures.value c.if-not-checked_take.ensures.enough.1

pub returns-else-not-checked_take-clause-ok : goal.returns-else-not-checked_take-clause-ok
returns-else-not-checked_take-clause-ok c =
    take_counts _ _ _ _ _ _ c.in-BagRemove.is c.get.ensures.value (c.if-not-checked_take.ensures.enough.0 refl)
    c.if-not-checked_take.ensures.new
