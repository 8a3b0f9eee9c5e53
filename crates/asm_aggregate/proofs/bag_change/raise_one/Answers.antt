use Rattle.std.proofs.Common.{ap}
use Rattle.std.specs.Option.{option_copied}
use Rattle.asm_aggregate.proofs.BagRecount.{raised_by}
use Rattle.asm_aggregate.proofs.bag_change.raise_one.Goals as goal

pub returns-in_ok-raise_to-clause-ok : goal.returns-in_ok-raise_to-clause-ok
returns-in_ok-raise_to-clause-ok c =
    raised_by _ _ _ _ _ c.count.ensures c.in_ok-raise_to.ensures.ok _ (ap option_copied c.in-Some.is)
