use Rattle.std.proofs.Common.{ap}
use Rattle.std.specs.Option.{option_copied}
use Rattle.asm_aggregate.proofs.BagRecount.{lowered_by}
use Rattle.asm_aggregate.proofs.bag_change.lower_one.Goals as goal

pub returns-in-Some : goal.returns-in-Some
returns-in-Some c = lowered_by _ _ _ _ _ c.count.ensures c.lower_to.ensures _ (ap option_copied c.in-Some.is)
