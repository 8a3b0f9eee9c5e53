-- The standard aggregator: its type, what it computes, and how a move fires by that.
use Rattle.asm_update.specs.Aggregator.{Meaning}
use Rattle.asm_update.specs.Fire.{Part}
use Rattle.asm_aggregate.specs.BagMeaning.{bag_meaning}
use Rattle.asm_aggregate.specs.CountMeaning.{count_meaning}
use Rattle.asm_aggregate.specs.PairMeaning.{pair_meaning}
use Rattle.asm_aggregate.specs.SetMeaning.{set_meaning}
use Rattle.asm_aggregate.specs.declared.bag_agg.BagAgg.{BagAgg}
use Rattle.asm_aggregate.specs.declared.count_agg.CountAgg.{CountAgg}
use Rattle.asm_aggregate.specs.declared.pair.Pair.{Pair}
use Rattle.asm_aggregate.specs.declared.set_agg.SetAgg.{SetAgg}

-- aggregators of sets, of bags and of counters, as one
abbrev pub Standard : Type 0
Standard = Pair (Pair SetAgg BagAgg) CountAgg

-- sets, bags and counters, each by its own
unfoldable pub standard_meaning : Meaning
standard_meaning = pair_meaning (pair_meaning set_meaning bag_meaning) count_meaning

-- and how a move fires by it
abbrev pub standard_part : Part
standard_part = standard_meaning.part
