-- A storage with the standard aggregator, its agents and moves may cross threads.
use mir.Syntax.{Lifetime}
use base.Fml.{Lft}
use denote.RattleType.{RattleType}
use denote.Ref.{NamedLft, ShrRef}
use denote.Slice.{ShrSlice}
use denote.Param.Send.{IsSend, IsSync, sendable, shr_send, shr_slice_send}
use Rattle.asm_element.proofs.Crossing.{location_is_shared}
use Rattle.asm_element.specs.contracts.location.Location as Location
use Rattle.asm_update.specs.declared.aggregator.Aggregator
use Rattle.asm_update.specs.contracts.instructions.Instructions as Instructions
use Rattle.asm_update.proofs.Crossing.{instructions_is_shared}
use Rattle.asm_aggregate.specs.contracts.pair.Pair as Pair
use Rattle.asm_aggregate.specs.contracts.pair.PairAggregator.TheImpl as OfPair
use Rattle.asm_aggregate.specs.contracts.set_agg.SetAgg as SetAgg
use Rattle.asm_aggregate.specs.contracts.set_agg.SetAggAggregator.TheImpl as OfSets
use Rattle.asm_aggregate.specs.contracts.bag_agg.BagAgg as BagAgg
use Rattle.asm_aggregate.specs.contracts.bag_agg.BagAggAggregator.TheImpl as OfBags
use Rattle.asm_aggregate.specs.contracts.count_agg.CountAgg as CountAgg
use Rattle.asm_aggregate.specs.contracts.count_agg.CountAggAggregator.TheImpl as OfCounts
use Rattle.asm_storage.specs.contracts.agent.Agent as Agent
use Rattle.asm_storage.specs.contracts.storage.Storage as Storage
use Rattle.asm_storage.proofs.Crossing.{storage_is_shared, agent_is_sent}

abbrev pub sets_and_bags : RattleType
sets_and_bags = Pair.the_row SetAgg.the_row BagAgg.the_row

abbrev pub standard : RattleType
standard = Pair.the_row sets_and_bags CountAgg.the_row

abbrev pub standard_ghosts : Aggregator.Ghosts standard.Denot
standard_ghosts = OfPair.ghosts sets_and_bags CountAgg.the_row
    (OfPair.ghosts SetAgg.the_row BagAgg.the_row OfSets.ghosts OfPair.no_dict OfBags.ghosts OfPair.no_dict) OfPair.no_dict
    OfCounts.ghosts OfPair.no_dict

pub standard_is_shared : IsSync standard
standard_is_shared = search sendable depth 30

pub standard_storage_is_shared : IsSync (Storage.the_row standard standard_ghosts)
standard_storage_is_shared = storage_is_shared standard standard_is_shared standard_ghosts

pub standard_agent_is_sent : (κ : NamedLft) → IsSend (Agent.the_row κ standard standard_ghosts)
standard_agent_is_sent κ = agent_is_sent standard standard_is_shared standard_ghosts κ

pub borrowed_storage : (ℓ : Lifetime) (κ : Lft) → IsSend (ShrRef ℓ κ (Storage.the_row standard standard_ghosts))
borrowed_storage ℓ κ = shr_send ℓ κ _ standard_storage_is_shared

pub borrowed_moves : (ℓ : Lifetime) (κ : Lft) → IsSend (ShrSlice ℓ κ Instructions.the_row)
borrowed_moves ℓ κ = shr_slice_send ℓ κ _ instructions_is_shared

pub borrowed_places : (ℓ : Lifetime) (κ : Lft) → IsSend (ShrSlice ℓ κ Location.the_row)
borrowed_places ℓ κ = shr_slice_send ℓ κ _ location_is_shared
