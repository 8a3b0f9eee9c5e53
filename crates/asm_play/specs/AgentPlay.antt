-- What playing its steps leaves of an agent.
use Rattle.std.specs.Prelude.{◌≡◌, List, ◌++◌, map, All}
use mathlib.Core.List.{IsPrefix}
use Rattle.asm_update.specs.Aggregator.{Meaning}
use Rattle.asm_update.specs.Action.{IsProperInstruction}
use Rattle.asm_update.specs.Move.{Move}
use Rattle.asm_update.specs.State.{State, IsProper}
use Rattle.asm_storage.specs.Agents.{event_of, moves_seen}
use Rattle.asm_storage.specs.Storage.{AgentAt, IsSameAgent, machine_of}
use Rattle.asm_storage.specs.declared.receipt.Receipt.{Receipt}
use Rattle.asm_play.specs.StepEvents.{AreStepsEvents}
use Rattle.asm_script.specs.declared.step.Step.{Step}
use Rattle.asm_play.specs.declared.step_end.StepEnd.{StepEnd}

-- a state and moves that a program can hold
pub record AreProper (A : State) (q : List Move) : Type 0 where
  pub state : IsProper A
  pub moves : All (All IsProperInstruction) q

-- The agent played the steps, by an aggregator of this meaning: it is the same agent, which has seen what it had seen,
-- and the receipts that it has more are those of the steps with these ends.
pub record Plays {A : Type 0} (meaning : A → Meaning) (own : Meaning) (old new : AgentAt A) (steps : List Step)
    (ends : List StepEnd) : Type 0 where
  pub same : IsSameAgent old new
  pub begins : IsPrefix old.account.seen new.account.seen
  pub more : List Receipt
  pub added : new.account.receipts ≡ old.account.receipts ++ more
  pub reported : (meaning old.storage.agg).part ≡ own.part → AreProper old.storage.init (moves_seen new.account.seen) →
      AreStepsEvents own (machine_of meaning old.storage) (moves_seen new.account.seen) steps ends
      (map (event_of old.account.id) more)
