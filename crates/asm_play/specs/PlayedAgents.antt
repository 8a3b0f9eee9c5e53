-- What the agents of a storage leave when each played its steps, and how faults of playing are reported.
use Rattle.std.specs.Prelude.{◌+◌, ℕ, List, [], ◌∷◌, get_or}
use Rattle.asm_update.specs.Aggregator.{Meaning}
use Rattle.asm_storage.specs.Agents.{AgentView}
use Rattle.asm_storage.specs.Storage.{AgentAt, StorageView, at_start, IsMissing}
use Rattle.asm_storage.specs.declared.error.CloseError.{CloseError}
use Rattle.asm_storage.specs.declared.error.CloseError.TheVariants as close_error
use Rattle.asm_play.specs.AgentPlay.{Plays}
use Rattle.asm_play.specs.declared.step_end.StepEnd.{StepEnd}
use Rattle.asm_play.specs.declared.outcome.RunError.{RunError}
use Rattle.asm_play.specs.declared.outcome.RunError.TheVariants as run_error
use Rattle.asm_script.specs.declared.step.Step.{Step}

-- the steps at the agent's number, or none
abbrev pub steps_at : {A : Type 0} → List (List Step) → AgentAt A → List Step
steps_at sss a = get_or sss a.account.id []

-- from the number id on, each agent of the storage played its steps, with these ends, having made no call before
abbrev pub ArePlayed : {A : Type 0} → (A → Meaning) → Meaning → StorageView A → ℕ → List (List Step) →
    List (AgentAt A) → List (List StepEnd) → Type 0
ArePlayed meaning own s id [] [] [] = Unit {0}
ArePlayed meaning own s id (ss ∷ sss) (a ∷ agents) (os ∷ oss) =
    Plays meaning own (at_start s id) a ss os × ArePlayed meaning own s (id + 1) sss agents oss
ArePlayed meaning own s id _ _ _ = ⊥

-- an error of closing as one of the run
abbrev pub run_error_of_close : CloseError → RunError
run_error_of_close (close_error.Missing k) = run_error.Missing k
run_error_of_close close_error.Memory = run_error.Memory

-- why these agents weren't closed: the move without a receipt is the one that their storage reports, and else memory
-- was refused
abbrev pub IsNotClosed : List AgentView → RunError → Type 0
IsNotClosed agents (run_error.Missing k) = IsMissing agents (close_error.Missing k)
IsNotClosed agents run_error.Memory = Unit {0}
IsNotClosed agents run_error.NoThread = ⊥
IsNotClosed agents run_error.BadCapacity = ⊥
