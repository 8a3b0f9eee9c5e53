-- What a storage is closed into.
use Rattle.std.specs.Prelude.{◌≡◌, List, length}
use Rattle.asm_update.specs.Aggregator.{Meaning}
use Rattle.asm_storage.specs.declared.history.History.{History}
use Rattle.asm_storage.specs.Agents.{IsHistoryOf, NoneMissing, id_bound, merged}
use Rattle.asm_storage.specs.Storage.{AgentAt, StorageView, accounts, machine_of}

-- the history of these agents: the answered calls of each once and in their order, each with the answer of the storage
-- of one thread, merged by the number of moves at which they were answered
pub record IsClosed {A : Type 0} (meaning : A → Meaning) (s : StorageView A) (all : List (AgentAt A)) (history : History)
    : Type 0 where
  pub init : history.init ≡ s.init
  pub capacity : history.capacity ≡ length s.row
  pub agents : history.agents ≡ id_bound (accounts all)
  pub events : history.events ≡ merged (accounts all)
  pub reported : IsHistoryOf (machine_of meaning s) (accounts all) history.events
  pub none_missing : NoneMissing (accounts all)
