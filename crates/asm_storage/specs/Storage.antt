-- What contracts see of a storage, and of an agent with its storage.
use Rattle.std.specs.Prelude.{◌≡◌, ℕ, ◌+◌, ◌-◌, ◌^◌, ◌≤◌, min, List, [], ◌∷◌, ◌++◌, length, map, nat_lt, refl, if◌then◌else◌}
use Rattle.std.specs.Coded.{Coded, code_by, coded×, coded_ℕ, coded_list}
use Rattle.asm_update.specs.Aggregator.{Meaning}
use Rattle.asm_update.specs.Move.{Move}
use Rattle.asm_update.specs.State.{State}
use Rattle.asm_storage.specs.declared.call.Answer.{Answer}
use Rattle.asm_storage.specs.declared.call.Call.{Call}
use Rattle.asm_storage.specs.declared.error.CloseError.{CloseError}
use Rattle.asm_storage.specs.declared.error.CloseError.TheVariants.{Missing, Memory}
use Rattle.asm_storage.specs.declared.entry.Entry.{Entry}
use Rattle.asm_storage.specs.declared.receipt.Receipt.{Receipt}
use Rattle.asm_storage.specs.Agents.{AgentView, IsLeastMissing, most_seen, moves_seen}
use Rattle.asm_storage.specs.Machine.{Machine, reply_to}

-- the cells of its row, its aggregator and its opening state
pub record StorageView (A : Type 0) : Type 0 where
  pub row : List ℕ
  pub agg : A
  pub init : State

-- the sequential storage of this one
abbrev pub machine_of : {A : Type 0} → (A → Meaning) → StorageView A → Machine
machine_of meaning s = record { part = (meaning s.agg).part; init = s.init; capacity = length s.row }

-- an agent, the storage that it works on, how many of its polls found an empty cell, and the version of its own
-- state: how many of the moves that it has seen that state has followed
pub record AgentAt (A : Type 0) : Type 0 where
  pub storage : StorageView A
  pub misses : ℕ
  pub number : ℕ
  pub account : AgentView

-- it is stored as a tuple
abbrev pub storage_code : {A : Type 0} → Coded A → Coded State → Coded (StorageView A)
storage_code {A} a s =
    code_by (List ℕ × (A × State)) (coded× (coded_list coded_ℕ) (coded× a s)) (λ v. (v.row, (v.agg, v.init)))
    (λ p. record { row = p.0; agg = p.1.0; init = p.1.1 }) (λ _. refl)

-- it is stored as a tuple
abbrev pub agent_code : {A : Type 0} → Coded (StorageView A) → Coded AgentView → Coded (AgentAt A)
agent_code {A} s a =
    code_by (StorageView A × (ℕ × (ℕ × AgentView))) (coded× s (coded× coded_ℕ (coded× coded_ℕ a)))
    (λ v. (v.storage, (v.misses, (v.number, v.account))))
    (λ p. record { storage = p.0; misses = p.1.0; number = p.1.1.0; account = p.1.1.1 }) (λ _. refl)

-- the agents without their storage
abbrev pub accounts : {A : Type 0} → List (AgentAt A) → List AgentView
accounts agents = map (λ a. a.account) agents

-- the agent works on the storage
abbrev pub IsOf : {A : Type 0} → StorageView A → AgentAt A → Type 0
IsOf s a = a.storage ≡ s

-- the agent of the same number on the same storage
pub record IsSameAgent {A : Type 0} (old new : AgentAt A) : Type 0 where
  pub storage : new.storage ≡ old.storage
  pub id : new.account.id ≡ old.account.id

-- `Missing` has the smallest number of a move that one of them has seen and none has a receipt of
abbrev pub IsMissing : List AgentView → CloseError → Type 0
IsMissing agents (Missing number) = (k : ℕ) × (number ≡ k + 1) × IsLeastMissing agents (most_seen agents) k
IsMissing agents Memory = Unit {0}

-- an agent of the storage that has made no call
abbrev pub at_start : {A : Type 0} → StorageView A → ℕ → AgentAt A
at_start s id =
    record { storage = s; misses = 0; number = 0; account = record { id = id; seen = []; won = 0; receipts = [] } }

-- the agent when it has seen this
abbrev pub has_seen : {A : Type 0} → AgentAt A → List Entry → AgentAt A
has_seen a seen = record a { account = record a.account { seen = seen } }

-- the agent when it has seen this, after polls, and its state has this version
abbrev pub has_polled : {A : Type 0} → AgentAt A → List Entry → ℕ → ℕ → AgentAt A
has_polled a seen misses number = record a { misses = misses; number = number; account = record a.account { seen = seen } }

-- its own state has followed all that it has seen
abbrev pub IsUpToDate : {A : Type 0} → AgentAt A → Type 0
IsUpToDate a = a.number ≡ length a.account.seen

-- its own state didn't go back, and has followed no more than was seen
pub record FollowsOn {A : Type 0} (old new : AgentAt A) : Type 0 where
  pub onward : old.number ≤ new.number
  pub within : new.number ≤ length new.account.seen

-- the agent when it has one receipt more
abbrev pub with_receipt : {A : Type 0} → AgentAt A → Receipt → AgentAt A
with_receipt a r = record a { account = record a.account { receipts = a.account.receipts ++ r ∷ [] } }

-- the agent when it has fired a move, with the receipt of it
abbrev pub with_fired : {A : Type 0} → AgentAt A → Receipt → Move → AgentAt A
with_fired a r M =
    record a {
      account = record {
        id = a.account.id;
        seen = a.account.seen ++ record { agent = a.account.id; instrs = M } ∷ [];
        won = a.account.won + 1;
        receipts = a.account.receipts ++ r ∷ [];
      };
    }

-- the agent's answer to the call is the one of the storage of one thread after what it has seen
abbrev pub IsReplyOf : {A : Type 0} → (A → Meaning) → AgentAt A → Call → Answer → Type 0
IsReplyOf meaning a call answer = answer ≡ reply_to (machine_of meaning a.storage) (moves_seen a.account.seen) call

-- how many polls an agent that polls until no move is left counts as misses: one, or none where it has then seen the
-- whole row
abbrev pub last_poll : {A : Type 0} → AgentAt A → ℕ
last_poll a = if nat_lt (length a.account.seen) (length a.storage.row) then 1 else 0

-- so many more polls found nothing; they are counted up to 2^64 - 1
abbrev pub Missed : {A : Type 0} → AgentAt A → ℕ → AgentAt A → Type 0
Missed before polls after = after.misses ≡ min (before.misses + polls) (2 ^ 64 - 1)
