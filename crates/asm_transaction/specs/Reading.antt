-- What a transaction shows of the state at its version, and what it tracks of that.
use Rattle.std.specs.Prelude.{◌≡◌, ◌≢◌, ◌≤◌, ◌<◌, ◌+◌, ◌⊎◌, ℕ, List, [], ◌∷◌, ◌++◌, length, Contains, Ok, take, filter, IsTrue}
use Rattle.asm_element.specs.Place.{Place}
use Rattle.asm_element.specs.declared.value.Value.{Value}
use Rattle.asm_state.specs.Scans.{has_name}
use Rattle.asm_update.specs.Aggregator.{Meaning}
use Rattle.asm_update.specs.Fire.{Old}
use Rattle.asm_update.specs.State.{State, val}
use Rattle.asm_storage.specs.Agents.{moves_seen}
use Rattle.asm_storage.specs.Limits.{reads_limit}
use Rattle.asm_storage.specs.Machine.{machine_state}
use Rattle.asm_storage.specs.Storage.{AgentAt, machine_of}
use Rattle.asm_step.specs.InTurn.{fire_all}
use Rattle.asm_step.specs.Layers.{IsStepOf, shows_below}
use Rattle.asm_step.specs.Places.{AreEach}
use Rattle.asm_transaction.specs.View.{TransactionView, moves_of, pushed}
use Rattle.asm_transaction.specs.declared.error.TransactionError.{TransactionError}
use Rattle.asm_transaction.specs.declared.error.TransactionError.TheVariants as transaction_error

-- the state at this version: what so many first moves leave of those that the agent has seen
abbrev pub state_at : {A : Type 0} → (A → Meaning) → AgentAt A → ℕ → State
state_at meaning a n = machine_state (machine_of meaning a.storage) (take n (moves_seen a.account.seen))

-- the transaction is one of this agent: the agent has seen the moves up to its version, and its layers are those of
-- its pushed moves over the state there. `begin` makes it so, and each call of either keeps it
pub record IsOf {A : Type 0} (meaning : A → Meaning) (a : AgentAt A) (t : TransactionView) : Type 0 where
  pub reached : t.number ≤ length a.account.seen
  pub step : IsStepOf (meaning a.storage.agg).part (val (state_at meaning a t.number)) t.layers (pushed t)

-- the value is what the state at its version has at the location, once the pushed moves have fired there in turn
abbrev pub IsShown : {A : Type 0} → (A → Meaning) → AgentAt A → TransactionView → Place → Value → Type 0
IsShown meaning a t l v =
    (S : State) × (fire_all (meaning a.storage.agg).part (Ok (state_at meaning a t.number)) (moves_of t) ≡ Ok S)
    × (v ≡ val S l)

-- these values are what it shows, at each location
abbrev pub Shows : {A : Type 0} → (A → Meaning) → AgentAt A → TransactionView → Old → Type 0
Shows meaning a t seen = (l : Place) → IsShown meaning a t l (seen l)

-- those of the locations at which what is shown is made from the state at its version
abbrev pub from_below : TransactionView → List Place → List Place
from_below t locations = filter (shows_below t.layers) locations

-- it tracks these of the locations too, and nothing else of it has changed
abbrev pub HasTracked : List Place → TransactionView → TransactionView → Type 0
HasTracked locations old new =
    (new ≡ record old { tracked = new.tracked }) × AreEach (old.tracked ++ from_below old locations) new.tracked
    × (length new.tracked + length new.scanned ≤ reads_limit)

-- with these more than 256 places would be taken, one by each tracked location and one by each scanned function
abbrev pub WouldTakeMany : List Place → TransactionView → Type 0
WouldTakeMany locations t =
    (ls : List Place) × AreEach (t.tracked ++ from_below t locations) ls × (reads_limit < length ls + length t.scanned)

-- why the locations aren't tracked
abbrev pub IsUntracked : List Place → TransactionView → TransactionError → Type 0
IsUntracked locations t transaction_error.Memory = Unit {0}
IsUntracked locations t transaction_error.ManyReads = WouldTakeMany locations t
IsUntracked locations t transaction_error.Moved = ⊥

-- why a location isn't seen: the agent's own state is at this version, which isn't the transaction's
abbrev pub IsUnseen : ℕ → TransactionView → TransactionError → Type 0
IsUnseen n t transaction_error.Moved = n ≢ t.number
IsUnseen n t transaction_error.Memory = Unit {0}
IsUnseen n t transaction_error.ManyReads = ⊥

-- why it isn't read: so, or it would take one place more
abbrev pub IsUnread : Place → ℕ → TransactionView → TransactionError → Type 0
IsUnread l n t transaction_error.Moved = n ≢ t.number
IsUnread l n t e = IsUntracked (l ∷ []) t e

-- the location is one of a function that it scanned
abbrev pub IsOfScanned : TransactionView → Place → Type 0
IsOfScanned t l = (name : List ℕ) × Contains t.scanned name × IsTrue (has_name name l)

-- it has read the location of the state at its version, alone or with its function
abbrev pub HasRead : TransactionView → Place → Type 0
HasRead t l = Contains t.tracked l ⊎ IsOfScanned t l
