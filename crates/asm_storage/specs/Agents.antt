-- What contracts see of an agent, and how the receipts of agents merge into one history.
use Rattle.std.specs.Prelude.{◌≡◌, ◌≢◌, ℕ, zero, suc, ◌+◌, ◌<◌, ◌≤◌, max, Bool, true, false, ◌&&◌, not, nat_eq, All}
use Rattle.std.specs.Prelude.{List, [], ◌∷◌, ◌++◌, length, map, filter, take, slice_get, Some, is_some}
use Rattle.std.specs.Prelude.{if◌then◌else◌, refl}
use Rattle.std.specs.Coded.{Coded, code_by, coded×, coded_ℕ, coded_list}
use Rattle.std.specs.List.{list_any, flat_map}
use Rattle.std.specs.List.Sorted.{IsStrictlyIncreasing}
use mathlib.Core.List.{IsPrefix}
use Rattle.asm_update.specs.Move.{Move}
use Rattle.asm_storage.specs.declared.history.Event.{Event}
use Rattle.asm_storage.specs.declared.entry.Entry.{Entry}
use Rattle.asm_storage.specs.declared.receipt.Receipt.{Receipt}
use Rattle.asm_storage.specs.Machine.{Machine, reply_to}
use Rattle.asm_storage.specs.History.{fired_move, fired_moves, events_of, IsLegal, IsRun, steps_from, IsCoherent, numbers, count_up}

-- an agent: its number, what it has seen of the row, how many of its attempts to append won, and its receipts
pub record AgentView : Type 0 where
  pub id : ℕ
  pub seen : List Entry
  pub won : ℕ
  pub receipts : List Receipt

-- it is stored as a tuple
abbrev pub account_code : Coded Entry → Coded Receipt → Coded AgentView
account_code e r =
    code_by (ℕ × (List Entry × (ℕ × List Receipt)))
    (coded× coded_ℕ (coded× (coded_list e) (coded× coded_ℕ (coded_list r))))
    (λ a. (a.id, (a.seen, (a.won, a.receipts))))
    (λ p. record { id = p.0; seen = p.1.0; won = p.1.1.0; receipts = p.1.1.1 }) (λ _. refl)

-- the moves of the entries that were seen
abbrev pub moves_seen : List Entry → List Move
moves_seen seen = map (λ x. x.instrs) seen

-- whether the receipt is of a fired move
abbrev pub is_fired : Receipt → Bool
is_fired r = is_some (fired_move r.call r.answer)

-- the smallest number that the next receipt may have
abbrev pub next_after : Receipt → ℕ
next_after r = if is_fired r then r.stood + 1 else r.stood

-- no receipt's number is below that of the one before it, nor below the move that that one fired
abbrev pub AreInOrder : ℕ → List Receipt → Type 0
AreInOrder from [] = Unit {0}
AreInOrder from (r ∷ rs) = (from ≤ r.stood) × AreInOrder (next_after r) rs

-- the smallest number that a receipt after these may have
abbrev pub next_stood : ℕ → List Receipt → ℕ
next_stood from [] = from
next_stood from (r ∷ rs) = next_stood (next_after r) rs

-- the entry of the move that the receipt fired is in what the agent has seen
abbrev pub IsInRow : ℕ → List Entry → Receipt → Type 0
IsInRow id seen r = (M : Move) → fired_move r.call r.answer ≡ Some M →
    slice_get seen r.stood ≡ Some (record { agent = id; instrs = M })

-- what is true of an agent of a storage that was opened with m
pub record IsAgent (m : Machine) (a : AgentView) : Type 0 where
  pub replied : All (λ r. r.answer ≡ reply_to m (take r.stood (moves_seen a.seen)) r.call) a.receipts
  pub in_order : AreInOrder 0 a.receipts
  pub within : next_stood 0 a.receipts ≤ length a.seen
  pub in_row : All (IsInRow a.id a.seen) a.receipts
  pub won_is : a.won ≡ length (filter is_fired a.receipts)

-- a receipt as an event of the agent
abbrev pub event_of : ℕ → Receipt → Event
event_of id r = record { agent = id; call = r.call; answer = r.answer }

-- whether a receipt has that number and fired nothing
abbrev pub is_quiet_at : ℕ → Receipt → Bool
is_quiet_at n r = nat_eq r.stood n && not (is_fired r)

-- whether it has that number and fired the move with the next number
abbrev pub is_move_at : ℕ → Receipt → Bool
is_move_at n r = nat_eq r.stood n && is_fired r

-- the agent's events at a number that fired nothing
abbrev pub quiet_at : ℕ → AgentView → List Event
quiet_at n a = map (event_of a.id) (filter (is_quiet_at n) a.receipts)

-- the agent's move with the next number, if it fired that
abbrev pub fired_at : ℕ → AgentView → List Event
fired_at n a = map (event_of a.id) (filter (is_move_at n) a.receipts)

-- the events at a number: those that fired nothing, agent by agent, then the move with the next number
abbrev pub round : List AgentView → ℕ → List Event
round agents n = flat_map (quiet_at n) agents ++ flat_map (fired_at n) agents

-- so many rounds, from the number n up
abbrev pub rounds : List AgentView → ℕ → ℕ → List Event
rounds agents n zero = []
rounds agents n (suc count) = round agents n ++ rounds agents (n + 1) count

-- the greatest of the numbers that f gives, or 0
abbrev pub most : {X : Type 0} → (X → ℕ) → List X → ℕ
most f [] = 0
most f (x ∷ xs) = max (f x) (most f xs)

-- the greatest number of a receipt
abbrev pub last_stood : List AgentView → ℕ
last_stood agents = most (λ a. most (λ r. r.stood) a.receipts) agents

-- the receipts of the agents as one history
abbrev pub merged : List AgentView → List Event
merged agents = rounds agents 0 (last_stood agents + 1)

-- the most moves that one of them has seen
abbrev pub most_seen : List AgentView → ℕ
most_seen agents = most (λ a. length a.seen) agents

-- whether one of them has a receipt of the move at k, which has the number k + 1
abbrev pub has_receipt : List AgentView → ℕ → Bool
has_receipt agents k = list_any (λ a. list_any (is_move_at k) a.receipts) agents

-- agents of one storage in the order of their numbers, whose receipts have every move that one of them has seen
pub record IsGathered (m : Machine) (all : List Entry) (agents : List AgentView) : Type 0 where
  pub each : All (IsAgent m) agents
  pub ids : IsStrictlyIncreasing (map (λ a. a.id) agents)
  pub prefixes : All (λ a. IsPrefix a.seen all) agents
  pub longest : length all ≡ most_seen agents
  pub none_missing : (k : ℕ) → k < length all → has_receipt agents k ≡ true

-- the history has each answered call of the agents once, each agent's in its own order, as the sequential storage
-- answers them in that order, and its fired moves are a run of the machine from the opening state
pub record IsHistoryOf (m : Machine) (agents : List AgentView) (h : List Event) : Type 0 where
  pub own_receipts : All (λ a. events_of h a.id ≡ map (event_of a.id) a.receipts) agents
  pub no_others : (i : ℕ) → All (λ a. a.id ≢ i) agents → events_of h i ≡ []
  pub legal : IsLegal m h
  pub run : IsRun m m.init (steps_from m m.init h)
  pub seen_first : All (λ a. IsPrefix (moves_seen a.seen) (fired_moves h)) agents
  pub numbered : numbers h ≡ count_up 1 (length (fired_moves h))
  pub coherent : IsCoherent m h

-- no receipt has the move at k, which one of the agents has seen, and one has each move before it
pub record IsLeastMissing (agents : List AgentView) (bound k : ℕ) : Type 0 where
  pub below : k < bound
  pub missing : has_receipt agents k ≡ false
  pub least : (j : ℕ) → j < k → has_receipt agents j ≡ true

-- their numbers
abbrev pub ids : List AgentView → List ℕ
ids agents = map (λ a. a.id) agents

-- one more than the greatest of their numbers, or 0
abbrev pub id_bound : List AgentView → ℕ
id_bound agents = most (λ a. a.id + 1) agents

-- each move that one of them has seen has a receipt
abbrev pub NoneMissing : List AgentView → Type 0
NoneMissing agents = (k : ℕ) → k < most_seen agents → has_receipt agents k ≡ true
