-- The part of an agent that is no borrow: what is true of it beside its storage, what it attempts to append, and what
-- its calls do.
use Rattle.std.specs.Prelude.{◌≡◌, ℕ, List, ◌+◌, ◌-◌, ◌^◌, ◌<◌, ◌≤◌, length, take, Option, Some, None, Result, Ok, Err, Bool, true, false, nat_le, [], IfSome, IsOk, IsTrue}
use Rattle.std.specs.List.{list_all}
use Rattle.asm_row.specs.Seat.{SeatView}
use Rattle.asm_element.specs.Place.{Place}
use Rattle.asm_element.specs.declared.value.Value.{Value}
use Rattle.asm_update.specs.Move.{Move, all_regular, has_two}
use Rattle.asm_state.specs.declared.named.Named.{Named}
use Rattle.asm_storage.specs.declared.call.Call.TheVariants as call
use Rattle.asm_storage.specs.declared.part.offering.Asked.{Asked}
use Rattle.std.specs.declared.alloc.AllocError.{AllocError}
use mathlib.Core.List.{IsPrefix}
use Rattle.asm_update.specs.Aggregator.{Meaning}
use Rattle.asm_update.specs.Fire.{Part, fire, state_of}
use Rattle.asm_update.specs.State.{State}
use Rattle.asm_state.specs.FollowsFrom.{FollowsFrom}
use Rattle.asm_state.specs.Verdict.{least_stale}
use Rattle.asm_state.specs.View.{StateView}
use Rattle.asm_state.specs.declared.scanned.Scanned.{Scanned}
use Rattle.asm_storage.specs.declared.call.Answer.TheVariants as answer
use Rattle.asm_storage.specs.declared.call.Reply.{Reply}
use Rattle.asm_storage.specs.declared.call.Reply.TheVariants as reply
use Rattle.asm_storage.specs.declared.part.AgentPart.{AgentPart}
use Rattle.asm_storage.specs.declared.entry.Entry.{Entry}
use Rattle.asm_storage.specs.Limits.{agents_limit}
use Rattle.asm_storage.specs.Machine.{Machine, reply_to}
use Rattle.asm_storage.specs.History.{fired_move}
use Rattle.asm_storage.specs.Agents.{AgentView, IsAgent, moves_seen}
use Rattle.asm_storage.specs.Calls.{receipt_at, judged_on, IsReplied}
use Rattle.asm_storage.specs.Scans.{with_found, DependsOn, IsFound, IsNamedOver}
use Rattle.asm_storage.specs.Storage.{AgentAt, StorageView, machine_of, has_seen, has_polled, with_fired, with_receipt, last_poll}

-- the agent's entry of this move
pub record IsEntryOf (agent : ℕ) (M : Move) (e : Entry) : Type 0 where
  pub mine : e.agent ≡ agent
  pub instrs : e.instrs ≡ M

-- the fire of this move with these declared reads, and the entry that it may have is the agent's
pub record IsAsked (agent : ℕ) (reads : List Named) (M : Move) (a : Asked) : Type 0 where
  pub reads_is : a.reads ≡ reads
  pub instrs_is : a.instrs ≡ M
  pub entry : IfSome a.entry (λ b. IsEntryOf agent M b.value)

-- the agent that the part is of
abbrev pub account_of : AgentPart → AgentView
account_of p = record { id = p.id; seen = p.progress.seen; won = p.progress.won; receipts = p.receipts.items }

-- the same, at its storage
abbrev pub agent_of : {A : Type 0} → StorageView A → AgentPart → AgentAt A
agent_of s p = record { storage = s; misses = p.progress.misses; number = p.state.number; account = account_of p }

-- the state has followed the first moves that were seen
pub record IsFollowing (m : Machine) (seen : List Entry) (s : StateView) : Type 0 where
  pub within : s.number ≤ length seen
  pub stands : FollowsFrom m.part m.init s (take s.number (moves_seen seen))

-- the part is of an agent of the storage
pub record IsPartOf {A : Type 0} (meaning : A → Meaning) (s : StorageView A) (p : AgentPart) : Type 0 where
  pub row : p.progress.row ≡ s.row
  pub few : p.id < agents_limit
  pub counted : p.progress.misses ≤ 2 ^ 64 - 1
  pub agent : IsAgent (machine_of meaning s) (account_of p)
  pub following : IsFollowing (machine_of meaning s) p.progress.seen p.state

-- the agent has looked on: it has seen more, or counted misses, its state may have followed more, and nothing else of it
-- has changed
pub record HasPolledRow {A : Type 0} (meaning : A → Meaning) (s : StorageView A) (old new : AgentPart) : Type 0 where
  pub agent : agent_of s new ≡ has_polled (agent_of s old) new.progress.seen new.progress.misses new.state.number
  pub seen : IsPrefix old.progress.seen new.progress.seen
  pub onward : old.state.number ≤ new.state.number
  pub part : IsPartOf meaning s new

-- an attempt was lost: one entry more was seen, which is another's
pub record HasLostAttempt {A : Type 0} (s : StorageView A) (old new : AgentPart) : Type 0 where
  pub agent : agent_of s new ≡ has_seen (agent_of s old) new.progress.seen
  pub seen : IsPrefix old.progress.seen new.progress.seen
  pub longer : length new.progress.seen ≡ length old.progress.seen + 1

-- the attempt to append the move won, and this is the reply: the move is the one after those that had been seen
pub record HasWon {A : Type 0} (s : StorageView A) (old new : AgentPart) (reads : List Named) (M : Move) (r : Reply)
    : Type 0 where
  pub reply : r ≡ reply.Fired (length old.progress.seen + 1)
  pub agent : agent_of s new ≡ with_fired (agent_of s old)
      (receipt_at (length old.progress.seen) (call.Fire reads M) (answer.Fire r)) M

-- the reply to a fire after these moves, where it fires nothing; with None it is to fire
abbrev pub IsReplyAt : Part → State → List Move → Bool → List Named → Move → Option Reply → Type 0
IsReplyAt part A q full reads M (Some (reply.Stale l)) = least_stale part A q reads ≡ Some l
IsReplyAt part A q full reads M (Some (reply.Clash c)) =
    (least_stale part A q reads ≡ None) × (fire part (state_of part A q) M ≡ Err c)
IsReplyAt part A q full reads M (Some reply.Full) =
    (least_stale part A q reads ≡ None) × IsOk (fire part (state_of part A q) M) × IsTrue full
IsReplyAt part A q full reads M (Some (reply.Fired k)) = ⊥
IsReplyAt part A q full reads M None =
    (least_stale part A q reads ≡ None) × IsOk (fire part (state_of part A q) M) × (full ≡ false)

-- a fire is answered with this reply, which fires nothing; with None it is to fire, and there is room
abbrev pub IsJudged : Machine → List Entry → List Named → Move → Option Reply → Type 0
IsJudged m seen reads M (Some r) =
    (answer.Fire r ≡ reply_to m (moves_seen seen) (call.Fire reads M))
    × (fired_move (call.Fire reads M) (answer.Fire r) ≡ None)
IsJudged m seen reads M None =
    (answer.Fire (reply.Fired (length seen + 1)) ≡ reply_to m (moves_seen seen) (call.Fire reads M))
    × (length seen < m.capacity)

-- each instruction is a put, and no location is given two values
abbrev pub AreAgreed : Move → Type 0
AreAgreed M = (all_regular M ≡ true) × ((l : Place) → has_two M l ≡ false)

-- the move is sure to fire, whatever the state has: the row has room, there is no scan, each declared read is as new as all
-- that was seen, and the move has puts alone, which agree
pub record IsSure (p : SeatView Entry) (reads : List Named) (scans : List Scanned) (M : Move) : Type 0 where
  pub room : length p.seen < length p.row
  pub unscanned : scans ≡ []
  pub fresh : list_all (λ r. nat_le (length p.seen) r.number) reads ≡ true
  pub agreed : AreAgreed M

-- a fire was judged on all that the agent has seen. It has a reply, which fires nothing, is that of the sequential storage
-- to the fire that names what was found of the scans too, and has its receipt; or with None it is to fire, there is room,
-- no scan was overtaken, and the agent has not changed
abbrev pub IsJudgedOver : {A : Type 0} → (A → Meaning) → StorageView A → AgentPart → AgentPart → List Named →
    List Scanned → Move → Option Reply → Type 0
IsJudgedOver meaning s old new reads scans M (Some r) =
    let m = machine_of meaning s in (named : List Named)
    × IsNamedOver m (moves_seen old.progress.seen) reads scans named
    × (answer.Fire r ≡ reply_to m (moves_seen old.progress.seen) (call.Fire named M))
    × (fired_move (call.Fire named M) (answer.Fire r) ≡ None)
    × (agent_of s new ≡ with_receipt (agent_of s old)
    (receipt_at (length old.progress.seen) (call.Fire named M) (answer.Fire r)))
IsJudgedOver meaning s old new reads scans M None =
    let m = machine_of meaning s in
    (answer.Fire (reply.Fired (length old.progress.seen + 1)) ≡
    reply_to m (moves_seen old.progress.seen) (call.Fire reads M))
    × (length old.progress.seen < m.capacity)
    × IsFound m.part m.init (moves_seen old.progress.seen) scans None
    × (agent_of s new ≡ agent_of s old)

-- one turn of a fire: it was answered, or an attempt was lost, and another entry was seen
abbrev pub IsTurn : {A : Type 0} → (A → Meaning) → StorageView A → AgentPart → AgentPart → List Named → Move →
    Option Reply → Type 0
IsTurn meaning s old new reads M (Some r) = IsReplied meaning (agent_of s old) (agent_of s new) reads M r
IsTurn meaning s old new reads M None = HasPolledRow meaning s old new

-- one turn of a fire that depends on scans: it was answered, and depends on what was found; or an attempt was lost
abbrev pub IsTurnOver : {A : Type 0} → (A → Meaning) → StorageView A → AgentPart → AgentPart → List Named →
    List Scanned → Move → Option Reply → Type 0
IsTurnOver meaning s old new reads scans M (Some r) = (found : Option Named)
    × IsReplied meaning (agent_of s old) (agent_of s new) (with_found reads found) M r
    × DependsOn (machine_of meaning s) (moves_seen (judged_on r new.progress.seen)) scans found r
IsTurnOver meaning s old new reads scans M None = HasPolledRow meaning s old new

-- how many attempts the turn made
abbrev pub offers_in : Result (Option Reply) AllocError → ℕ
offers_in (Ok (Some (reply.Fired k))) = 1
offers_in (Ok (Some r)) = 0
offers_in (Ok None) = 1
offers_in (Err e) = 0

-- how many of its polls found nothing: one before an attempt, and else the last one, if there was one
abbrev pub misses_in : {A : Type 0} → AgentAt A → Result (Option Reply) AllocError → ℕ
misses_in new (Ok (Some (reply.Fired k))) = 1
misses_in new (Ok (Some r)) = last_poll new
misses_in new (Ok None) = 1
misses_in new (Err e) = last_poll new
