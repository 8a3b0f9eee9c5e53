-- What the check of a history answers.
use Rattle.std.specs.Prelude.{◌≡◌, ◌≢◌, ℕ, Bool, true, false, List, [], ◌∷◌, ◌++◌, length, Option, Some, None}
use Rattle.std.specs.List.{cons_option}
use Rattle.asm_update.specs.Move.{Move}
use Rattle.asm_update.specs.State.{State}
use Rattle.asm_update.specs.Fire.{Part}
use Rattle.asm_state.specs.View.{StateView}
use Rattle.asm_state.specs.FollowsFrom.{FollowsFrom}
use Rattle.asm_state.specs.declared.verdict.Objection.{Objection}
use Rattle.asm_state.specs.declared.verdict.Objection.TheVariants as objection
use Rattle.asm_storage.specs.Machine.{Machine, reply_to, fired_or_full}
use Rattle.asm_storage.specs.History.{move_of, fired_moves, IsLegal}
use Rattle.asm_storage.specs.declared.call.Reply.{Reply}
use Rattle.asm_storage.specs.declared.call.Reply.TheVariants as reply
use Rattle.asm_storage.specs.declared.history.Event.{Event}
use Rattle.asm_storage.specs.declared.history.History.{History}
use Rattle.asm_journal.specs.declared.checking.Legality.{Legality}
use Rattle.asm_journal.specs.declared.checking.Legality.TheVariants.{Legal, Illegal}

-- the storage of one thread with this meaning of partial updates, this opening state and this capacity
abbrev pub machine : Part → State → ℕ → Machine
machine part init capacity = record { part = part; init = init; capacity = capacity }

-- the storage that a history was made with
abbrev pub machine_of : Part → History → Machine
machine_of part h = machine part h.init h.capacity

-- the event with this number, counted from 0, is the first with another answer than the storage of one thread gives
pub record IsFirstWrong (m : Machine) (events : List Event) (number : ℕ) : Type 0 where
  pub before : List Event
  pub event : Event
  pub after : List Event
  pub stands : before ++ event ∷ after ≡ events
  pub counted : length before ≡ number
  pub legal : IsLegal m before
  pub wrong : event.answer ≢ reply_to m (fired_moves before) event.call

-- legal, with so many events and so many moves, or illegal, first at this event
abbrev pub IsLegality : Machine → List Event → Legality → Type 0
IsLegality m events (Legal calls n) = IsLegal m events × (calls ≡ length events) × (n ≡ length (fired_moves events))
IsLegality m events (Illegal number) = IsFirstWrong m events number

-- ---- one event

-- the reply that reports an objection
abbrev pub objection_reply : Objection → Reply
objection_reply (objection.Stale l) = reply.Stale l
objection_reply (objection.Clash c) = reply.Clash c

-- the reply, after so many moves, to a move with this objection or with none
abbrev pub judged_reply : ℕ → ℕ → Option Objection → Reply
judged_reply capacity number (Some o) = objection_reply o
judged_reply capacity number None = fired_or_full capacity number

-- whether the move was fired
abbrev pub was_fired : Reply → Bool
was_fired (reply.Fired k) = true
was_fired _ = false

-- the moves with that of the event, if it has one
abbrev pub moves_with : List Move → Event → List Move
moves_with q e = q ++ cons_option (move_of e) []

-- whether the answer is right after the moves that the state has followed; if so, the new state has followed the
-- event's move too, and else it is the old one
abbrev pub IsStep : Part → ℕ → Event → StateView → StateView → Bool → Type 0
IsStep part capacity e old new true = (init : State) (q : List Move) → FollowsFrom part init old q →
    (e.answer ≡ reply_to (machine part init capacity) q e.call) × FollowsFrom part init new (moves_with q e)
IsStep part capacity e old new false = (new ≡ old) × ((init : State) (q : List Move) → FollowsFrom part init old q →
    e.answer ≢ reply_to (machine part init capacity) q e.call)
