-- Histories: events in one order, when they are those of the storage of one thread, the run of their moves, and the law of
-- replicas: who plays the same calls in the same order gets the same answers.
use Rattle.std.specs.Prelude.{◌≡◌, ℕ, zero, suc, ◌+◌, ◌-◌, ◌<◌, ◌≤◌, List, [], ◌∷◌, ◌++◌, length, All, take, filter, Option, Some, None, Ok, nat_eq, map}
use Rattle.std.specs.List.{filter_map}
use Rattle.asm_update.specs.Move.{Move}
use Rattle.asm_update.specs.State.{State, val}
use Rattle.asm_update.specs.Fire.{fire}
use Rattle.asm_state.specs.FollowsFrom.{after_move}
use Rattle.asm_storage.specs.declared.call.Call.{Call}
use Rattle.asm_storage.specs.declared.call.Call.TheVariants as call
use Rattle.asm_storage.specs.declared.call.Reply.TheVariants as reply
use Rattle.asm_storage.specs.declared.call.Answer.{Answer}
use Rattle.asm_storage.specs.declared.call.Answer.TheVariants as answer
use Rattle.asm_storage.specs.declared.history.Event.{Event}
use Rattle.asm_storage.specs.declared.history.History.{History}
use Rattle.asm_row.specs.Limits.{capacity_limit}
use Rattle.asm_storage.specs.Limits.{agents_limit, reads_limit, events_limit}
use Rattle.asm_storage.specs.Machine.{Machine, machine_state, reply_to}
use Rattle.asm_storage.specs.Proper.{IsProper}

-- the move of a fire that was answered Fired
abbrev pub fired_move : Call → Answer → Option Move
fired_move (call.Fire reads instrs) (answer.Fire (reply.Fired k)) = Some instrs
fired_move _ _ = None

-- the move of an event that fired
abbrev pub move_of : Event → Option Move
move_of e = fired_move e.call e.answer

-- the moves of a history: those of its events that fired
abbrev pub fired_moves : List Event → List Move
fired_moves h = filter_map move_of h

-- the events of one agent, in order
abbrev pub events_of : List Event → ℕ → List Event
events_of h i = filter (λ e. nat_eq e.agent i) h

-- each event's answer is the reply to its call after the events before it
abbrev pub IsLegal : Machine → List Event → Type 0
IsLegal m h = (before after : List Event) (e : Event) →
    before ++ e ∷ after ≡ h → e.answer ≡ reply_to m (fired_moves before) e.call

-- a step of the machine: one move of one agent, and the state that it leaves
pub record RunStep : Type 0 where
  pub agent : ℕ
  pub move : Move
  pub state : State

-- a run from the state A: each step's move fires on the state before it, and leaves the step's state
abbrev pub IsRun : Machine → State → List RunStep → Type 0
IsRun m A [] = Unit {0}
IsRun m A (s ∷ ss) = (fire m.part A s.move ≡ Ok s.state) × IsRun m s.state ss

-- the step of a move of the agent, if there is one, and the others after it
abbrev pub step_and : Machine → State → ℕ → Option Move → (State → List RunStep) → List RunStep
step_and m A agent None rest = rest A
step_and m A agent (Some M) rest =
    record { agent = agent; move = M; state = after_move m.part A M } ∷ rest (after_move m.part A M)

-- the steps of the fired moves of a history, from the state A
abbrev pub steps_from : Machine → State → List Event → List RunStep
steps_from m A [] = []
steps_from m A (e ∷ h) = step_and m A e.agent (move_of e) (λ B. steps_from m B h)

-- the move finds each location that it names unchanged since the number under which it names it, where that number is
-- at most the number of moves before it; a location that is named at a greater number isn't tested
abbrev pub IsCoherentAt : Machine → List Move → Call → ℕ → Type 0
IsCoherentAt m q (call.Read places) before = Unit {0}
IsCoherentAt m q (call.Fire reads instrs) before = All (λ r. r.number ≤ before →
    val (machine_state m (take r.number q)) r.at ≡ val (machine_state m (take before q)) r.at) reads

-- each fired move does
abbrev pub IsCoherent : Machine → List Event → Type 0
IsCoherent m h = All (λ e. (k : ℕ) →
    e.answer ≡ answer.Fire (reply.Fired k) → IsCoherentAt m (fired_moves h) e.call (k - 1)) h

-- the number that a Fired event answers
abbrev pub fired_number : Answer → Option ℕ
fired_number (answer.Fire (reply.Fired k)) = Some k
fired_number _ = None

-- the numbers of the fired moves, in order
abbrev pub numbers : List Event → List ℕ
numbers h = filter_map (λ e. fired_number e.answer) h

-- so many numbers, from one up
abbrev pub count_up : ℕ → ℕ → List ℕ
count_up from zero = []
count_up from (suc count) = from ∷ count_up (from + 1) count

-- at most 256 locations or declared reads, and an answer to such a call; a read has a value for each location
abbrev pub CallFits : Call → Answer → Type 0
CallFits (call.Read places) (answer.Read number values) = (length places ≤ reads_limit) × (length values ≡ length places)
CallFits (call.Fire reads instrs) (answer.Fire r) = length reads ≤ reads_limit
CallFits _ _ = ⊥

-- the event is one of so many agents, and its call and answer fit
pub record EventFits (agents : ℕ) (e : Event) : Type 0 where
  pub agent : e.agent < agents
  pub call : CallFits e.call e.answer

-- the history is within the limits of a journal
pub record Fits (h : History) : Type 0 where
  pub agents : h.agents ≤ agents_limit
  pub some : 1 ≤ h.capacity
  pub capacity : h.capacity ≤ capacity_limit
  pub few : length h.events ≤ events_limit
  pub events : All (EventFits h.agents) h.events
  -- what it holds is what a program can hold, so each list in it has at most 4,096 items and nests at most 8 deep
  pub proper : IsProper h

-- the calls of a history, in order
abbrev pub calls_in : List Event → List Call
calls_in h = map (λ e. e.call) h

-- its answers, in order
abbrev pub answers_in : List Event → List Answer
answers_in h = map (λ e. e.answer) h

-- Two legal histories of one machine whose calls are equal, in order, have equal answers, whichever agents made the calls.
abbrev pub CallsDecideAnswers : Type 0
CallsDecideAnswers = (m : Machine) (g h : List Event) →
    IsLegal m g → IsLegal m h → calls_in g ≡ calls_in h → answers_in g ≡ answers_in h

-- And they have equal moves, in order, so that the machine is in the same state after both.
abbrev pub CallsDecideMoves : Type 0
CallsDecideMoves = (m : Machine) (g h : List Event) →
    IsLegal m g → IsLegal m h → calls_in g ≡ calls_in h → fired_moves g ≡ fired_moves h
