-- How the ends of an agent's steps determine its answered calls.
use Rattle.std.specs.Prelude.{◌≡◌, ◌+◌, ◌-◌, ◌*◌, ◌≤◌, ◌<◌, ◌⊎◌, ℕ, zero, suc, List, [], ◌∷◌, ◌++◌, length, map, take, All}
use Rattle.std.specs.Prelude.{None, Ok, Err}
use Rattle.asm_element.specs.Place.{Place}
use Rattle.asm_element.specs.declared.value.Value.{Value}
use Rattle.asm_update.specs.Aggregator.{Meaning}
use Rattle.asm_update.specs.Fire.{fire}
use Rattle.asm_update.specs.Move.{Move}
use Rattle.asm_update.specs.State.{State}
use Rattle.asm_update.specs.declared.clash.Clash.{Clash}
use Rattle.asm_state.specs.declared.named.Named.{Named}
use Rattle.asm_storage.specs.Limits.{offers_limit, reads_limit}
use Rattle.asm_storage.specs.Machine.{Machine, machine_state}
use Rattle.asm_storage.specs.declared.call.Call.TheVariants as call
use Rattle.asm_storage.specs.declared.call.Reply.TheVariants as reply
use Rattle.asm_storage.specs.declared.call.Answer.{Answer}
use Rattle.asm_storage.specs.declared.call.Answer.TheVariants as answer
use Rattle.asm_storage.specs.declared.history.Event.{Event}
use Rattle.asm_script.specs.StepReads.{AreReads}
use Rattle.asm_script.specs.Sequencing.{Clashes, fire_blocks, step_move_on, IsMoveFor}
use Rattle.asm_script.specs.declared.step.Step.{Step}
use Rattle.asm_script.specs.declared.fault.StepFault.{StepFault}
use Rattle.asm_script.specs.declared.fault.StepFault.TheVariants as fault
use Rattle.asm_play.specs.Limits.{tries_limit}
use Rattle.asm_play.specs.declared.step_end.StepEnd.{StepEnd}
use Rattle.asm_play.specs.declared.step_end.StepEnd.TheVariants as step_end

-- the state that the first n moves leave
abbrev pub state_at : Machine → List Move → ℕ → State
state_at m q n = machine_state m (take n q)

-- the answer is that of a read or of a stale fire
abbrev pub IsIdleAnswer : Answer → Type 0
IsIdleAnswer (answer.Read number values) = Unit {0}
IsIdleAnswer (answer.Fire (reply.Stale l)) = Unit {0}
IsIdleAnswer (answer.Fire _) = ⊥

-- the event is a read or a stale fire
abbrev pub IsIdle : Event → Type 0
IsIdle e = IsIdleAnswer e.answer

-- the event fired the k-th of the moves, which is that of the step on the state before it, and leaves what the blocks
-- of the step, fired in turn, leave there
abbrev pub IsFiring : Meaning → Machine → List Move → Step → ℕ → Event → Type 0
IsFiring own m q step k e =
    (reads : List Named) × (M : Move) × (e.call ≡ call.Fire reads M) × (e.answer ≡ answer.Fire (reply.Fired k))
    × (1 ≤ k) × (take k q ≡ take (k - 1) q ++ M ∷ []) × (step_move_on own (state_at m q (k - 1)) None step ≡ Ok M)
    × ((B : State) × (fire m.part (state_at m q (k - 1)) M ≡ Ok B)
    × (fire_blocks m.part (state_at m q (k - 1)) step ≡ Ok B))

-- the event is a fire that was answered by this clash, of the step's move on the state that some first moves leave; the
-- clash is that of the blocks there, fired in turn
abbrev pub IsClashing : Meaning → Machine → List Move → Step → Clash → Event → Type 0
IsClashing own m q step clash e =
    (reads : List Named) × (M : Move) × (e.call ≡ call.Fire reads M) × (e.answer ≡ answer.Fire (reply.Clash clash))
    × (n : ℕ) × (n ≤ length q) × (step_move_on own (state_at m q n) None step ≡ Ok M)
    × (fire_blocks m.part (state_at m q n) step ≡ Err (Clashes clash))

-- the event is a fire that found no room, of the step's move on the state that some first moves leave, of which there
-- are as many as the storage takes; the blocks, fired in turn there, leave a state
abbrev pub HasNoRoom : Meaning → Machine → List Move → Step → Event → Type 0
HasNoRoom own m q step e =
    (reads : List Named) × (M : Move) × (e.call ≡ call.Fire reads M) × (e.answer ≡ answer.Fire reply.Full)
    × (n : ℕ) × (n ≤ length q) × (m.capacity ≤ n) × (step_move_on own (state_at m q n) None step ≡ Ok M)
    × ((B : State) × (fire_blocks m.part (state_at m q n) step ≡ Ok B))

-- on the state that some first moves leave, the step has this fault, and its blocks stop accordingly
abbrev pub HasFault : Meaning → Machine → List Move → Step → StepFault → Type 0
HasFault own m q step f = (n : ℕ) × (n ≤ length q) × IsMoveFor own (state_at m q n) step (Err f)

-- the step reads more than 256 locations, or its moves compose to more than 4,096 instructions
abbrev pub Outgrows : Meaning → Machine → List Move → Step → Type 0
Outgrows own m q step = ((ls : List Place) × AreReads step ls × (reads_limit < length ls)) ⊎ HasFault own m q step fault.Many

-- 1 for the answer of a stale fire, else 0
abbrev pub stale_fire : Answer → ℕ
stale_fire (answer.Fire (reply.Stale l)) = 1
stale_fire (answer.Fire _) = 0
stale_fire (answer.Read number values) = 0

-- how many of the events are stale fires
abbrev pub stale_fires : List Event → ℕ
stale_fires [] = 0
stale_fires (e ∷ es) = stale_fire e.answer + stale_fires es

-- a location that was read at this number
abbrev pub name_at : ℕ → Place → Named
name_at n l = record { at = l; number = n }

-- the read of a try, which was answered at this number: one, of exactly these locations in their order; where there are
-- none, none
abbrev pub IsReading : List Place → ℕ → List Event → Type 0
IsReading [] n es = es ≡ []
IsReading (p ∷ ps) n es =
    (e : Event) × (vs : List Value) × (es ≡ e ∷ []) × (e.call ≡ call.Read (p ∷ ps)) × (e.answer ≡ answer.Read n vs)

-- no fire, or one of the step's move on the state that the first n moves leave; it names exactly these locations in their
-- order, each with the number n
abbrev pub IsNaming : Meaning → Machine → List Move → Step → List Place → ℕ → List Event → Type 0
IsNaming own m q step places n es =
    (es ≡ []) ⊎ ((e : Event) × (M : Move) × (es ≡ e ∷ []) × (e.call ≡ call.Fire (map (name_at n) places) M)
    × (step_move_on own (state_at m q n) None step ≡ Ok M))

-- The events of one try of a step that reads these locations: the read, and then at most one fire of the move that the
-- step has on what was read, which names all of this, with the number of the read.
abbrev pub IsTryOf : Meaning → Machine → List Move → Step → List Place → List Event → Type 0
IsTryOf own m q step places es =
    (n : ℕ) × (n ≤ length q) × (read fires : List Event) × (es ≡ read ++ fires) × IsReading places n read
    × IsNaming own m q step places n fires

-- the events of a try in vain, whose fire, if there is one, was stale; where the step reads no location, there are none
abbrev pub IsVainTry : Meaning → Machine → List Move → Step → List Place → List Event → Type 0
IsVainTry own m q step [] es = es ≡ []
IsVainTry own m q step (p ∷ ps) es = IsTryOf own m q step (p ∷ ps) es × All IsIdle es

-- the events of so many tries in vain, one after another
abbrev pub AreTries : Meaning → Machine → List Move → Step → List Place → ℕ → List Event → Type 0
AreTries own m q step places zero es = es ≡ []
AreTries own m q step places (suc n) es = (first last : List Event) × (es ≡ first ++ last)
    × AreTries own m q step places n first × IsVainTry own m q step places last

-- The events are those of so many tries in vain. Each was answered stale, except for some that were busy: they lost
-- 64 attempts each, to as many moves.
pub record AreInVain (own : Meaning) (m : Machine) (q : List Move) (step : Step) (places : List Place) (n : ℕ)
    (es : List Event) : Type 0 where
  pub tries : AreTries own m q step places n es
  pub busy : ℕ
  pub lost : offers_limit * busy ≤ length q
  pub counted : stale_fires es + busy ≡ n

-- the events are those of exactly 1,001 tries in vain
pub record IsGivenUp (own : Meaning) (m : Machine) (q : List Move) (step : Step) (places : List Place) (es : List Event)
    : Type 0 where
  pub few : length places ≤ reads_limit
  pub tried : ℕ
  pub all : tried ≡ tries_limit
  pub in_vain : AreInVain own m q step places tried es

-- the events are those of at most 1,000 tries in vain, and then of one whose fire, if there is one, isn't stale
pub record IsEndedAfter (own : Meaning) (m : Machine) (q : List Move) (step : Step) (places : List Place)
    (es : List Event) : Type 0 where
  pub few : length places ≤ reads_limit
  pub tried : ℕ
  pub most : tried < tries_limit
  pub first : List Event
  pub last : List Event
  pub parts : es ≡ first ++ last
  pub in_vain : AreInVain own m q step places tried first
  pub once : IsTryOf own m q step places last
  pub fresh : stale_fires last ≡ 0

-- the tries of a step that ended so, which reads these locations; where these are more than 256, it made no call
abbrev pub HasTriesOf : Meaning → Machine → List Move → Step → List Place → StepEnd → List Event → Type 0
HasTriesOf own m q step places step_end.GaveUp es = IsGivenUp own m q step places es
HasTriesOf own m q step places step_end.Many es =
    ((reads_limit < length places) × (es ≡ [])) ⊎ IsEndedAfter own m q step places es
HasTriesOf own m q step places _ es = IsEndedAfter own m q step places es

-- the tries of a step that ended so
abbrev pub HasTries : Meaning → Machine → List Move → Step → StepEnd → List Event → Type 0
HasTries own m q step o es = (places : List Place) × AreReads step places × HasTriesOf own m q step places o es

-- the events are idle except the last, which is so
abbrev pub EndsWith : (Event → Type 0) → List Event → Type 0
EndsWith P es = (idle : List Event) × (e : Event) × (es ≡ idle ++ e ∷ []) × All IsIdle idle × P e

-- the events are those of a step that ended so, by an aggregator of this meaning
abbrev pub AreStepEvents : Meaning → Machine → List Move → Step → StepEnd → List Event → Type 0
AreStepEvents own m q step (step_end.Fired k) es = EndsWith (IsFiring own m q step k) es
AreStepEvents own m q step step_end.Full es = EndsWith (HasNoRoom own m q step) es
AreStepEvents own m q step (step_end.Clash clash) es =
    EndsWith (IsClashing own m q step clash) es ⊎ (All IsIdle es × HasFault own m q step (fault.Clash clash))
AreStepEvents own m q step (step_end.Term term) es = All IsIdle es × HasFault own m q step (fault.Term term)
AreStepEvents own m q step (step_end.Large l) es = All IsIdle es × HasFault own m q step (fault.Large l)
AreStepEvents own m q step step_end.Many es = All IsIdle es × Outgrows own m q step
AreStepEvents own m q step step_end.GaveUp es = All IsIdle es

-- one end for each step, and the events are those of the steps' tries, in order
abbrev pub AreStepsEvents : Meaning → Machine → List Move → List Step → List StepEnd → List Event → Type 0
AreStepsEvents own m q [] [] es = es ≡ []
AreStepsEvents own m q [] (o ∷ os) es = ⊥
AreStepsEvents own m q (s ∷ ss) [] es = ⊥
AreStepsEvents own m q (s ∷ ss) (o ∷ os) es =
    (mine rest : List Event) × (es ≡ mine ++ rest) × AreStepEvents own m q s o mine × HasTries own m q s o mine
    × AreStepsEvents own m q ss os rest
