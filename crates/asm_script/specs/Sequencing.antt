-- Blocks in sequence: the state that they leave, and what is required of the one move of a step.
use Rattle.std.specs.Prelude.{◌≡◌, ◌≤◌, ◌<◌, ◌+◌, ℕ, [], ◌∷◌, length, nat_lt, if◌then◌else◌, Option, Some, None}
use Rattle.std.specs.Prelude.{Result, Ok, Err, unwrap_or, Contains}
use Rattle.asm_element.specs.Place.{Place}
use Rattle.asm_update.specs.Aggregator.{Meaning, NoJoin, Refused, TooLarge}
use Rattle.asm_update.specs.Fire.{Part, Old, fire, IsUpdateSet, IsLeastClash}
use Rattle.asm_update.specs.Limits.{instructions_limit}
use Rattle.asm_update.specs.Move.{Move}
use Rattle.asm_update.specs.State.{State, Updates, IsProper, val}
use Rattle.asm_aggregate.specs.Compose.{composition, IsSequence, NeverFires}
use Rattle.asm_update.specs.declared.clash.Clash.{Clash}
use Rattle.asm_script.specs.Blocks.{move_in}
use Rattle.asm_script.specs.StepReads.{named}
use Rattle.asm_script.specs.declared.block.Block.{Block}
use Rattle.asm_script.specs.declared.step.Step.{Step}
use Rattle.asm_script.specs.declared.term.NoValue.{NoValue}
use Rattle.asm_script.specs.declared.fault.StepFault.{StepFault}
use Rattle.asm_script.specs.declared.fault.StepFault.TheVariants.{Term, Clash as Clashing, Large, Many, Memory}

-- why blocks in sequence leave no state
pub data Stop : Type 0 where
  FaultyTerm : Stop
  Clashes : Clash → Stop

-- what firing leaves, or why it stops
abbrev pub fired_or_stopped : Result State Clash → Result State Stop
fired_or_stopped (Ok A) = Ok A
fired_or_stopped (Err clash) = Err (Clashes clash)

-- what firing the move leaves, if there is one; where a term was faulty there is none
abbrev pub fire_move : Part → State → Result Move (ℕ × NoValue) → Result State Stop
fire_move part A (Ok M) = fired_or_stopped (fire part A M)
fire_move part A (Err faulty) = Err FaultyTerm

-- the state that a block leaves; its terms have their values in the state before it
abbrev pub fire_block : Part → State → Block → Result State Stop
fire_block part A b = fire_move part A (move_in (val A) b)

-- what comes after a state, if there is one
abbrev pub on_state : (State → Result State Stop) → Result State Stop → Result State Stop
on_state next (Ok A) = next A
on_state next (Err stop) = Err stop

-- the state that the blocks of a step leave, fired in turn (sequential composition in Börger and Stärk)
abbrev pub fire_blocks : Part → State → Step → Result State Stop
fire_blocks part A [] = Ok A
fire_blocks part A (b ∷ bs) = on_state (λ B. fire_blocks part B bs) (fire_block part A b)

-- a state that a program can hold, and that has what is looked up at each location that the step names
pub record IsReadOf (A : State) (old : Old) (step : Step) : Type 0 where
  pub proper : IsProper A
  pub same : (l : Place) → Contains (named step) l → val A l ≡ old l

-- some clash stops the blocks
abbrev pub IsStopped : Result State Stop → Type 0
IsStopped r = (clash : Clash) × (r ≡ Err (Clashes clash))

-- the fault of a step that is refused at a location
abbrev pub refused_at : Place → NoJoin → StepFault
refused_at l (Refused cause) = Clashing (record { at = l; cause = cause })
refused_at l TooLarge = Large l

-- what was composed, if it has at most 4,096 instructions, or the fault
abbrev pub fitting : Result Move (Place × NoJoin) → Result Move StepFault
fitting (Ok C) = if nat_lt instructions_limit (length C) then Err Many else Ok C
fitting (Err (l, refusal)) = Err (refused_at l refusal)

-- what the earlier moves, if there are any, and then the next one compose to, or the fault
abbrev pub composed_on : Meaning → Option Move → Move → Result Move StepFault
composed_on a None N = Ok N
composed_on a (Some M) N = fitting (composition a M N)

-- what comes after the move of the block with this number, if there is one; else the instruction whose term has no value
abbrev pub on_move : ℕ → (Move → Result Move StepFault) → Result Move (ℕ × NoValue) → Result Move StepFault
on_move number next (Ok M) = next M
on_move number next (Err (n, why)) = Err (Term (record { block = number; instruction = n; why = why }))

-- what comes after the state that is left, if there is one
abbrev pub on_fired : (State → Result Move StepFault) → Result State Clash → Result Move StepFault
on_fired next (Ok B) = next B
on_fired next (Err clash) = Err (Clashing clash)

-- what comes after moves that compose
abbrev pub on_composed : (Move → Result Move StepFault) → Result Move StepFault → Result Move StepFault
on_composed next (Ok C) = next C
on_composed next (Err fault) = Err fault

-- The one move of these blocks on a state, or why there is none; before it come moves that compose to this one. The
-- blocks count from this number on. Each block's terms have their values in the state that the blocks before it leave. The
-- last block isn't fired.
abbrev pub step_move_from : Meaning → State → ℕ → Option Move → Step → Result Move StepFault
step_move_from a A n before [] = Ok (unwrap_or before [])
step_move_from a A n before (b ∷ []) = on_move n (composed_on a before) (move_in (val A) b)
step_move_from a A n before (b ∷ c ∷ bs) =
    on_move n (λ M. on_fired (λ B. on_composed (λ C. step_move_from a B (n + 1) (Some C) (c ∷ bs)) (composed_on a before M))
    (fire a.part A M)) (move_in (val A) b)

-- the one move of a step on a state, or the first fault of its blocks
abbrev pub step_move_on : Meaning → State → Option Move → Step → Result Move StepFault
step_move_on a A before step = step_move_from a A 0 before step

-- What is required of a step's move on a state that was read: it is the one there. Firing it leaves what the blocks
-- leave, and its clash is theirs. Where a term is faulty, the blocks stop there. Where blocks clash, or an amount or
-- a sum is too large, a clash stops them in turn.
abbrev pub IsMoveFor : Meaning → State → Step → Result Move StepFault → Type 0
IsMoveFor a A step (Ok M) =
    (step_move_on a A None step ≡ Ok M) × (fire_blocks a.part A step ≡ fired_or_stopped (fire a.part A M))
IsMoveFor a A step (Err (Term faulty)) =
    (step_move_on a A None step ≡ Err (Term faulty)) × (fire_blocks a.part A step ≡ Err FaultyTerm)
IsMoveFor a A step (Err (Clashing clash)) =
    (step_move_on a A None step ≡ Err (Clashing clash)) × IsStopped (fire_blocks a.part A step)
IsMoveFor a A step (Err (Large l)) =
    (step_move_on a A None step ≡ Err (Large l)) × IsStopped (fire_blocks a.part A step)
IsMoveFor a A step (Err Many) = step_move_on a A None step ≡ Err Many
IsMoveFor a A step (Err Memory) = Unit {0}

-- the answer is that of the step on each state that was read
abbrev pub IsStepMove : Meaning → Old → Step → Result Move StepFault → Type 0
IsStepMove a old step answer = (A : State) → IsReadOf A old step → IsMoveFor a A step answer

-- the answer is the move's update set, or its clash
abbrev pub IsFrame : Part → Old → Move → Result Updates StepFault → Type 0
IsFrame part old M (Ok U) = IsUpdateSet part old M U
IsFrame part old M (Err (Clashing clash)) = IsLeastClash part old M clash
IsFrame part old M (Err Memory) = Unit {0}
IsFrame part old M (Err _) = ⊥

-- the answer is what the earlier move, if there is one, and the next one compose to, and does what they do in turn; or
-- why they don't compose, and where they are refused no state lets both fire
abbrev pub Extends : Meaning → Option Move → Move → Result Move StepFault → Type 0
Extends a None N (Ok C) = C ≡ N
Extends a None N (Err fault) = ⊥
Extends a (Some M) N (Ok C) = IsSequence a.part M N C × (composition a M N ≡ Ok C) × (length C ≤ instructions_limit)
Extends a (Some M) N (Err (Term faulty)) = ⊥
Extends a (Some M) N (Err (Clashing clash)) =
    NeverFires a.part M N × (composition a M N ≡ Err (clash.at, Refused clash.cause))
Extends a (Some M) N (Err (Large l)) = NeverFires a.part M N × (composition a M N ≡ Err (l, TooLarge))
Extends a (Some M) N (Err Many) = (C : Move) × (composition a M N ≡ Ok C) × (instructions_limit < length C)
Extends a (Some M) N (Err Memory) = Unit {0}
