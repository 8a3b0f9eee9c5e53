-- The moves of a layer as one.
use Rattle.std.specs.Prelude.{◌≡◌, ◌≤◌, ◌<◌, ◌⊎◌, All, List, [], ◌∷◌, ◌++◌, length, Option, None, Some, Result, Ok, Err, IsErr, true, false, unwrap_or}
use Rattle.asm_element.specs.Place.{Place}
use Rattle.asm_update.specs.Action.{IsProperInstruction}
use Rattle.asm_update.specs.Aggregator.{Meaning, Refused, TooLarge}
use Rattle.asm_update.specs.Fire.{Old, Part, fire}
use Rattle.asm_update.specs.Limits.{instructions_limit}
use Rattle.asm_update.specs.Move.{Move, writes}
use Rattle.asm_update.specs.State.{State, IsProper}
use Rattle.asm_aggregate.specs.Compose.{KeepsSequence}
use Rattle.asm_aggregate.specs.declared.composition.ComposeError.{ComposeError}
use Rattle.asm_aggregate.specs.declared.composition.ComposeError.TheVariants as compose_error
use Rattle.asm_step.specs.Answer.{continued}
use Rattle.asm_step.specs.Dependencies.{AgreesAtDependencies, KeepsGroups, depends, left_by, one_writes, puts, sees_below}
use Rattle.asm_step.specs.InTurn.{fire_all, DoesAll, DoesEach}
use Rattle.asm_step.specs.Layers.{Layer, IsStepOf, all_moves, one_move}
use Rattle.asm_step.specs.Next.{KeepsEach}
use Rattle.asm_step.specs.declared.error.StepError.{StepError}
use Rattle.asm_step.specs.declared.error.StepError.TheVariants as step_error

-- the answer is the one move of two moves in turn, or why there is none; more than 4,096 instructions are too many. A
-- refusal of memory says nothing
abbrev pub IsContinuation : Meaning → Move → Move → Result Move ComposeError → Type 0
IsContinuation a M N (Ok C) = (continued a M N ≡ Ok C) × (length C ≤ instructions_limit)
IsContinuation a M N (Err (compose_error.Clash c)) = continued a M N ≡ Err (c.at, Refused c.cause)
IsContinuation a M N (Err (compose_error.Large l)) = continued a M N ≡ Err (l, TooLarge)
IsContinuation a M N (Err compose_error.ManyInstructions) = (C : Move) × (continued a M N ≡ Ok C) × (instructions_limit < length C)
IsContinuation a M N (Err compose_error.Memory) = Unit {0}

-- the answer is the one move of a move and the next ones, each of which extends that of those before it; alone it is
-- itself. Or it is why the first that doesn't extend it doesn't. A refusal of memory says nothing
abbrev pub IsContinuedOf : Meaning → Move → List Move → Result Move ComposeError → Type 0
IsContinuedOf a M [] (Ok C) = C ≡ M
IsContinuedOf a M [] (Err compose_error.Memory) = Unit {0}
IsContinuedOf a M [] (Err e) = ⊥
IsContinuedOf a M (N ∷ Ns) (Ok C) = (D : Move) × IsContinuation a M N (Ok D) × IsContinuedOf a D Ns (Ok C)
IsContinuedOf a M (N ∷ Ns) (Err e) =
    IsContinuation a M N (Err e) ⊎ ((D : Move) × IsContinuation a M N (Ok D) × IsContinuedOf a D Ns (Err e))

-- so is the answer of the moves, of which there is one at least
abbrev pub IsOneOf : Meaning → List Move → Result Move ComposeError → Type 0
IsOneOf a [] r = ⊥
IsOneOf a (M ∷ Ms) r = IsContinuedOf a M Ms r

-- no well-formed state lets the moves fire in turn
abbrev pub NeverFireAll : Part → List Move → Type 0
NeverFireAll part Ms = (A : State) → IsProper A → IsErr (fire_all part (Ok A) Ms)

-- what is answered does what the moves do in turn, and where they don't compose, they never fire in turn
abbrev pub KeepsTurns : Part → List Move → Result Move ComposeError → Type 0
KeepsTurns part Ms (Ok C) = DoesAll part Ms C
KeepsTurns part Ms (Err (compose_error.Clash c)) = NeverFireAll part Ms
KeepsTurns part Ms (Err (compose_error.Large l)) = NeverFireAll part Ms
KeepsTurns part Ms (Err compose_error.ManyInstructions) = Unit {0}
KeepsTurns part Ms (Err compose_error.Memory) = Unit {0}

-- the moves of all layers are well-formed
abbrev pub AreProper : List Layer → Type 0
AreProper s = All (λ y. All (All IsProperInstruction) y.moves) s

-- Pushed again in the place of the moves that were pushed last, one move leaves the step what it is.
pub record IsPushedAgain (a : Meaning) (old : Old) (s : List Layer) (groups : List (List Move)) (group : List Move) (C : Move) : Type 0
  where
    -- the step depends on nothing more of what is below it
    pub no_more : (l : Place) → depends (all_moves groups ++ C ∷ []) l ≡ true → depends (all_moves groups ++ group) l ≡ true
    -- and on no less, but for that on which those moves depend by themselves
    pub no_less : (l : Place) → depends (all_moves groups ++ group) l ≡ true →
        (depends (all_moves groups ++ C ∷ []) l ≡ true) ⊎ (depends group l ≡ true)
    -- on each well-formed state that has what is below wherever the step depends on it, its moves leave the same
    pub leaves : (B : State) → IsProper B → AgreesAtDependencies B old (all_moves groups ++ group) →
        left_by (fire_all a.part (Ok B) (all_moves groups ++ C ∷ []))
        ≡ left_by (fire_all a.part (Ok B) (all_moves groups ++ group))
    -- and its one move fires there to the same, clashes included
    pub fires : (t : List Layer) (B : State) → IsStepOf a.part old t (groups ++ (C ∷ []) ∷ []) → IsProper B →
        AgreesAtDependencies B old (all_moves groups ++ group) →
        fire a.part B (unwrap_or (one_move t) []) ≡ fire a.part B (unwrap_or (one_move s) [])

-- ---- how the one move is made

-- the one move does what the moves do in turn, on states and location by location. Where one of them alone writes, by
-- partial updates, it has the same; where the first of them that writes puts a value, it puts one; and where none
-- writes, it doesn't
pub record IsOneMove (part : Part) (Ms : List Move) (C : Move) : Type 0 where
  pub does : DoesAll part Ms C
  pub each : DoesEach part Ms C
  pub keeps : KeepsGroups Ms C
  pub put : (l : Place) → sees_below Ms l ≡ false → puts C l ≡ true
  pub only : (l : Place) → writes C l ≡ true → one_writes Ms l ≡ true

-- the answer is the one move so far, if there is one, extended by the next one, or why there is none
abbrev pub ExtendsMove : Meaning → Option Move → Move → Result Move ComposeError → Type 0
ExtendsMove a None M (Ok C) = C ≡ M
ExtendsMove a None M (Err compose_error.Memory) = Unit {0}
ExtendsMove a None M (Err _) = ⊥
ExtendsMove a (Some D) M r = IsContinuation a D M r × KeepsSequence a.part D M r

-- the one move of a step is extended by a move
pub record HasExtendedMove (a : Meaning) (old new : List Layer) (M : Move) : Type 0 where
  pub one : Move
  pub is : one_move new ≡ Some one
  pub extends : ExtendsMove a (one_move old) M (Ok one)
  pub each : KeepsEach a.part (one_move old) M one

-- the step has the one move of the moves; or why they have none
abbrev pub IsAsOne : Meaning → List Move → Result (List Layer) ComposeError → Type 0
IsAsOne a Ms (Ok s) = (C : Move) × (one_move s ≡ Some C) × IsOneOf a Ms (Ok C) × IsOneMove a.part Ms C
IsAsOne a Ms (Err e) = IsOneOf a Ms (Err e) × KeepsTurns a.part Ms (Err e)

-- why there is no one move, as a composition's error
abbrev pub as_compose_error : StepError → ComposeError
as_compose_error (step_error.Clash c) = compose_error.Clash c
as_compose_error (step_error.Large l) = compose_error.Large l
as_compose_error step_error.Many = compose_error.ManyInstructions
as_compose_error step_error.Deep = compose_error.ManyInstructions
as_compose_error step_error.Memory = compose_error.Memory
