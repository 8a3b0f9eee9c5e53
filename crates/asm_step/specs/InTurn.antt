-- Moves in turn: what they write and leave, and the one move that does what they do.
use Rattle.std.specs.Prelude.{◌≡◌, List, [], ◌∷◌, Result, Ok, IsOk, Contains, true, false, Err}
use Rattle.asm_element.specs.Place.{Place}
use Rattle.asm_update.specs.Fire.{Part, Old, fire, then_fire, IsUpdateSet, GroupResult}
use Rattle.asm_update.specs.Move.{Move, actions_at}
use Rattle.asm_update.specs.State.{State, Updates, IsProper, val}
use Rattle.asm_update.specs.declared.clash.Clash.{Clash}
use Rattle.asm_overlay.specs.Frames.{Frames, topmost, seen_through}
use Rattle.asm_step.specs.Places.{all_partial_places}
use Rattle.asm_element.specs.declared.value.Value.{Value}
use Rattle.asm_update.specs.declared.action.Action.{Action}
use Rattle.asm_aggregate.specs.Compose.{gives}
use Rattle.asm_step.specs.Dependencies.{first_actions, depends, sees_below}
use Rattle.std.specs.FinMap as map
use Rattle.asm_element.specs.Value as value

-- what the moves leave, each fired in its turn on what was left, or the first clash
abbrev pub fire_all : Part → Result State Clash → List Move → Result State Clash
fire_all part r [] = r
fire_all part r (M ∷ Ms) = fire_all part (then_fire part r M) Ms

-- the items before the last one
abbrev pub all_but_last : {X : Type 0} → List X → List X
all_but_last [] = []
all_but_last (x ∷ []) = []
all_but_last (x ∷ y ∷ xs) = x ∷ all_but_last (y ∷ xs)

-- one move does what the moves do in turn, clashes of the last one included, on each well-formed state on which those
-- before the last fire in turn
abbrev pub DoesAll : Part → List Move → Move → Type 0
DoesAll part Ms C =
    (A : State) → IsProper A → IsOk (fire_all part (Ok A) (all_but_last Ms)) → fire part A C ≡ fire_all part (Ok A) Ms

-- each move has, in its turn, this update set on what is seen through those before
abbrev pub AreUpdateSets : Part → Old → List Move → Frames → Type 0
AreUpdateSets part old [] [] = Unit {0}
AreUpdateSets part old (M ∷ Ms) (U ∷ Us) =
    IsUpdateSet part old M U × AreUpdateSets part (seen_through (U ∷ []) old) Ms Us
AreUpdateSets part old _ _ = ⊥

-- the updates are what the moves write in turn: at each location the value of the last of their update sets that has it
abbrev pub IsWrittenInTurn : Part → Old → List Move → Updates → Type 0
IsWrittenInTurn part old Ms U = (Us : Frames) × AreUpdateSets part old Ms Us × ((l : Place) → map.get U l ≡ topmost Us l)

-- the state has what is looked up, at each location of a partial update of the moves
abbrev pub Agrees : State → Old → List Move → Type 0
Agrees A old Ms = (l : Place) → Contains (all_partial_places Ms) l → val A l ≡ old l

-- at each location the third move gives, on each well-formed value on which the first gives one, what the second
-- gives on that
abbrev pub IsSequenceAt : Part → Move → Move → Move → Type 0
IsSequenceAt part M N C =
    (l : Place) (v w : Value) → value.IsProper v → gives part v (actions_at M l) ≡ Ok w →
    gives part v (actions_at C l) ≡ gives part w (actions_at N l)

-- what a group gives on a result
abbrev pub then_gives : Part → GroupResult → List Action → GroupResult
then_gives part (Ok v) G = gives part v G
then_gives part (Err cause) G = Err cause

-- what the moves give at a location, each on what the one before it gave
abbrev pub in_column : Part → GroupResult → List Move → Place → GroupResult
in_column part r [] l = r
in_column part r (M ∷ Ms) l = in_column part (then_gives part r (actions_at M l)) Ms l

-- at each location the one move gives what the moves give in turn, on each well-formed value on which all but the
-- last give one
abbrev pub DoesEach : Part → List Move → Move → Type 0
DoesEach part Ms C =
    (l : Place) (v : Value) → value.IsProper v → IsOk (in_column part (Ok v) (all_but_last Ms) l) →
    gives part v (actions_at C l) ≡ in_column part (Ok v) Ms l

-- the clash is that of the one move that writes at its location, by partial updates alone
abbrev pub IsClashOfOne : Part → State → List Move → Clash → Type 0
IsClashOfOne part B Ms c =
    (sees_below Ms c.at ≡ true) × (depends Ms c.at ≡ false)
    × (gives part (val B c.at) (first_actions Ms c.at) ≡ Err c.cause)
