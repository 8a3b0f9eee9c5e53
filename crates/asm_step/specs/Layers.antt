-- What contracts see of a step, and of which moves it is one.
use Rattle.std.specs.Prelude.{◌≡◌, ◌≤◌, ℕ, Bool, List, [], ◌∷◌, ◌++◌, length, Option, None, Some, unwrap_or, refl, if◌then◌else◌, nat_eq}
use Rattle.std.specs.Coded.{Coded, code_by, coded×, coded_list, coded_ℕ, coded_option}
use Rattle.std.specs.Option.{option_map, option_map_or}
use Rattle.asm_element.specs.Place.{Place}
use Rattle.asm_update.specs.Fire.{Part, Old}
use Rattle.asm_update.specs.Limits.{instructions_limit}
use Rattle.asm_update.specs.Move.{Move, actions_at}
use Rattle.asm_overlay.specs.Frames.{Frames, seen_through}
use Rattle.asm_step.specs.InTurn.{DoesEach, DoesAll, IsWrittenInTurn}
use Rattle.asm_step.specs.Outcomes.{Outcomes, actions_in, builds_at, frame, stacked, listed, dependencies_in, depends_at, sees_at}
use Rattle.asm_step.specs.Dependencies.{builds, depends, KeepsGroups}
use Rattle.asm_step.specs.declared.layer.OwnLayer.{OwnLayer}
use Rattle.std.specs.Cmp.Lexicographic.{pointwise}
use Rattle.asm_element.specs.declared.value.Value.{Value}
use Rattle.std.specs.FinMap as finite

-- what all moves up to a layer come to at each location that one of them writes; the moves of the layer itself, the pushed
-- one and those that extend it; the step's one move, where it is one alone; and how many instructions the outcomes have
pub record Layer : Type 0 where
  pub outcomes : Outcomes
  pub moves : List Move
  pub alone : Option Move
  pub count : ℕ

-- it is stored as a tuple
abbrev pub layer_code : Coded Outcomes → Coded Move → Coded Layer
layer_code os m =
    code_by (Outcomes × (List Move × (Option Move × ℕ))) (coded× os (coded× (coded_list m) (coded× (coded_option m) coded_ℕ)))
    (λ y. (y.outcomes, (y.moves, (y.alone, y.count))))
    (λ p. record { outcomes = p.0; moves = p.1.0; alone = p.1.1.0; count = p.1.1.1 }) (λ _. refl)

-- the first of some moves, if there is one
abbrev pub first_of : List Move → Option Move
first_of [] = None
first_of (M ∷ Ms) = Some M

-- the step's one move, where it is the first of the layer's
abbrev pub alone_in : OwnLayer → Option Move
alone_in y = if y.is_alone then first_of y.moves else None

-- a layer over what is below it, which has its own outcomes
abbrev pub stacked_on : Outcomes → OwnLayer → Layer
stacked_on below y = record { outcomes = stacked below y.own; moves = y.moves; alone = alone_in y; count = y.count }

-- the layers, each over those below it
abbrev pub layers_on : Outcomes → List OwnLayer → List Layer
layers_on below [] = []
layers_on below (y ∷ s) = stacked_on below y ∷ layers_on (stacked below y.own) s

-- the topmost layer, if there is one
abbrev pub top_of : List Layer → Option Layer
top_of [] = None
top_of (y ∷ []) = Some y
top_of (y ∷ z ∷ s) = top_of (z ∷ s)

-- what all moves of a step come to
abbrev pub outcomes_of : List Layer → Outcomes
outcomes_of s = option_map_or (λ y. y.outcomes) (top_of s) finite.empty

-- what the moves of a step write, as one frame; without moves there is none
abbrev pub frames_of : List Layer → Frames
frames_of s = option_map_or (λ y. frame y.outcomes ∷ []) (top_of s) []

-- the moves of the topmost layer
abbrev pub moves_of : List Layer → List Move
moves_of s = option_map_or (λ y. y.moves) (top_of s) []

-- a layer with these moves in front of its own
abbrev pub behind : List Move → Layer → Layer
behind Ms y = record y { moves = Ms ++ y.moves }

-- the one move of all moves up to a layer: one alone is itself
abbrev pub one_move_of : Layer → Move
one_move_of y = unwrap_or y.alone (listed y.outcomes)

-- the one move of a step that has moves
abbrev pub one_move : List Layer → Option Move
one_move s = option_map one_move_of (top_of s)

-- where the moves of a step depend on what is below
abbrev pub dependencies_of : List Layer → List Place
dependencies_of s = option_map_or (λ y. dependencies_in y.outcomes) (top_of s) []

-- whether what is seen at the location through the layers is made from what is below: none writes there, or they build on it
abbrev pub shows_below : List Layer → Place → Bool
shows_below s l = sees_at (outcomes_of s) l

-- how many instructions a layer has, at most 4,096; and a move alone does what the outcomes say
pub record IsSound (y : Layer) : Type 0 where
  pub count : y.count ≡ length (listed y.outcomes)
  pub few : y.count ≤ instructions_limit
  pub alone : (M : Move) → y.alone ≡ Some M → (l : Place) → actions_at M l ≡ actions_in y.outcomes l

-- all moves of the groups, in turn
abbrev pub all_moves : List (List Move) → List Move
all_moves [] = []
all_moves (group ∷ groups) = group ++ all_moves groups

-- what all moves up to a layer come to: what they write in turn; the one move, which does what they do, on states and
-- location by location, and has the same group at a location that one of them alone writes; where they build on what
-- is below, and where they depend on it
pub record IsLayerOf (part : Part) (old : Old) (Ms : List Move) (y : Layer) : Type 0 where
  pub written : IsWrittenInTurn part old Ms (frame y.outcomes)
  pub does : DoesAll part Ms (one_move_of y)
  pub each : DoesEach part Ms (one_move_of y)
  pub keeps : KeepsGroups Ms (one_move_of y)
  pub building : (l : Place) → builds_at y.outcomes l ≡ builds Ms l
  pub dependencies : (l : Place) → depends_at y.outcomes l ≡ depends Ms l

-- each group of moves has its layer, which keeps them, and is of all moves up to there
abbrev pub AreLayers : Part → Old → List Move → List (List Move) → List Layer → Type 0
AreLayers part old before [] [] = Unit {0}
AreLayers part old before (group ∷ groups) (y ∷ s) =
    (y.moves ≡ group) × IsLayerOf part old (before ++ group) y × AreLayers part old (before ++ group) groups s
AreLayers part old before _ _ = ⊥

-- the step is of these groups of moves, over what is looked up below it: each is a pushed move with those that extend it
abbrev pub IsStepOf : Part → Old → List Layer → List (List Move) → Type 0
IsStepOf part old s groups = AreLayers part old [] groups s

-- the groups with one more move in the last one; where there is none, it is a first one
abbrev pub extended : List (List Move) → Move → List (List Move)
extended [] M = (M ∷ []) ∷ []
extended (group ∷ []) M = (group ++ M ∷ []) ∷ []
extended (group ∷ next ∷ groups) M = group ∷ extended (next ∷ groups) M

-- what is seen through the frames at a location with this function name, and what is below at another
abbrev pub scanned : Frames → Old → List ℕ → Place → Value
scanned frames below name l = if pointwise nat_eq l.name name then seen_through frames below l else below l
