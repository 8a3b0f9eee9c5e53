-- What comes to the layer of a move that is next.
use Rattle.std.specs.Prelude.{◌≡◌, ◌⊎◌, ◌≤◌, ◌<◌, ◌+◌, ℕ, Bool, true, false, not, filter, if◌then◌else◌, List, [], ◌∷◌, ◌++◌, length, Option, None, Some, Result, Ok, Err, ◌-◌, All, is_some}
use Rattle.std.specs.List.{list_any}
use Rattle.std.specs.Option.{option_or, option_map, option_map_or}
use Rattle.asm_element.specs.Place.{Place}
use Rattle.asm_element.specs.declared.value.Value.{Value}
use Rattle.asm_update.specs.Action.{is_regular, IsProperInstruction}
use Rattle.asm_update.specs.Aggregator.{Meaning}
use Rattle.asm_update.specs.Fire.{Part, Old, IsUpdateSet, IsLeastClash}
use Rattle.asm_update.specs.Limits.{instructions_limit}
use Rattle.asm_update.specs.Move.{Move, actions_at, writes}
use Rattle.asm_update.specs.State.{Updates}
use Rattle.asm_update.specs.declared.action.Action.{Action}
use Rattle.asm_update.specs.declared.action.Instruction.{Instruction}
use Rattle.asm_aggregate.specs.Compose.{IsSequence, NeverFires}
use Rattle.asm_overlay.specs.Frames.{topmost, seen_through}
use Rattle.asm_step.specs.Answer.{HasUpdates, IsContinuedBy, IsFollowedBy}
use Rattle.asm_step.specs.InTurn.{IsSequenceAt, all_but_last}
use Rattle.asm_step.specs.Layers.{Layer, IsSound, frames_of, stacked_on, one_move, one_move_of, outcomes_of, top_of, behind, moves_of}
use Rattle.asm_step.specs.Outcomes.{Outcome, Outcomes, acts_at, builds_at, frame, listed, depends_at, sees_at}
use Rattle.asm_step.specs.Dependencies.{puts}
use Rattle.asm_step.specs.declared.error.StepError.{StepError}
use Rattle.asm_step.specs.declared.error.StepError.TheVariants.{Clash, Large, Many, Deep, Memory}
use Rattle.asm_step.specs.declared.layer.OwnLayer.{OwnLayer}
use Rattle.asm_step.specs.Front.{ExtendedInPlaceAt}
use Rattle.asm_step.specs.declared.front.Growth.{Growth}
use Rattle.std.specs.FinMap as map

-- the answer is the update set of the move on what is seen, or its clash
abbrev pub IsFrame : Part → Old → Move → Result Updates StepError → Type 0
IsFrame part old M (Ok U) = IsUpdateSet part old M U
IsFrame part old M (Err (Clash clash)) = IsLeastClash part old M clash
IsFrame part old M (Err (Large l)) = ⊥
IsFrame part old M (Err Many) = ⊥
IsFrame part old M (Err Deep) = ⊥
IsFrame part old M (Err Memory) = Unit {0}

-- the answer is what a partial update gives on the old value, or the clash at its location
abbrev pub IsChangeOn : Part → Value → Instruction → Result Value StepError → Type 0
IsChangeOn part old i (Ok v) = part old None (i.action ∷ []) ≡ Ok v
IsChangeOn part old i (Err (Clash clash)) = (clash.at ≡ i.at) × (part old None (i.action ∷ []) ≡ Err clash.cause)
IsChangeOn part old i (Err (Large l)) = ⊥
IsChangeOn part old i (Err Many) = ⊥
IsChangeOn part old i (Err Deep) = ⊥
IsChangeOn part old i (Err Memory) = Unit {0}

-- there is an earlier move, and no well-formed state lets it and then the next fire
abbrev pub NeverFollows : Part → Option Move → Move → Type 0
NeverFollows part None M = ⊥
NeverFollows part (Some D) M = NeverFires part D M

-- what is composed does what the earlier move, if there is one, and then the next do; what is refused never fires
abbrev pub KeepsOrder : Part → Option Move → Move → Result Move StepError → Type 0
KeepsOrder part None M (Ok C) = Unit {0}
KeepsOrder part (Some D) M (Ok C) = IsSequence part D M C
KeepsOrder part o M (Err (Clash clash)) = NeverFollows part o M
KeepsOrder part o M (Err (Large l)) = NeverFollows part o M
KeepsOrder part o M (Err Many) = Unit {0}
KeepsOrder part o M (Err Deep) = Unit {0}
KeepsOrder part o M (Err Memory) = Unit {0}

-- the answer is what the earlier move, if there is one, and the next one compose to, or why they don't
abbrev pub IsComposed : Meaning → Option Move → Move → Result Move StepError → Type 0
IsComposed a o M r = IsFollowedBy a o M r × KeepsOrder a.part o M r

-- the answer is the one move of the earlier one, if there is one, and the next one, or why there is none
abbrev pub IsContinued : Meaning → Option Move → Move → Result Move StepError → Type 0
IsContinued a o M r = IsContinuedBy a o M r × KeepsOrder a.part o M r

-- at each location it gives what the earlier move, if there is one, and then the next give
abbrev pub KeepsEach : Part → Option Move → Move → Move → Type 0
KeepsEach part None M C = Unit {0}
KeepsEach part (Some D) M C = IsSequenceAt part D M C

-- the updates have what those above have, and else what is below
abbrev pub AreMerged : Updates → Updates → Updates → Type 0
AreMerged below above U = (l : Place) → map.get U l ≡ option_or (map.get above l) (map.get below l)

-- whether moves and a next one build at a location on the value below: those before do, or it is the first to write there
-- and has partial updates alone
abbrev pub builds_next : Outcomes → Move → Place → Bool
builds_next os M l = if writes M l then (if puts M l then builds_at os l else sees_at os l) else builds_at os l

-- whether they depend on it: those before do, or they build on it and the next one writes there
abbrev pub depends_next : Outcomes → Move → Place → Bool
depends_next os M l = if writes M l then builds_at os l else depends_at os l

-- the move, where there is none before it
abbrev pub first_alone : List Layer → Move → Option Move
first_alone s M = option_map_or (λ _. None) (top_of s) (Some M)

-- the layer of a move over those before it, which writes these updates
pub record IsLayerOver (a : Meaning) (s : List Layer) (M : Move) (updates : Updates) (y : Layer) : Type 0 where
  pub written : (l : Place) → map.get (frame y.outcomes) l ≡ option_or (map.get updates l) (topmost (frames_of s) l)
  pub extends : IsContinued a (one_move s) M (Ok (one_move_of y))
  pub each : KeepsEach a.part (one_move s) M (one_move_of y)
  pub building : (l : Place) → builds_at y.outcomes l ≡ builds_next (outcomes_of s) M l
  pub dependencies : (l : Place) → depends_at y.outcomes l ≡ depends_next (outcomes_of s) M l
  pub sound : IsSound y
  pub moves : y.moves ≡ M ∷ []
  pub alone : y.alone ≡ first_alone s M

-- the answer is that layer, or why there is no one move with it
abbrev pub IsOver : Meaning → List Layer → Move → Updates → Result Layer StepError → Type 0
IsOver a s M updates (Ok y) = IsLayerOver a s M updates y
IsOver a s M updates (Err e) = IsContinued a (one_move s) M (Err e)

-- the updates are at the locations that the move writes
abbrev pub AreWhere : Move → Updates → Type 0
AreWhere M updates = (l : Place) → is_some (map.get updates l) ≡ writes M l

-- the layer of a move that comes next: it writes the move's update set, over what those before write
pub record IsNextLayer (a : Meaning) (old : Old) (s : List Layer) (M : Move) (y : Layer) : Type 0 where
  pub updates : Updates
  pub set : IsUpdateSet a.part (seen_through (frames_of s) old) M updates
  pub over : IsLayerOver a s M updates y

-- the answer is the layer of a move that is next, or why it has none: it has no update set, or doesn't compose
abbrev pub IsNext : Meaning → Old → List Layer → Move → Result Layer StepError → Type 0
IsNext a old s M (Ok y) = IsNextLayer a old s M y
IsNext a old s M (Err e) =
    IsFrame a.part (seen_through (frames_of s) old) M (Err e)
    ⊎ (HasUpdates a.part old s M × IsContinued a (one_move s) M (Err e))

-- whether the moves do anything at a location, or whether they don't
abbrev pub is_one : Bool → Outcomes → Place → Bool
is_one shared os l = if shared then acts_at os l else not (acts_at os l)

-- the instructions at the locations where the moves do anything, or those at the others
abbrev pub those : Bool → Outcomes → Move → Move
those shared os M = filter (λ (i : Instruction). is_one shared os i.at) M

-- the layer over those of the step, if there is one
abbrev pub on_top : List Layer → Result OwnLayer StepError → Result Layer StepError
on_top s (Ok y) = Ok (stacked_on (outcomes_of s) y)
on_top s (Err e) = Err e

-- what a next move comes to at a location where it leaves this value: what it and those before compose to there, and
-- whether they build and rest there on the value below
abbrev pub next_at : Outcomes → Move → Move → Place → Value → Outcome
next_at os C M l v = record {
  value = v;
  actions = actions_at C l;
  builds = if list_any is_regular (actions_at M l) then builds_at os l else sees_at os l;
  depends = builds_at os l;
}

-- the outcomes of a next move are those at the locations of its update set
abbrev pub AreNext : Outcomes → Updates → Move → Move → Outcomes → Type 0
AreNext os U C M own = (l : Place) → map.get own l ≡ option_map (next_at os C M l) (map.get U l)

-- whether there is no move before it
abbrev pub is_first : List Layer → Bool
is_first s = option_map_or (λ _. false) (top_of s) true

-- the move of a step that was pushed alone, if it is one
abbrev pub alone_of : List Layer → Option Move
alone_of s = option_map_or (λ y. y.alone) (top_of s) None

-- how many instructions the moves of a step come to
abbrev pub count_of : List Layer → ℕ
count_of s = option_map_or (λ y. y.count) (top_of s) 0

-- the outcome with these actions behind its own
abbrev pub followed : List Action → Outcome → Outcome
followed xs o = record o { actions = o.actions ++ xs }

-- the outcome with a regular update recorded, if there is one among these
abbrev pub noted : List Action → Outcome → Outcome
noted xs o = record o { builds = if list_any is_regular xs then o.depends else o.builds }

-- the actions of the instructions are behind those of the outcome at their location
abbrev pub AreFilled : Move → Outcomes → Outcomes → Type 0
AreFilled M old new = (l : Place) → map.get new l ≡ option_map (followed (actions_at M l)) (map.get old l)

-- the regular updates of the instructions are recorded
abbrev pub AreMarked : Move → Outcomes → Outcomes → Type 0
AreMarked M old new = (l : Place) → map.get new l ≡ option_map (noted (actions_at M l)) (map.get old l)

-- a value of no actions so far, over what the moves so far come to at its location
abbrev pub opened_at : Outcomes → Place → Value → Outcome
opened_at os l v = record { value = v; actions = []; builds = sees_at os l; depends = builds_at os l }

-- the values of the updates, of no actions so far
abbrev pub AreOpened : Outcomes → Updates → Outcomes → Type 0
AreOpened os U new = (l : Place) → map.get new l ≡ option_map (opened_at os l) (map.get U l)

-- the answer is the layer of the next outcomes, with so many instructions beside theirs; or that there are too many
abbrev pub IsLayerFrom : List Layer → Updates → ℕ → Move → Move → Result OwnLayer StepError → Type 0
IsLayerFrom s U others C M (Ok y) =
    AreNext (outcomes_of s) U C M y.own × (y.count ≡ others + length (listed y.own)) × (y.count ≤ instructions_limit)
    × (y.moves ≡ M ∷ []) × (y.is_alone ≡ is_first s)
IsLayerFrom s U others C M (Err Many) =
    (own : Outcomes) × AreNext (outcomes_of s) U C M own × (length (listed own) ≤ length C)
    × (instructions_limit < others + length (listed own))
IsLayerFrom s U others C M (Err (Clash clash)) = ⊥
IsLayerFrom s U others C M (Err (Large l)) = ⊥
IsLayerFrom s U others C M (Err Deep) = ⊥
IsLayerFrom s U others C M (Err Memory) = Unit {0}

-- a layer that takes in a move of one partial update
pub record LayerExtendedInPlace (a : Meaning) (M : Move) (old new : OwnLayer) : Type 0 where
  pub at : Place
  pub action : Action
  pub grown : Growth
  pub one : M ≡ record { at = at; action = action } ∷ []
  pub proper : All IsProperInstruction M
  pub own : ExtendedInPlaceAt a at action old.own new.own grown
  pub moves : new.moves ≡ old.moves ++ M ∷ []
  pub alone : new.is_alone ≡ false
  pub count : new.count ≡ (old.count + grown.more) - grown.less
  pub few : old.count < instructions_limit

-- so it is; or nothing is changed
abbrev pub IsLayerExtendedInPlace : Meaning → Move → OwnLayer → OwnLayer → Bool → Type 0
IsLayerExtendedInPlace a M old new true = LayerExtendedInPlace a M old new
IsLayerExtendedInPlace a M old new false = new ≡ old

-- the topmost layer takes in the layer of the move that is next; or nothing is changed
abbrev pub IsStepExtendedInPlace : Meaning → Old → List Layer → List Layer → Move → Bool → Type 0
IsStepExtendedInPlace a old s new M true =
    (next : Layer) × IsNextLayer a old s M next × (new ≡ all_but_last s ++ behind (moves_of s) next ∷ [])
IsStepExtendedInPlace a old s new M false = new ≡ s

-- the answer to an extension, and the layers after it
abbrev pub IsExtensionAnswer : Meaning → Old → List Layer → List Layer → Move → Result (Unit {0}) StepError → Type 0
IsExtensionAnswer a old s new M (Ok _) = (y : Layer) × IsNextLayer a old s M y × (new ≡ all_but_last s ++ behind (moves_of s) y ∷ [])
IsExtensionAnswer a old s new M (Err e) = IsNext a old s M (Err e) × (new ≡ s)
