-- What a push or an extension answers.
use Rattle.std.specs.Prelude.{◌++◌, map, Option, None, Some, Result, Ok, if◌then◌else◌, ◌≡◌, ◌≤◌, ◌<◌, ◌⊎◌, List, length, Err, IsErr}
use Rattle.asm_element.specs.Place.{Place}
use Rattle.asm_update.specs.Aggregator.{Meaning, Joined, NoJoin, Refused, TooLarge}
use Rattle.asm_update.specs.Fire.{locations, Part, Old, fire, IsUpdateSet, IsLeastClash}
use Rattle.asm_update.specs.Move.{Move, actions_at, writes}
use Rattle.asm_aggregate.specs.Compose.{composed_at, composition, in_turn}
use Rattle.asm_update.specs.Limits.{instructions_limit}
use Rattle.asm_update.specs.State.{State, Updates}
use Rattle.asm_overlay.specs.Frames.{under, seen_through}
use Rattle.asm_overlay.specs.Limits.{frames_limit}
use Rattle.asm_step.specs.Layers.{Layer, frames_of, one_move}
use Rattle.asm_step.specs.declared.error.StepError.{StepError}
use Rattle.asm_step.specs.declared.error.StepError.TheVariants.{Clash, Large, Many, Deep, Memory}

-- what does at a location what two moves in turn do: what they compose to where both write it, and else what the one
-- that writes it does there, unchanged
abbrev pub continued_at : Meaning → Move → Move → Place → Joined
continued_at a M N l =
    if writes N l then (if writes M l then composed_at a M N l else Ok (actions_at N l)) else Ok (actions_at M l)

-- one move that does what two in turn do: that at each location that one of them writes, in ascending order
abbrev pub continued : Meaning → Move → Move → Result Move (Place × NoJoin)
continued a M N = in_turn (map (λ l. (l, continued_at a M N l)) (locations (M ++ N)))

-- the one move of those before, if there are any, and then the next one; a first one is itself
abbrev pub continued_after : Meaning → Option Move → Move → Result Move (Place × NoJoin)
continued_after a None M = Ok M
continued_after a (Some D) M = continued a D M

-- what the one move of those before, if there are any, and then the next one compose to
abbrev pub composed_after : Meaning → Option Move → Move → Result Move (Place × NoJoin)
composed_after a None M = Ok M
composed_after a (Some C) M = composition a C M

-- the move has an update set on what is seen through the layers
abbrev pub HasUpdates : Part → Old → List Layer → Move → Type 0
HasUpdates part old s M = (U : Updates) × IsUpdateSet part (seen_through (frames_of s) old) M U

-- the answer is this move, of at most 4,096 instructions, or why there is none. A first move isn't too long. A
-- refusal of memory says nothing
abbrev pub IsCompositionAnswer : Option Move → Result Move (Place × NoJoin) → Result Move StepError → Type 0
IsCompositionAnswer o r (Ok C) = (r ≡ Ok C) × (length C ≤ instructions_limit)
IsCompositionAnswer o r (Err (Clash clash)) = r ≡ Err (clash.at, Refused clash.cause)
IsCompositionAnswer o r (Err (Large l)) = r ≡ Err (l, TooLarge)
IsCompositionAnswer None r (Err Many) = ⊥
IsCompositionAnswer (Some D) r (Err Many) = (C : Move) × (r ≡ Ok C) × (instructions_limit < length C)
IsCompositionAnswer o r (Err Deep) = ⊥
IsCompositionAnswer o r (Err Memory) = Unit {0}

-- the answer is what the step's one move and then the move compose to, or why they don't
abbrev pub IsFollowedBy : Meaning → Option Move → Move → Result Move StepError → Type 0
IsFollowedBy a o M r = IsCompositionAnswer o (composed_after a o M) r

-- the answer is the one move extended by the move, or why there is none
abbrev pub IsContinuedBy : Meaning → Option Move → Move → Result Move StepError → Type 0
IsContinuedBy a o M r = IsCompositionAnswer o (continued_after a o M) r

-- A move is pushed if it has an update set on what is seen, and composes with those before it, to what is then the
-- one move; else the first of these that fails is the error. A refusal of memory says nothing.
abbrev pub IsPushAnswer : Meaning → Old → List Layer → List Layer → Move → Result (Unit {0}) StepError → Type 0
IsPushAnswer a old s new M (Ok _) =
    HasUpdates a.part old s M × ((C : Move) × (one_move new ≡ Some C) × IsContinuedBy a (one_move s) M (Ok C))
IsPushAnswer a old s new M (Err (Clash clash)) =
    IsLeastClash a.part (seen_through (frames_of s) old) M clash
    ⊎ (HasUpdates a.part old s M × IsContinuedBy a (one_move s) M (Err (Clash clash)))
IsPushAnswer a old s new M (Err (Large l)) = HasUpdates a.part old s M × IsContinuedBy a (one_move s) M (Err (Large l))
IsPushAnswer a old s new M (Err Many) = HasUpdates a.part old s M × IsContinuedBy a (one_move s) M (Err Many)
IsPushAnswer a old s new M (Err Deep) = length s ≡ frames_limit
IsPushAnswer a old s new M (Err Memory) = Unit {0}

-- the same on a state on which the step's moves fire: the move fires there in its turn, or its clash is the error,
-- and none is too large
abbrev pub IsPushAnswerOn : Part → State → List Layer → List Layer → Move → Result (Unit {0}) StepError → Type 0
IsPushAnswerOn part A s new M (Ok _) = fire part (under A (frames_of s)) M ≡ Ok (under A (frames_of new))
IsPushAnswerOn part A s new M (Err (Clash clash)) = fire part (under A (frames_of s)) M ≡ Err clash
IsPushAnswerOn part A s new M (Err (Large l)) = ⊥
IsPushAnswerOn part A s new M (Err Many) = Unit {0}
IsPushAnswerOn part A s new M (Err Deep) = Unit {0}
IsPushAnswerOn part A s new M (Err Memory) = Unit {0}

-- what is required of the one move with a last one on such a state: it does there what the last one does after the
-- others, and where they don't compose, the last one clashes
abbrev pub IsLastOn : Part → State → List Layer → Move → Result Move StepError → Type 0
IsLastOn part A s M (Ok C) = fire part A C ≡ fire part (under A (frames_of s)) M
IsLastOn part A s M (Err (Clash clash)) = IsErr (fire part (under A (frames_of s)) M)
IsLastOn part A s M (Err (Large l)) = IsErr (fire part (under A (frames_of s)) M)
IsLastOn part A s M (Err Many) = Unit {0}
IsLastOn part A s M (Err Deep) = Unit {0}
IsLastOn part A s M (Err Memory) = Unit {0}
