-- Stacks of frames, and what is seen through them.
use Rattle.std.specs.Prelude.{List, [], ◌∷◌, Option, None, unwrap_or, refl}
use Rattle.std.specs.Option.{option_or}
use Rattle.std.specs.Coded.{Coded, code_by, coded×}
use Rattle.std.specs.FinMap as map
use Rattle.asm_element.specs.Place.{Place}
use Rattle.asm_element.specs.declared.value.Value.{Value}
use Rattle.asm_update.specs.Fire.{Old}
use Rattle.asm_update.specs.State.{State, Updates, overwrite}

-- a stack of frames, the oldest first; a frame is one value for each of some locations, undef among them
abbrev pub Frames : Type 0
Frames = List Updates

-- the state overwritten by each frame in turn, the oldest first (pushed states, in CoreASM)
abbrev pub under : State → Frames → State
under A [] = A
under A (frame ∷ frames) = under (overwrite A frame) frames

-- the value of the topmost frame that has the location, if one has it
abbrev pub topmost : Frames → Place → Option Value
topmost [] l = None
topmost (frame ∷ frames) l = option_or (topmost frames l) (map.get frame l)

-- what is seen at each location through the frames: the topmost frame's value, else what is seen below them
abbrev pub seen_through : Frames → Old → Old
seen_through frames below l = unwrap_or (topmost frames l) (below l)

-- what contracts see of an overlay with what can be looked up below it
pub record OverView (L : Type 0) : Type 0 where
  pub frames : Frames
  pub below : L

-- they are stored as a pair
abbrev pub over_code : {L : Type 0} → Coded Frames → Coded L → Coded (OverView L)
over_code {L = L} f l =
    code_by (Frames × L) (coded× f l)
    (λ o. (o.frames, o.below)) (λ p. record { frames = p.0; below = p.1 }) (λ _. refl)
