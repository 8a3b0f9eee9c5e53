-- What is seen through frames is what stands in the state that they overwrite, one after the other.
use Rattle.std.proofs.Common.{◌≡◌, [], ◌∷◌, ◌++◌, Option, Some, None, unwrap_or, refl, sym, ap, ◌∙◌}
use Rattle.std.specs.Option.{option_or}
use Rattle.std.specs.FinMap as map
use Rattle.asm_element.specs.Place.{Place}
use Rattle.asm_element.specs.declared.value.Value.{Value}
use Rattle.asm_update.specs.Fire.{Old}
use Rattle.asm_update.specs.State.{State, Updates, val, overwrite}
use Rattle.asm_update.proofs.FireLemmas.{val-overwrite}
use Rattle.asm_overlay.specs.Frames.{Frames, under, topmost, seen_through}

option_or-none : (x : Option Value) → option_or x None ≡ x
option_or-none (Some v) = refl
option_or-none None = refl

option_or-assoc : (x y z : Option Value) → option_or (option_or x y) z ≡ option_or x (option_or y z)
option_or-assoc (Some v) y z = refl
option_or-assoc None y z = refl

-- a frame on top goes before those below it
pub topmost-append : (frames : Frames) (frame : Updates) (l : Place) → topmost (frames ++ frame ∷ []) l ≡ option_or (map.get frame l) (topmost frames l)
topmost-append [] frame l = sym (option_or-none (map.get frame l))
topmost-append (oldest ∷ frames) frame l =
    ap (λ x. option_or x (map.get oldest l)) (topmost-append frames frame l) ∙ option_or-assoc (map.get frame l) (topmost frames l) (map.get oldest l)

unwrap_or-option_or : (x y : Option Value) (v : Value) → unwrap_or (option_or x y) v ≡ unwrap_or x (unwrap_or y v)
unwrap_or-option_or (Some w) y v = refl
unwrap_or-option_or None y v = refl

-- the value at a location in the state that frames overwrite is the topmost frame's, else the state's
pub val-under : (A : State) (frames : Frames) (l : Place) → val (under A frames) l ≡ seen_through frames (val A) l
val-under A [] l = refl
val-under A (frame ∷ frames) l =
    val-under (overwrite A frame) frames l ∙ ap (unwrap_or (topmost frames l)) (val-overwrite A frame l)
    ∙ sym (unwrap_or-option_or (topmost frames l) (map.get frame l) (val A l))

-- so what is seen through the frames, over a state, is that state
pub seen_through-val : (A : State) (frames : Frames) → seen_through frames (val A) ≡ val (under A frames)
seen_through-val A frames i l = sym (val-under A frames l) i

-- a value that is seen through frames stands in each state that they overwrite and that has what is seen below them
pub stands_under : (frames : Frames) (below : Old) (l : Place) (v : Value) → v ≡ seen_through frames below l → (A : State) → val A l ≡ below l → v ≡ val (under A frames) l
stands_under frames below l v seen A same = seen ∙ ap (unwrap_or (topmost frames l)) (sym same) ∙ (λ i. seen_through-val A frames i l)
