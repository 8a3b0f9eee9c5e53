-- Layers over those below them, and one layer more on top.
use Rattle.std.proofs.Common.{◌≡◌, ◌≢◌, ◌≤◌, ◌-◌, ℕ, cond, suc, arith, slice_get, slice_set, get_or, unwrap_or, Bor, is_some, true, false, List, [], ◌∷◌, ◌++◌, length, All, Option, Some, None, refl, sym, ap, ◌∙◌, subst}
use Rattle.std.proofs.lemmas.Bool.{false≢true}
use Rattle.std.proofs.lemmas.List.Elements.{All-cons, All-head, All-nil, All-tail}
use Rattle.std.specs.FinMap as finite
use Rattle.std.specs.Option.{option_copied, option_map, option_map_or, option_or}
use Rattle.asm_element.specs.Place.{Place, location_cmp}
use Rattle.asm_update.specs.Move.{Move}
use Rattle.asm_step.specs.InTurn.{all_but_last}
use Rattle.asm_step.specs.Layers.{Layer, IsSound, alone_in, behind, first_of, stacked_on, layers_on, moves_of, outcomes_of, top_of}
use Rattle.asm_step.specs.Next.{count_of, is_first}
use Rattle.asm_step.specs.Outcomes.{Outcome, Outcomes, stacked, listed}
use Rattle.asm_step.specs.declared.layer.OwnLayer.{OwnLayer}
use Rattle.asm_step.proofs.Stacked.{get-stacked, laid_is, none_listed}

-- all layers laid on what is below them
abbrev pub all_laid : Outcomes → List OwnLayer → Outcomes
all_laid m [] = m
all_laid m (y ∷ s) = all_laid (stacked m y.own) s

pub all_laid-push : (m : Outcomes) (s : List OwnLayer) (y : OwnLayer) →
    all_laid m (s ++ y ∷ []) ≡ stacked (all_laid m s) y.own
all_laid-push m [] y = refl
all_laid-push m (x ∷ s) y = all_laid-push (stacked m x.own) s y

pub layers-push : (m : Outcomes) (s : List OwnLayer) (y : OwnLayer) →
    layers_on m (s ++ y ∷ []) ≡ layers_on m s ++ stacked_on (all_laid m s) y ∷ []
layers-push m [] y = refl
layers-push m (x ∷ s) y = ap (λ t. stacked_on m x ∷ t) (layers-push (stacked m x.own) s y)

outcomes_on : (m : Outcomes) (y : OwnLayer) (s : List OwnLayer) →
    outcomes_of (layers_on m (y ∷ s)) ≡ all_laid (stacked m y.own) s
outcomes_on m y [] = refl
outcomes_on m y (z ∷ s) = outcomes_on (stacked m y.own) z s

pub outcomes_all : (s : List OwnLayer) → outcomes_of (layers_on finite.empty s) ≡ all_laid finite.empty s
outcomes_all [] = refl
outcomes_all (y ∷ s) = outcomes_on finite.empty y s

-- what one more layer has, and else those before it
pub held-push : (s : List OwnLayer) (y : OwnLayer) (l : Place) →
    finite.get (outcomes_of (layers_on finite.empty (s ++ y ∷ []))) l
    ≡ option_or (finite.get y.own l) (finite.get (outcomes_of (layers_on finite.empty s)) l)
held-push s y l =
    ap (λ (os : Outcomes). finite.get os l) (outcomes_all (s ++ y ∷ []) ∙ all_laid-push finite.empty s y)
    ∙ get-stacked (all_laid finite.empty s) y.own l
    ∙ ap (λ (os : Outcomes). option_or (finite.get y.own l) (finite.get os l)) (sym (outcomes_all s))

pub held_none : (l : Place) → finite.get (outcomes_of (layers_on finite.empty [])) l ≡ None
held_none l = finite.get-empty location_cmp l

-- a layer that is put on top of those of a step
pub on_layers : (s t : List OwnLayer) (y : OwnLayer) (now : List Layer) → t ≡ s ++ y ∷ [] →
    layers_on finite.empty s ≡ now → layers_on finite.empty t ≡ now ++ stacked_on (outcomes_of now) y ∷ []
on_layers s t y now is seen =
    ap (λ (u : List OwnLayer). layers_on finite.empty u) is ∙ layers-push finite.empty s y
    ∙ (λ i. seen i ++ stacked_on ((sym (outcomes_all s) ∙ ap outcomes_of seen) i) y ∷ [])

-- the topmost layer of its own

pub own_top : List OwnLayer → Option OwnLayer
own_top [] = None
own_top (y ∷ []) = Some y
own_top (y ∷ z ∷ s) = own_top (z ∷ s)

pub own_by_index : (s : List OwnLayer) → slice_get s (length s - 1) ≡ own_top s
unfolding own_top
own_by_index [] = refl
own_by_index (x ∷ s) =
    let one_less : length (x ∷ s) - 1 ≡ length s = omega arith in
    ap (slice_get (x ∷ s)) one_less ∙ last_there x s
  where
    last_there : (x : OwnLayer) (s : List OwnLayer) → slice_get (x ∷ s) (length s) ≡ own_top (x ∷ s)
    last_there x [] = refl
    last_there x (y ∷ s) = last_there y s

-- is the topmost of the layers that are seen, which has its moves, its move alone and its count
pub top_moves : (m : Outcomes) (s : List OwnLayer) →
    option_map (λ (y : OwnLayer). y.moves) (own_top s) ≡ option_map (λ (y : Layer). y.moves) (top_of (layers_on m s))
unfolding own_top
top_moves m [] = refl
top_moves m (y ∷ []) = refl
top_moves m (y ∷ z ∷ s) = top_moves (stacked m y.own) (z ∷ s)

pub top_alone : (m : Outcomes) (s : List OwnLayer) →
    option_map alone_in (own_top s) ≡ option_map (λ (y : Layer). y.alone) (top_of (layers_on m s))
unfolding own_top
top_alone m [] = refl
top_alone m (y ∷ []) = refl
top_alone m (y ∷ z ∷ s) = top_alone (stacked m y.own) (z ∷ s)

pub top_count : (m : Outcomes) (s : List OwnLayer) →
    option_map (λ (y : OwnLayer). y.count) (own_top s) ≡ option_map (λ (y : Layer). y.count) (top_of (layers_on m s))
unfolding own_top
top_count m [] = refl
top_count m (y ∷ []) = refl
top_count m (y ∷ z ∷ s) = top_count (stacked m y.own) (z ∷ s)

pub has_top : (x : Layer) (s : List Layer) → (y : Layer) × (top_of (x ∷ s) ≡ Some y)
has_top x [] = (x, refl)
has_top x (y ∷ s) = has_top y s

-- the topmost layer is sound
pub top_sound : (s : List Layer) (y : Layer) → All IsSound s → top_of s ≡ Some y → IsSound y
top_sound [] y sound is = absurd (cc is)
top_sound (x ∷ []) y sound is = let same : x ≡ y = cc is in subst IsSound same (All-head IsSound x [] sound)
top_sound (x ∷ z ∷ s) y sound is = top_sound (z ∷ s) y (All-tail IsSound x (z ∷ s) sound) is

pub none_of_empty : listed finite.empty ≡ []
none_of_empty = none_listed finite.empty (λ l.
    ap (λ (o : Option Outcome). option_map_or (λ (o : Outcome). o.actions) o []) (finite.get-empty location_cmp l))

-- so it has as many instructions as it says
pub counted : (s : List Layer) → All IsSound s → (count_of s ≡ length (listed (outcomes_of s))) × (count_of s ≤ 4096)
counted s sound = by_top (top_of s) refl where
  by_top : (o : Option Layer) → top_of s ≡ o →
      (option_map_or (λ (y : Layer). y.count) o 0 ≡ length (listed (option_map_or (λ (y : Layer). y.outcomes) o finite.empty)))
      × (option_map_or (λ (y : Layer). y.count) o 0 ≤ 4096)
  by_top None is = (sym (ap length none_of_empty), omega arith)
  by_top (Some y) is = let top = top_sound s y sound is in (top.count, top.few)

pub count_by : (s : List Layer) (o : Option ℕ) → o ≡ option_map (λ (y : Layer). y.count) (top_of s) → unwrap_or o 0 ≡ count_of s
count_by s o is = ap (λ (x : Option ℕ). unwrap_or x 0) is ∙ by_top (top_of s) where
  by_top : (t : Option Layer) → unwrap_or (option_map (λ (y : Layer). y.count) t) 0 ≡ option_map_or (λ (y : Layer). y.count) t 0
  by_top (Some y) = refl
  by_top None = refl

-- whether there is a topmost layer
pub with_top : (s : List Layer) (n : ℕ) → Some n ≡ option_map (λ (y : Layer). y.count) (top_of s) → (y : Layer) × (top_of s ≡ Some y)
with_top s n is = by_top (top_of s) refl is where
  by_top : (t : Option Layer) → top_of s ≡ t → Some n ≡ option_map (λ (y : Layer). y.count) t → (y : Layer) × (top_of s ≡ Some y)
  by_top (Some y) e h = (y, e)
  by_top None e h = absurd (cc h)

pub without_top : (s : List Layer) → None ≡ option_map (λ (y : Layer). y.count) (top_of s) → top_of s ≡ None
without_top s is = by_top (top_of s) refl is where
  by_top : (t : Option Layer) → top_of s ≡ t → None ≡ option_map (λ (y : Layer). y.count) t → top_of s ≡ None
  by_top (Some y) e h = absurd (cc h)
  by_top None e h = e

pub outcomes_without : (s : List Layer) → top_of s ≡ None → outcomes_of s ≡ finite.empty
outcomes_without s top = ap (λ (t : Option Layer). option_map_or (λ (y : Layer). y.outcomes) t finite.empty) top

pub without_layers : (s : List Layer) → top_of s ≡ None → s ≡ []
without_layers [] none = refl
without_layers (x ∷ s) none = let top = has_top x s in absurd (cc (none, top.1))

pub length-layers : (m : Outcomes) (s : List OwnLayer) → length (layers_on m s) ≡ length s
length-layers m [] = refl
length-layers m (y ∷ s) = ap (λ n. suc n) (length-layers (stacked m y.own) s)

pub all_push : {X : Type 0} (P : X → Type 0) (s : List X) (y : X) → All P s → P y → All P (s ++ y ∷ [])
all_push P [] y all last = All-cons P y [] last all
all_push P (x ∷ s) y all last =
    All-cons P x (s ++ y ∷ []) (All-head P x s all) (all_push P s y (All-tail P x s all) last)

pub all_before : {X : Type 0} (P : X → Type 0) (s : List X) (y : X) → All P (s ++ y ∷ []) → All P s
all_before P [] y all = All-nil P
all_before P (x ∷ s) y all =
    All-cons P x s (All-head P x (s ++ y ∷ []) all) (all_before P s y (All-tail P x (s ++ y ∷ []) all))

-- the topmost layer takes in a next one

pub set_last : (s : List OwnLayer) (n : ℕ) (y : OwnLayer) → s ≢ [] → n ≡ length s →
    slice_set s (n - 1) y ≡ all_but_last s ++ y ∷ []
set_last [] n y some is = absurd (some refl)
set_last (x ∷ s) n y some is =
    let at : n - 1 ≡ length s = omega (arith, is) in ap (λ k. slice_set (x ∷ s) k y) at ∙ by_list x s where
      by_list : (x : OwnLayer) (s : List OwnLayer) → slice_set (x ∷ s) (length s) y ≡ all_but_last (x ∷ s) ++ y ∷ []
      by_list x [] = refl
      by_list x (z ∷ s) = ap (λ t. x ∷ t) (by_list z s)

pub last_is : (s : List OwnLayer) (n : ℕ) (x : OwnLayer) → s ≢ [] → n ≡ length s → x ≡ get_or s (n - 1) x →
    s ≡ all_but_last s ++ x ∷ []
last_is [] n x some is there = absurd (some refl)
last_is (y ∷ s) n x some is there =
    let at : n - 1 ≡ length s = omega (arith, is) in by_list y s (there ∙ ap (λ k. get_or (y ∷ s) k x) at) where
      by_list : (y : OwnLayer) (s : List OwnLayer) → x ≡ get_or (y ∷ s) (length s) x → y ∷ s ≡ all_but_last (y ∷ s) ++ x ∷ []
      by_list y [] there = ap (λ z. z ∷ []) (sym there)
      by_list y (z ∷ s) there = ap (λ t. y ∷ t) (by_list z s there)

but_last_push : {X : Type 0} (xs : List X) (x : X) → all_but_last (xs ++ x ∷ []) ≡ xs
but_last_push [] x = refl
but_last_push (y ∷ []) x = refl
but_last_push (y ∷ z ∷ xs) x = ap (λ ys. y ∷ ys) (but_last_push (z ∷ xs) x)

or_both : (x y z : Option Outcome) → option_or (option_or x y) z ≡ option_or x (option_or y z)
or_both (Some o) y z = refl
or_both None y z = refl

moves_on_top : (s : List Layer) (y : Layer) → moves_of (s ++ y ∷ []) ≡ y.moves
moves_on_top [] y = refl
moves_on_top (x ∷ []) y = refl
moves_on_top (x ∷ z ∷ s) y = moves_on_top (z ∷ s) y

pub extended_top : (t items : List OwnLayer) (now : List Layer) (x new next : OwnLayer) → layers_on finite.empty items ≡ now →
    items ≡ t ++ x ∷ [] →
    ((l : Place) → finite.get new.own l ≡ option_or (finite.get next.own l) (finite.get x.own l)) →
    new.moves ≡ x.moves ++ next.moves → new.is_alone ≡ false → alone_in next ≡ None → new.count ≡ next.count →
    layers_on finite.empty (t ++ new ∷ []) ≡ all_but_last now ++ behind (moves_of now) (stacked_on (outcomes_of now) next) ∷ []
extended_top t items now x new next seen is own more several later count =
    layers-push finite.empty t new
    ∙ (λ i. before i ++ record { outcomes = outcomes i; moves = moves i; alone = alone i; count = count i } ∷ []) where
      all : layers_on finite.empty t ++ stacked_on (all_laid finite.empty t) x ∷ [] ≡ now
      all = sym (layers-push finite.empty t x) ∙ ap (λ (s : List OwnLayer). layers_on finite.empty s) (sym is) ∙ seen

      moves : new.moves ≡ moves_of now ++ next.moves
      moves =
          more ∙ ap (λ (Ms : List Move). Ms ++ next.moves)
          (sym (moves_on_top (layers_on finite.empty t) (stacked_on (all_laid finite.empty t) x)) ∙ ap moves_of all)

      alone : alone_in new ≡ alone_in next
      alone = ap (λ b. cond b (first_of new.moves) None) several ∙ sym later

      before : layers_on finite.empty t ≡ all_but_last now
      before = sym (but_last_push (layers_on finite.empty t) (stacked_on (all_laid finite.empty t) x)) ∙ ap all_but_last all

      below : stacked (all_laid finite.empty t) x.own ≡ outcomes_of now
      below = sym (all_laid-push finite.empty t x) ∙ ap (all_laid finite.empty) (sym is) ∙ sym (outcomes_all items) ∙ ap outcomes_of seen

      outcomes : stacked (all_laid finite.empty t) new.own ≡ stacked (outcomes_of now) next.own
      outcomes = laid_is (outcomes_of now) next.own (stacked (all_laid finite.empty t) new.own) (λ q.
          get-stacked (all_laid finite.empty t) new.own q
          ∙ ap (λ (o : Option Outcome). option_or o (finite.get (all_laid finite.empty t) q)) (own q)
          ∙ or_both (finite.get next.own q) (finite.get x.own q) (finite.get (all_laid finite.empty t) q)
          ∙ ap (option_or (finite.get next.own q)) (sym (get-stacked (all_laid finite.empty t) x.own q)
          ∙ ap (λ (os : Outcomes). finite.get os q) below))

pub sound_items : (s : List Layer) → All IsSound s → All IsSound (all_but_last s)
sound_items [] all = all
sound_items (x ∷ []) all = All-nil IsSound
sound_items (x ∷ y ∷ s) all =
    All-cons IsSound x (all_but_last (y ∷ s)) (All-head IsSound x (y ∷ s) all) (sound_items (y ∷ s) (All-tail IsSound x (y ∷ s) all))

-- a test for a topmost layer
pub top_by_test : (s : List Layer) (o : Option (Bor OwnLayer)) →
    option_map (λ (y : OwnLayer). y.count) (option_copied o) ≡ option_map (λ (y : Layer). y.count) (top_of s) →
    is_some o ≡ true → (y : Layer) × (top_of s ≡ Some y)
top_by_test s (Some x) is some = with_top s x.now.count is
top_by_test s None is some = absurd (false≢true some)

pub no_top_by_test : (s : List Layer) (o : Option (Bor OwnLayer)) →
    option_map (λ (y : OwnLayer). y.count) (option_copied o) ≡ option_map (λ (y : Layer). y.count) (top_of s) →
    is_some o ≡ false → top_of s ≡ None
no_top_by_test s (Some x) is none = absurd (false≢true (sym none))
no_top_by_test s None is none = without_top s is

-- whether there is none
pub first_by : (s : List Layer) (o : Option ℕ) → o ≡ option_map (λ (y : Layer). y.count) (top_of s) →
    option_map_or (λ n. false) o true ≡ is_first s
first_by s o is = ap (λ (x : Option ℕ). option_map_or (λ n. false) x true) is ∙ by_top (top_of s) where
  by_top : (t : Option Layer) →
      option_map_or (λ n. false) (option_map (λ (y : Layer). y.count) t) true ≡ option_map_or (λ (y : Layer). false) t true
  by_top (Some y) = refl
  by_top None = refl

-- more moves in front of its own leave a layer sound
pub sound_behind : (Ms : List Move) (y : Layer) → IsSound y → IsSound (behind Ms y)
sound_behind Ms y sound = record { count = sound.count; few = sound.few; alone = sound.alone }

pub some_layers : (s : List Layer) (y : Layer) → top_of s ≡ Some y → s ≢ []
some_layers s y is none = let no : None ≡ Some y = ap top_of (sym none) ∙ is in cc
