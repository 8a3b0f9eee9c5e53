-- What a pop leaves.
use Rattle.std.proofs.Common.{◌≡◌, ◌≤◌, ◌+◌, ◌∙◌, List, [], ◌∷◌, ◌++◌, length, map, Option, Some, None, arith, ap, refl, subst, sym}
use Rattle.std.specs.Prelude.{IfSome}
use Rattle.std.specs.Option.{option_map, option_map_or}
use Rattle.std.proofs.lemmas.List.{length-map, map-append}
use Rattle.asm_element.specs.Place.{Place}
use Rattle.asm_state.specs.declared.named.Named.{Named}
use Rattle.asm_storage.specs.Limits.{reads_limit}
use Rattle.asm_step.proofs.Layered.{top_of-push}
use Rattle.asm_step.specs.Layers.{Layer, moves_of, top_of}
use Rattle.asm_step.specs.Places.{AreEach, all_partial_places}
use Rattle.asm_update.specs.Move.{Move}
use Rattle.asm_transaction.specs.Popping.{HasPopped}
use Rattle.asm_transaction.specs.Reading.{from_below}
use Rattle.asm_transaction.specs.View.{TransactionView, places_of}

pub last_of : (s : List Layer) (y : Layer) → moves_of (s ++ y ∷ []) ≡ y.moves
last_of s y = ap (λ (o : Option Layer). option_map_or (λ (y : Layer). y.moves) o []) (top_of-push s y)

-- the topmost layer is removed, and these locations are tracked
pub is_popped : (t inside : TransactionView) (ls : List Layer) (places : List Place) (tracked : List Named) (y : Layer) → inside ≡ t →
    inside.layers ≡ ls ++ y ∷ [] → AreEach (t.tracked ++ from_below t places) (places_of tracked) → length tracked + length t.scanned ≤ reads_limit →
    HasPopped places (moves_of t.layers) t (record inside { layers = ls; tracked = places_of tracked })
is_popped t inside ls places tracked y view all each few =
    let layers : t.layers ≡ ls ++ y ∷ [] = sym (ap (λ (x : TransactionView). x.layers) view) ∙ all in
    record {
      same = ap (λ (x : TransactionView). record x { layers = ls; tracked = places_of tracked }) view;
      layers = (y ∷ [], sym layers);
      groups =
          ap (λ (s : List Layer). map (λ (y : Layer). y.moves) s) layers ∙ map-append (λ (y : Layer). y.moves) ls (y ∷ [])
          ∙ ap (λ (g : List Move). map (λ (y : Layer). y.moves) ls ++ g ∷ []) (sym (ap moves_of layers ∙ last_of ls y));
      tracked = each;
      few =
          subst (λ (x : TransactionView). length (places_of tracked) + length x.scanned ≤ reads_limit) (sym view)
          (omega (arith, few, length-map tracked (λ (r : Named). r.at)));
    }

pub popped_some : (o : Option (List Move)) (t inside : TransactionView) (ls : List Layer) (places : List Place) (tracked : List Named) → inside ≡ t →
    places ≡ all_partial_places (moves_of t.layers) → AreEach (t.tracked ++ from_below t places) (places_of tracked) →
    length tracked + length t.scanned ≤ reads_limit → IfSome o (λ Ms. (y : Layer) × (inside.layers ≡ ls ++ y ∷ []) × (Ms ≡ y.moves)) →
    IfSome o (λ Ms. HasPopped (all_partial_places Ms) Ms t (record inside { layers = ls; tracked = places_of tracked }))
popped_some None t inside ls places tracked view are each few less = tt
popped_some (Some Ms) t inside ls places tracked view are each few less =
    let (y, all, is) = less in
    let layers : t.layers ≡ ls ++ y ∷ [] = sym (ap (λ (x : TransactionView). x.layers) view) ∙ all in
    let these : moves_of t.layers ≡ Ms = ap moves_of layers ∙ last_of ls y ∙ sym is in
    subst (λ (g : List Move). HasPopped (all_partial_places g) g t (record inside { layers = ls; tracked = places_of tracked })) these
    (subst (λ (l : List Place). HasPopped l (moves_of t.layers) t (record inside { layers = ls; tracked = places_of tracked })) are
    (is_popped t inside ls places tracked y view all each few))

-- if no layer is on top, there is none
pub no_top : (layers : List Layer) → None ≡ option_map (λ (y : Layer). y.moves) (top_of layers) → layers ≡ []
no_top [] is = refl
no_top (y ∷ []) is = cc
no_top (y ∷ z ∷ layers) is = let none : z ∷ layers ≡ [] = no_top (z ∷ layers) is in cc

-- the moves of the layer on top are those that were pushed last
of_top : (o : Option Layer) (Ms : List Move) → Some Ms ≡ option_map (λ (y : Layer). y.moves) o → Ms ≡ option_map_or (λ (y : Layer). y.moves) o []
of_top (Some y) Ms is = cc
of_top None Ms is = cc

pub top_moves : (t inside : TransactionView) (Ms : List Move) → inside ≡ t →
    Some Ms ≡ option_map (λ (y : Layer). y.moves) (top_of inside.layers) → Ms ≡ moves_of t.layers
top_moves t inside Ms view is = of_top (top_of inside.layers) Ms is ∙ ap (λ (x : TransactionView). moves_of x.layers) view
