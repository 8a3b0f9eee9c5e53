-- Entries that come in one by one from a list in ascending order: what is left of the list, over what came in.
use Rattle.std.proofs.Common.{◌≡◌, Bool, true, false, cond, T, List, [], ◌∷◌, length, ◌≤◌, Option, Some, None, refl, sym, ap, ◌∙◌, subst, arith}
use Rattle.std.proofs.lemmas.List.{nil_from_length}
use Rattle.std.specs.Ordering.{eq_by_cmp}
use Rattle.std.specs.Option.{option_map}
use Rattle.std.specs.FinMap as finite
use Rattle.std.proofs.lemmas.Iterator.Adapters.{option_map_id}
use Rattle.asm_element.specs.Place.{Place, location_cmp, location_cmp_total, location_cmp-IsAntisymmetric, same_location}
use Rattle.asm_element.specs.Ascending.{first_gone}
use Rattle.asm_state.specs.Follow.{over}

over_none : {X : Type 0} (x : Option X) → over x None ≡ x
over_none (Some w) = refl
over_none None = refl

module _ {X Y : Type 0} (f : X → Y) where
  -- the first of the list came in, and the rest is left
  pub over_step : (k : Place) (v : X) (rest : List (Place × X)) (q : Place) (x : Option Y) → T (finite.is_sorted location_cmp ((k, v) ∷ rest)) →
      over (option_map f (finite.find location_cmp q rest)) (cond (eq_by_cmp location_cmp q k) (Some (f v)) x) ≡ over (option_map f (finite.find location_cmp q ((k, v) ∷ rest))) x
  over_step k v rest q x sorted = by_test (eq_by_cmp location_cmp q k) refl where
    by_test : (b : Bool) → eq_by_cmp location_cmp q k ≡ b → over (option_map f (finite.find location_cmp q rest)) (cond b (Some (f v)) x) ≡ over (option_map f (cond b (Some v) (finite.find location_cmp q rest))) x
    by_test true e = ap (λ o. over (option_map f o) (Some (f v))) (ap (λ p. finite.find location_cmp p rest) (same_location q k e) ∙ first_gone location_cmp k v rest sorted)
    by_test false e = refl

  -- the same of an insertion
  pub insert_step : (k : Place) (v : X) (rest : List (Place × X)) (old new : finite.FinMap location_cmp Y) (l : Place) (w : Y) → new ≡ finite.insert old l w → l ≡ k → w ≡ f v → T (finite.is_sorted location_cmp ((k, v) ∷ rest)) →
      (q : Place) → over (option_map f (finite.find location_cmp q rest)) (finite.get new q) ≡ over (option_map f (finite.find location_cmp q ((k, v) ∷ rest))) (finite.get old q)
  insert_step k v rest old new l w inserted at value sorted q =
      let got : finite.get new q ≡ cond (eq_by_cmp location_cmp q k) (Some (f v)) (finite.get old q) =
      ap (λ (m : finite.FinMap location_cmp Y). finite.get m q) inserted ∙ finite.get-insert location_cmp_total old l w q
      ∙ (λ i. cond (eq_by_cmp location_cmp q (at i)) (Some (value i)) (finite.get old q)) in
      ap (over (option_map f (finite.find location_cmp q rest))) got ∙ over_step k v rest q (finite.get old q) sorted

  -- before the first came in
  pub over_start : (m : finite.FinMap location_cmp X) (left : List (Place × X)) (new : finite.FinMap location_cmp Y) → left ≡ finite.entries m → new ≡ finite.empty →
      (q : Place) → over (option_map f (finite.find location_cmp q left)) (finite.get new q) ≡ option_map f (finite.get m q)
  over_start m left new all none q =
      ap (over (option_map f (finite.find location_cmp q left))) (ap (λ (n : finite.FinMap location_cmp Y). finite.get n q) none ∙ finite.get-empty location_cmp q)
      ∙ over_none (option_map f (finite.find location_cmp q left)) ∙ ap (λ (es : List (Place × X)). option_map f (finite.find location_cmp q es)) all
      ∙ ap (option_map f) (sym (finite.get-entries m q))

pub rising_start : {X : Type 0} (m : finite.FinMap location_cmp X) (left : List (Place × X)) → left ≡ finite.entries m → T (finite.is_sorted location_cmp left)
rising_start m left all = subst (λ es. T (finite.is_sorted location_cmp es)) (sym all) (finite.entries_sorted m)

-- all came in, each as it was
pub all_copied : {X : Type 0} (m new : finite.FinMap location_cmp X) → ((q : Place) → finite.get new q ≡ option_map (λ w. w) (finite.get m q)) → new ≡ m
all_copied m new each = finite.same_map location_cmp_total location_cmp-IsAntisymmetric new m (λ q. each q ∙ option_map_id (finite.get m q))

module _ {X Y : Type 0} (f : X → Y) (U : finite.FinMap location_cmp X) (all : List (Place × X)) (is : all ≡ finite.entries U) where
  update_at : (q : Place) → finite.find location_cmp q all ≡ finite.get U q
  update_at q = ap (λ (es : List (Place × X)). finite.find location_cmp q es) is ∙ sym (finite.get-entries U q)

  -- the one update that there is came in
  pub only_one : (rest : List (Place × X)) (k : Place) (v : X) (old new : finite.FinMap location_cmp Y) →
      all ≡ (k, v) ∷ rest → finite.len U ≤ 1 → new ≡ finite.insert old k (f v) →
      (q : Place) → finite.get new q ≡ over (option_map f (finite.get U q)) (finite.get old q)
  only_one rest k v old new first one inserted q =
      let none : rest ≡ [] = nil_from_length rest (let many = ap length (sym first ∙ is) ∙ sym (finite.len-entries U) in omega (arith, many, one)) in
      insert_step f k v [] old new k (f v) inserted refl refl tt q
      ∙ ap (λ (es : List (Place × X)). over (option_map f (finite.find location_cmp q es)) (finite.get old q)) (ap (λ (es : List (Place × X)). (k, v) ∷ es) (sym none) ∙ sym first)
      ∙ ap (λ (o : Option X). over (option_map f o) (finite.get old q)) (update_at q)

  -- or there was none
  pub not_one : (old : finite.FinMap location_cmp Y) → all ≡ [] → (q : Place) → finite.get old q ≡ over (option_map f (finite.get U q)) (finite.get old q)
  not_one old none q =
      ap (λ (es : List (Place × X)). over (option_map f (finite.find location_cmp q es)) (finite.get old q)) (sym none)
      ∙ ap (λ (o : Option X). over (option_map f o) (finite.get old q)) (update_at q)
