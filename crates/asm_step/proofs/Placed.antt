-- Lists that are placed by location: what is placed at some of the locations, in turn, and what outcomes list.
use Rattle.std.proofs.Common.{◌≡◌, ◌≤◌, ◌+◌, ℕ, Bool, true, false, cond, ◌||◌, T, List, [], ◌∷◌, ◌++◌, length, filter, Option, Some, None, is_some, Result, Ok, Err, refl, sym, ap, ◌∙◌, arith, append-nil, length-append}
use Rattle.std.specs.FinMap as finite
use Rattle.std.specs.FinMap.Entries.{where_key, is_sorted-where_key, find-where_key}
use Rattle.std.specs.List.{flat_map}
use Rattle.std.specs.Option.{option_map_or}
use Rattle.std.specs.Ordering.{eq_by_cmp}
use Rattle.std.specs.declared.cmp.Ordering.TheVariants.{Equal}
use Rattle.asm_element.specs.Ascending.{first_gone, rising_rest}
use Rattle.asm_element.specs.Place.{Place, location_cmp, location_cmp_total, location_cmp-IsAntisymmetric, same_location}
use Rattle.asm_element.specs.Tests.{flipped, itself, or_right}
use Rattle.asm_update.specs.Aggregator.{Joined, NoJoin}
use Rattle.asm_update.specs.Fire.{written, locations}
use Rattle.asm_update.specs.Move.{Move, actions_at, writes}
use Rattle.asm_update.specs.declared.action.Action.{Action}
use Rattle.asm_update.proofs.FireLemmas.{in_locations, is_in, places}
use Rattle.asm_aggregate.specs.Compose.{before, in_turn, placed}
use Rattle.asm_aggregate.proofs.Composing.{same_places}
use Rattle.asm_aggregate.proofs.Grouped.{actions_at-append}
use Rattle.asm_aggregate.proofs.Sequence.{actions_placed}
use Rattle.asm_aggregate.proofs.Sequence.{outs}
use Rattle.asm_step.specs.Outcomes.{Outcome, Outcomes, actions_in, listed}
use Rattle.asm_step.proofs.Stacked.{kept_at}

-- what is given for each of some locations, in turn
abbrev pub each_placed : (Place → List Action) → List Place → Move
each_placed k ls = flat_map (λ l. placed l (k l)) ls

-- where those that a test passes over have nothing, they are no matter
only_some : (k : Place → List Action) (p : Place → Bool) (ls : List Place) → ((l : Place) → p l ≡ false → k l ≡ []) →
    each_placed k (filter p ls) ≡ each_placed k ls
only_some k p [] none = refl
only_some k p (l ∷ ls) none = by_test (p l) refl (only_some k p ls none) where
  by_test : (b : Bool) → p l ≡ b → each_placed k (filter p ls) ≡ each_placed k ls →
      each_placed k (cond b (l ∷ filter p ls) (filter p ls)) ≡ placed l (k l) ++ each_placed k ls
  by_test true e later = ap (λ M. placed l (k l) ++ M) later
  by_test false e later = later ∙ ap (λ xs. placed l xs ++ each_placed k ls) (sym (none l e))

-- those that a test passes aren't more than all
pub some_few : (k : Place → List Action) (p : Place → Bool) (ls : List Place) →
    length (each_placed k (filter p ls)) ≤ length (each_placed k ls)
some_few k p [] = omega arith
some_few k p (l ∷ ls) = by_test (p l) (some_few k p ls) where
  longer : length (placed l (k l) ++ each_placed k ls) ≡ length (placed l (k l)) + length (each_placed k ls)
  longer = length-append (placed l (k l)) (each_placed k ls)

  by_test : (b : Bool) → length (each_placed k (filter p ls)) ≤ length (each_placed k ls) →
      length (each_placed k (cond b (l ∷ filter p ls) (filter p ls))) ≤ length (placed l (k l) ++ each_placed k ls)
  by_test true later =
      let shorter : length (placed l (k l) ++ each_placed k (filter p ls))
      ≡ length (placed l (k l)) + length (each_placed k (filter p ls)) =
      length-append (placed l (k l)) (each_placed k (filter p ls)) in
      both_few _ _ _ _ _ shorter longer later
    where
      both_few : (a b c d e : ℕ) → a ≡ c + d → b ≡ c + e → d ≤ e → a ≤ b
      both_few a b c d e x y z = omega (arith, x, y, z)
  by_test false later = more_few _ _ _ _ longer later where
    more_few : (a b c d : ℕ) → b ≡ c + d → a ≤ d → a ≤ b
    more_few a b c d x y = omega (arith, x, y)

-- the entries of a map at the locations of a move are in the move's order
places_where : {X : Type 0} (p : Place → Bool) (es : List (Place × X)) →
    places (where_key location_cmp p es) ≡ filter p (places es)
places_where p [] = refl
places_where p (e ∷ es) = by_test (p e.0) (places_where p es) where
  by_test : (b : Bool) → places (where_key location_cmp p es) ≡ filter p (places es) →
      places (cond b (e ∷ where_key location_cmp p es) (where_key location_cmp p es))
      ≡ cond b (e.0 ∷ filter p (places es)) (filter p (places es))
  by_test true later = ap (λ ls. e.0 ∷ ls) later
  by_test false later = later

locations_among : {X : Type 0} (m : finite.FinMap location_cmp X) (p : Place → Bool) (W : Move) →
    ((l : Place) → cond (p l) (is_some (finite.get m l)) false ≡ writes W l) →
    filter p (places (finite.entries m)) ≡ locations W
locations_among m p W there =
    let es = finite.entries m in
    let sorted = is_sorted-where_key location_cmp p es (finite.entries_sorted m) in
    let among = finite.from_sorted {R = location_cmp} (where_key location_cmp p es) in
    let alike : (q x : Place) → location_cmp q x ≡ Equal → p x ≡ p q =
    λ q x e. ap p (sym (location_cmp-IsAntisymmetric q x e)) in
    let some : (l : Place) → is_some (finite.get among l) ≡ writes W l =
    λ l. ap is_some (finite.get-from_sorted location_cmp (where_key location_cmp p es) l sorted
    ∙ find-where_key location_cmp p l (alike l) es)
    ∙ by_test l (p l) refl in
    sym (places_where p es)
    ∙ ap places (sym (finite.entries-from_sorted location_cmp (where_key location_cmp p es) sorted))
    ∙ same_places among W some where
      by_test : (l : Place) (b : Bool) → p l ≡ b →
          is_some (cond b (finite.find location_cmp l (finite.entries m)) None) ≡ writes W l
      by_test l true e =
          ap is_some (sym (finite.get-entries m l)) ∙ ap (λ b. cond b (is_some (finite.get m l)) false) (sym e) ∙ there l
      by_test l false e = ap (λ b. cond b (is_some (finite.get m l)) false) (sym e) ∙ there l

-- the locations of a move among those of another, by a test
pub locations_passed : (p : Place → Bool) (U W : Move) → ((l : Place) → cond (p l) (writes U l) false ≡ writes W l) →
    filter p (locations U) ≡ locations W
locations_passed p U W there =
    locations_among (written U) p W
    (λ l. ap (λ b. cond (p l) b false) (finite.contains_key-keys (written U) l ∙ in_locations U l) ∙ there l)

-- lists in turn, where each location has one
pub turn_all : (h : Place → Joined) (k : Place → List Action) (ls : List Place) →
    ((l : Place) → is_in ls l ≡ true → h l ≡ Ok (k l)) → in_turn (outs h ls) ≡ Ok (each_placed k ls)
turn_all h k [] each = refl
turn_all h k (l ∷ ls) each =
    let here : h l ≡ Ok (k l) = each l (ap (λ b. b || is_in ls l) (itself location_cmp_total l)) in
    let later = turn_all h k ls (λ q there. each q (or_right _ _ there)) in
    ap (λ (o : Joined). in_turn ((l, o) ∷ outs h ls)) here ∙ ap (before (placed l (k l))) later

-- and where one of those that a test passes is refused
pub turn_refused : (h f : Place → Joined) (g : Place → List Action) (p : Place → Bool) (ls : List Place)
    (r : Place × NoJoin) → ((l : Place) → p l ≡ true → h l ≡ f l) → ((l : Place) → p l ≡ false → h l ≡ Ok (g l)) →
    in_turn (outs f (filter p ls)) ≡ Err r → in_turn (outs h ls) ≡ Err r
turn_refused h f g p [] r one other is = is
turn_refused h f g p (l ∷ ls) r one other is =
    by_test (p l) refl is (turn_refused h f g p ls r one other) where
      ok_before : (xs : List Action) (t u : Result Move (Place × NoJoin)) → (t ≡ Err r → u ≡ Err r) →
          before (placed l xs) t ≡ Err r → before (placed l xs) u ≡ Err r
      ok_before xs (Ok M) u later e = cc
      ok_before xs (Err s) u later e = ap (before (placed l xs)) (later e)

      by_answer : (o : Joined) → in_turn ((l, o) ∷ outs f (filter p ls)) ≡ Err r →
          (in_turn (outs f (filter p ls)) ≡ Err r → in_turn (outs h ls) ≡ Err r) →
          in_turn ((l, o) ∷ outs h ls) ≡ Err r
      by_answer (Ok xs) e later = ok_before xs (in_turn (outs f (filter p ls))) (in_turn (outs h ls)) later e
      by_answer (Err refusal) e later = e

      by_test : (b : Bool) → p l ≡ b → in_turn (outs f (cond b (l ∷ filter p ls) (filter p ls))) ≡ Err r →
          (in_turn (outs f (filter p ls)) ≡ Err r → in_turn (outs h ls) ≡ Err r) →
          in_turn ((l, h l) ∷ outs h ls) ≡ Err r
      by_test true e i later =
          ap (λ (o : Joined). in_turn ((l, o) ∷ outs h ls)) (one l e) ∙ by_answer (f l) i later
      by_test false e i later =
          ap (λ (o : Joined). in_turn ((l, o) ∷ outs h ls)) (other l e) ∙ ap (before (placed l (g l))) (later i)

-- the instructions of outcomes are listed location by location
listed_each : (es : List (Place × Outcome)) (k : Place → List Action) → T (finite.is_sorted location_cmp es) →
    ((l : Place) (o : Outcome) → finite.find location_cmp l es ≡ Some o → k l ≡ o.actions) →
    flat_map (λ (e : Place × Outcome). placed e.0 e.1.actions) es ≡ each_placed k (places es)
listed_each [] k sorted is = refl
listed_each ((j, o) ∷ es) k sorted is =
    (λ i. placed j (sym here i)
    ++ listed_each es k (rising_rest location_cmp j o es sorted) (λ l x found. is l x (later l x found (eq_by_cmp location_cmp l j) refl)) i)
  where
    here : k j ≡ o.actions
    here = is j o (ap (λ b. cond b (Some o) (finite.find location_cmp j es)) (itself location_cmp_total j))

    later : (l : Place) (x : Outcome) → finite.find location_cmp l es ≡ Some x → (b : Bool) → eq_by_cmp location_cmp l j ≡ b →
        cond b (Some o) (finite.find location_cmp l es) ≡ Some x
    later l x found true e =
        let no : None ≡ Some x =
        sym (ap (λ p. finite.find location_cmp p es) (same_location l j e) ∙ first_gone location_cmp j o es sorted) ∙ found in cc
    later l x found false e = found

-- what outcomes have at the locations of entries
pub at_kept : {X : Type 0} (os : Outcomes) (es : List (Place × X)) (l : Place) → T (finite.is_sorted location_cmp es) →
    actions_at (kept_at os es) l ≡ cond (is_some (finite.find location_cmp l es)) (actions_in os l) []
at_kept os [] l sorted = refl
at_kept os ((k, x) ∷ es) l sorted =
    actions_at-append (placed k (actions_in os k)) (kept_at os es) l
    ∙ ap (λ xs. actions_at (placed k (actions_in os k)) l ++ xs) (at_kept os es l (rising_rest location_cmp k x es sorted))
    ∙ by_test (eq_by_cmp location_cmp l k) refl where
      by_test : (b : Bool) → eq_by_cmp location_cmp l k ≡ b →
          actions_at (placed k (actions_in os k)) l ++ cond (is_some (finite.find location_cmp l es)) (actions_in os l) []
          ≡ cond (is_some (cond b (Some x) (finite.find location_cmp l es))) (actions_in os l) []
      by_test true e =
          let at = same_location l k e in
          (λ i. actions_placed k l (actions_in os k) true (flipped location_cmp_total k l ∙ e) i
          ++ cond (is_some ((ap (λ p. finite.find location_cmp p es) at ∙ first_gone location_cmp k x es sorted) i)) (actions_in os l) [])
          ∙ append-nil (actions_in os k) ∙ ap (actions_in os) (sym at)
      by_test false e =
          ap (λ xs. xs ++ cond (is_some (finite.find location_cmp l es)) (actions_in os l) [])
          (actions_placed k l (actions_in os k) false (flipped location_cmp_total k l ∙ e))

-- what is listed of outcomes is placed by location
listed_by : (os : Outcomes) → listed os ≡ each_placed (actions_in os) (places (finite.entries os))
listed_by os =
    listed_each (finite.entries os) (actions_in os) (finite.entries_sorted os)
    (λ l o found. ap (λ (x : Option Outcome). option_map_or (λ (o : Outcome). o.actions) x []) (finite.get-entries os l ∙ found))

-- outcomes list what is placed at the locations of a move, if at each of these they have one, and elsewhere no action
pub listed_at : (os : Outcomes) (W : Move) → ((l : Place) → writes W l ≡ true → is_some (finite.get os l) ≡ true) →
    ((l : Place) → writes W l ≡ false → actions_in os l ≡ []) → each_placed (actions_in os) (locations W) ≡ listed os
listed_at os W some none =
    ap (each_placed (actions_in os)) (sym (locations_among os (writes W) W (λ l. ap (λ b. cond b (is_some (finite.get os l)) false) refl ∙ by_test l (writes W l) refl)))
    ∙ only_some (actions_in os) (writes W) (places (finite.entries os)) none
    ∙ sym (listed_by os) where
      by_test : (l : Place) (b : Bool) → writes W l ≡ b → cond b (is_some (finite.get os l)) false ≡ b
      by_test l true w = some l w
      by_test l false w = refl
