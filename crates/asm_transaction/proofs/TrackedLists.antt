-- Lists of tracked locations.
use Rattle.std.proofs.Common.{◌≡◌, ◌≤◌, ◌<◌, ◌+◌, ◌∙◌, ℕ, zero, suc, Bool, true, cond, List, [], ◌∷◌, ◌++◌, append-nil, append_assoc, All, Contains, HoldsAt, length, take, drop, get_or, Result, Ok, Err, arith, ⊎_elim, refl, ap, subst, sym}
use Rattle.std.specs.List.{insert}
use Rattle.std.specs.Prelude.{IfErr, IfOk}
use Rattle.std.specs.List.Sorted.{IsBinarySearchResult, IsNonDecreasingBy, IsPartitionPoint, IsSearchInRange, IsStrictlySortedBy}
use Rattle.std.specs.Ordering.{is_lt, ordering_index, ordering_reverse}
use Rattle.std.specs.declared.cmp.Ordering.TheVariants.{Equal, Greater, Less}
use Rattle.std.proofs.lemmas.List.{drop-map, get_or-map, length-map, map-append, take-map}
use Rattle.std.proofs.lemmas.List.Edits.{length-insert}
use Rattle.std.proofs.lemmas.List.Elements.{All-append, All-cons, All-drop, All-from_recursion, All-nil, All-push, All-take, Contains-append_cases, Contains-append_left, Contains-append_right, recursion_from_All}
use Rattle.std.proofs.lemmas.List.Sorted.{Contains-permutation, IsPermutation-insert, IsPermutation-sym, searchable_from_sorted}
use Rattle.std.proofs.lemmas.Map.Keys.{Less-from_sorted}
use Rattle.asm_element.specs.Place.{Place, location_cmp, location_cmp-IsAntisymmetric, location_cmp_total}
use Rattle.asm_state.specs.declared.named.Named.{Named}
use Rattle.asm_state.specs.declared.scanned.Scanned.{Scanned}
use Rattle.asm_step.specs.Layers.{shows_below}
use Rattle.asm_step.specs.Places.{AreEach}
use Rattle.asm_storage.specs.Limits.{reads_limit}
use Rattle.asm_transaction.specs.Reading.{HasTracked, WouldTakeMany}
use Rattle.asm_transaction.specs.Tracked.{IsPlaceFor}
use Rattle.asm_transaction.specs.View.{TransactionView, places_of}

either : (xs ys : List Place) (l : Place) → Contains (xs ++ ys) l → Contains (ys ++ xs) l
either xs ys l has =
    ⊎_elim (λ first. Contains-append_right ys xs l first) (λ second. Contains-append_left ys xs l second)
    (Contains-append_cases xs ys l has)

-- each of two lists, whichever is first
pub each_swapped : (xs ys ls : List Place) → AreEach (xs ++ ys) ls → AreEach (ys ++ xs) ls
each_swapped xs ys ls each = record {
  ascending = each.ascending;
  same = λ l. (λ has. either xs ys l ((each.same l).0 has), λ has. (each.same l).1 (either ys xs l has));
}

-- a list in ascending order has each of its own locations
pub each_itself : (ls : List Place) → IsStrictlySortedBy location_cmp ls → AreEach (ls ++ []) ls
each_itself ls up = subst (λ (xs : List Place). AreEach xs ls) (sym (append-nil ls)) (record { ascending = up; same = λ l. (λ has. has, λ has. has) })

-- and one of them once more changes nothing
pub each_there : (ls : List Place) (l : Place) → IsStrictlySortedBy location_cmp ls → Contains ls l → AreEach (ls ++ l ∷ []) ls
each_there ls l up there = record {
  ascending = up;
  same = λ k. (
    λ has. Contains-append_left ls (l ∷ []) k has,
    λ has. ⊎_elim (λ first. first) (λ last. subst (Contains ls) (is_one k last) there) (Contains-append_cases ls (l ∷ []) k has),
  );
} where
  is_one : (k : Place) → Contains (l ∷ []) k → l ≡ k
  is_one k (zero, lt, is) = is
  is_one k (suc i, lt, is) = let no : ⊥ = omega (arith, lt) in absurd no

-- ---- a declared read of each location

pub named_more : (done more : List Named) (old rest all : List Place) (r : Named) → old ≡ r.at ∷ rest → more ≡ done ++ r ∷ [] →
    places_of done ++ old ≡ all → places_of more ++ rest ≡ all
named_more done more old rest all r left pushed had =
    ap (λ (rs : List Named). places_of rs ++ rest) pushed
    ∙ ap (λ (ls : List Place). ls ++ rest) (map-append (λ (x : Named). x.at) done (r ∷ []))
    ∙ append_assoc (places_of done) (r.at ∷ []) rest ∙ ap (λ (ls : List Place). places_of done ++ ls) (sym left) ∙ had

pub numbers_more : (done more : List Named) (r : Named) (n : ℕ) → r.number ≡ n → more ≡ done ++ r ∷ [] →
    All (λ (x : Named). x.number ≡ n) done → All (λ (x : Named). x.number ≡ n) more
numbers_more done more r n is pushed had =
    subst (All (λ (x : Named). x.number ≡ n)) (sym pushed) (All-push (λ (x : Named). x.number ≡ n) done r had is)

-- ---- where a location goes

above : (k l : Place) → location_cmp k l ≡ Greater → location_cmp l k ≡ Less
above k l is = location_cmp_total.antisymm l k ∙ ap ordering_reverse is

inserted_ascends : (ls : List Place) (i : ℕ) (l : Place) → IsStrictlySortedBy location_cmp ls → IsPlaceFor ls l i →
    IsStrictlySortedBy location_cmp (insert ls i l)
unfolding IsStrictlySortedBy
inserted_ascends [] zero l up is = (tt, tt)
inserted_ascends [] (suc i) l up is = let no : ⊥ = omega (arith, is.within) in absurd no
inserted_ascends (k ∷ ls) zero l up is = (
  recursion_from_All (λ j. location_cmp l j ≡ Less) (k ∷ ls)
      (λ j d lt. above (get_or (k ∷ ls) j d) l (is.above j d (omega arith) lt)),
  up,
)
inserted_ascends (k ∷ ls) (suc i) l up is =
    let rest = All-from_recursion (λ j. location_cmp k j ≡ Less) ls up.0 in (
      recursion_from_All (λ j. location_cmp k j ≡ Less) (insert ls i l)
          (All-append (λ j. location_cmp k j ≡ Less) (take i ls) (l ∷ drop i ls)
          (All-take (λ j. location_cmp k j ≡ Less) i ls rest)
          (All-cons (λ j. location_cmp k j ≡ Less) l (drop i ls) (is.below 0 k (omega arith) (omega arith))
          (All-drop (λ j. location_cmp k j ≡ Less) i ls rest))),
      inserted_ascends ls i l up.1
          (record {
            within = omega (arith, is.within);
            below = λ j d from to. is.below (suc j) d (omega arith) (omega arith);
            above = λ j d from to. is.above (suc j) d (omega arith) (omega arith);
          }),
    )

pub each_inserted : (ls : List Place) (l : Place) (i : ℕ) → IsStrictlySortedBy location_cmp ls → IsPlaceFor ls l i →
    AreEach (ls ++ l ∷ []) (insert ls i l)
each_inserted ls l i up is = record {
  ascending = inserted_ascends ls i l up is;
  same = λ k. (
    λ has.
        either (l ∷ []) ls k
        (Contains-permutation (insert ls i l) (l ∷ ls) k (IsPermutation-sym (l ∷ ls) (insert ls i l) (IsPermutation-insert ls i l)) has),
    λ has. Contains-permutation (l ∷ ls) (insert ls i l) k (IsPermutation-insert ls i l) (either ls (l ∷ []) k has),
  );
}

places-insert : (reads : List Named) (i : ℕ) (r : Named) → places_of (insert reads i r) ≡ insert (places_of reads) i r.at
places-insert reads i r =
    map-append (λ (x : Named). x.at) (take i reads) (r ∷ drop i reads)
    ∙ (λ j. sym (take-map (λ (x : Named). x.at) i reads) j ++ r.at ∷ sym (drop-map (λ (x : Named). x.at) i reads) j)

pub all_inserted : (P : Named → Type 0) (reads : List Named) (i : ℕ) (r : Named) → All P reads → P r → All P (insert reads i r)
all_inserted P reads i r all one =
    All-append P (take i reads) (r ∷ drop i reads) (All-take P i reads all)
    (All-cons P r (drop i reads) one (All-drop P i reads all))

-- ---- what a binary search finds

module _ (reads : List Named) (l : Place) where
  abbrev any : Place → Named
  any k = record { at = k; number = 0 }

  at : (i : ℕ) (k : Place) → i < length reads → get_or (places_of reads) i k ≡ (get_or reads i (any k)).at
  at i k lt = get_or-map (λ (x : Named). x.at) reads i (any k) k lt

  rises : IsStrictlySortedBy location_cmp (places_of reads) → IsNonDecreasingBy (λ (r : Named). ordering_index (location_cmp r.at l)) reads
  rises up =
      searchable_from_sorted location_cmp_total (λ (r : Named). r.at) reads l
      (λ i d from to.
      let next : get_or (places_of reads) (i + 1) d.at ≡ (get_or reads (i + 1) d).at =
      get_or-map (λ (x : Named). x.at) reads (i + 1) d d.at to in
      let this : get_or (places_of reads) i d.at ≡ (get_or reads i d).at =
      get_or-map (λ (x : Named). x.at) reads i d d.at (omega arith) in
      let less : location_cmp (get_or (places_of reads) i d.at) (get_or (places_of reads) (i + 1) d.at) ≡ Less =
      Less-from_sorted location_cmp (places_of reads) i (i + 1) d.at up (omega arith)
      (omega (arith, to, length-map reads (λ (x : Named). x.at))) in
      ap is_lt (location_cmp_total.antisymm (get_or reads (i + 1) d).at (get_or reads i d).at
      ∙ ap ordering_reverse (sym (λ j. location_cmp (this j) (next j)) ∙ less)))

  place_is : (i : ℕ) → IsStrictlySortedBy location_cmp (places_of reads) → i ≤ length reads →
      (IsNonDecreasingBy (λ (r : Named). ordering_index (location_cmp r.at l)) reads →
      IsPartitionPoint (λ (r : Named). location_cmp r.at l ≡ Less) (λ (r : Named). location_cmp r.at l ≡ Greater) reads i) →
      IsPlaceFor (places_of reads) l i
  place_is i up le found =
      let parts = found (rises up) in
      let long = length-map reads (λ (x : Named). x.at) in
      record {
        within = omega (arith, le, long);
        below = λ j k from to.
            subst (λ (p : Place). location_cmp p l ≡ Less) (sym (at j k (omega (arith, to, le)))) (parts.0 j (any k) from to);
        above = λ j k from to.
            subst (λ (p : Place). location_cmp p l ≡ Greater) (sym (at j k (omega (arith, to, long))))
            (parts.1 j (any k) from (omega (arith, to, long)));
      }

  found_there : (i : ℕ) → i < length reads → HoldsAt (λ (r : Named). location_cmp r.at l ≡ Equal) reads i → Contains (places_of reads) l
  found_there i lt is = (
    i,
    omega (arith, lt, length-map reads (λ (x : Named). x.at)),
    at i l lt ∙ location_cmp-IsAntisymmetric (get_or reads i (any l)).at l (is (any l)),
  )

  -- a binary search ends at the location, or where it goes
  pub searched : IsStrictlySortedBy location_cmp (places_of reads) → (r : Result ℕ ℕ) → IsSearchInRange r (length reads) →
      IsBinarySearchResult (λ (x : Named). location_cmp x.at l) reads r →
      record { found : IfOk r (λ i. Contains (places_of reads) l); absent : IfErr r (IsPlaceFor (places_of reads) l) }
  searched up (Ok i) inside is = record { found = found_there i inside is; absent = tt }
  searched up (Err i) inside parts = record { found = tt; absent = place_is i up inside parts }

-- ---- what a transaction tracks

-- the empty list of locations is in ascending order
none_ascend : IsStrictlySortedBy location_cmp []
unfolding IsStrictlySortedBy
none_ascend = tt

-- nothing is tracked or scanned yet
pub none_kept : (tracked : List Named) (scans : List Scanned) (number : ℕ) → tracked ≡ [] → scans ≡ [] →
    IsStrictlySortedBy location_cmp (places_of tracked) × (length tracked + length scans ≤ reads_limit)
    × All (λ (r : Named). r.number ≡ number) tracked × All (λ (x : Scanned). x.number ≡ number) scans
none_kept tracked scans number none unscanned = (
  subst (λ (rs : List Named). IsStrictlySortedBy location_cmp (places_of rs)) (sym none) none_ascend,
  omega (arith, ap length none, ap length unscanned),
  subst (All (λ (r : Named). r.number ≡ number)) (sym none) (All-nil (λ (r : Named). r.number ≡ number)),
  subst (All (λ (x : Scanned). x.number ≡ number)) (sym unscanned) (All-nil (λ (x : Scanned). x.number ≡ number)),
)

module _ (inside t : TransactionView) (reads : List Named) (l : Place) (view : inside ≡ t) (are : inside.tracked ≡ places_of reads)
    (up : IsStrictlySortedBy location_cmp (places_of reads)) (few : length reads + length inside.scanned ≤ reads_limit) where
  whole : length inside.tracked + length inside.scanned ≤ reads_limit
  whole = omega (arith, few, ap length are, length-map reads (λ (x : Named). x.at))

  ascend : IsStrictlySortedBy location_cmp inside.tracked
  ascend = subst (IsStrictlySortedBy location_cmp) (sym are) up

  -- the location is one of those that are tracked
  pub tracked_already : shows_below inside.layers l ≡ true → Contains (places_of reads) l → HasTracked (l ∷ []) t t
  tracked_already shows there =
      subst (λ (x : TransactionView). HasTracked (l ∷ []) x x) view (
        refl,
        subst (λ (b : Bool). AreEach (inside.tracked ++ cond b (l ∷ []) []) inside.tracked) (sym shows)
            (each_there inside.tracked l ascend (subst (λ (ls : List Place). Contains ls l) (sym are) there)),
        whole,
      )

  module _ (i n : ℕ) (shows : shows_below inside.layers l ≡ true) (place : IsPlaceFor (places_of reads) l i) where
    abbrev one : Named
    one = record { at = l; number = n }

    abbrev longer : List Place
    longer = insert (places_of reads) i l

    more : length (insert reads i one) ≡ length reads + 1
    more = length-insert reads i one (omega (arith, place.within, length-map reads (λ (x : Named). x.at)))

    each : AreEach (inside.tracked ++ cond (shows_below inside.layers l) (l ∷ []) []) longer
    each =
        subst (λ (b : Bool). AreEach (inside.tracked ++ cond b (l ∷ []) []) longer) (sym shows)
        (subst (λ (ls : List Place). AreEach (ls ++ l ∷ []) longer) (sym are) (each_inserted (places_of reads) l i up place))

    -- it is put in its place
    pub tracked_more : length reads + length inside.scanned < reads_limit →
        HasTracked (l ∷ []) t (record inside { tracked = places_of (insert reads i one) })
    tracked_more room =
        subst (λ (x : TransactionView). HasTracked (l ∷ []) x (record inside { tracked = places_of (insert reads i one) })) view (
          refl,
          subst (λ (ls : List Place). AreEach (inside.tracked ++ cond (shows_below inside.layers l) (l ∷ []) []) ls)
              (sym (places-insert reads i one)) each,
          omega (arith, room, more, length-map (insert reads i one) (λ (x : Named). x.at)),
        )

    -- or there is no room for it
    pub would_take_many : reads_limit ≤ length reads + length inside.scanned → WouldTakeMany (l ∷ []) t
    would_take_many full =
        subst (λ (x : TransactionView). WouldTakeMany (l ∷ []) x) view
        (longer, each, omega (arith, full, length-insert (places_of reads) i l place.within, length-map reads (λ (x : Named). x.at)))

-- a list with one more read keeps what is kept
pub kept_more : (reads : List Named) (scans : List Scanned) (i n : ℕ) (l : Place) →
    IsStrictlySortedBy location_cmp (places_of reads) → IsPlaceFor (places_of reads) l i → length reads + length scans < reads_limit →
    All (λ (r : Named). r.number ≡ n) reads → All (λ (x : Scanned). x.number ≡ n) scans →
    IsStrictlySortedBy location_cmp (places_of (insert reads i (record { at = l; number = n })))
    × (length (insert reads i (record { at = l; number = n })) + length scans ≤ reads_limit)
    × All (λ (r : Named). r.number ≡ n) (insert reads i (record { at = l; number = n })) × All (λ (x : Scanned). x.number ≡ n) scans
kept_more reads scans i n l up place room numbers scanned = (
  subst (IsStrictlySortedBy location_cmp) (sym (places-insert reads i (record { at = l; number = n })))
      (inserted_ascends (places_of reads) i l up place),
  omega (arith, room, length-insert reads i (record { at = l; number = n }) (omega (arith, place.within, length-map reads (λ (x : Named). x.at)))),
  all_inserted (λ (r : Named). r.number ≡ n) reads i (record { at = l; number = n }) numbers refl,
  scanned,
)

-- without a further location the declared reads are those of the tracked ones
pub tracked_alone : (t inside : TransactionView) (tracked copies : List Named) (locations : List Place) → inside ≡ t →
    inside.tracked ≡ places_of tracked → IsStrictlySortedBy location_cmp (places_of tracked) → copies ≡ tracked → locations ≡ [] →
    AreEach (t.tracked ++ locations) (places_of copies)
tracked_alone t inside tracked copies locations view are up same none =
    subst (λ (x : TransactionView). AreEach (x.tracked ++ locations) (places_of copies)) view
    (subst (λ (ls : List Place). AreEach (inside.tracked ++ ls) (places_of copies)) (sym none)
    (subst (λ (rs : List Named). AreEach (inside.tracked ++ []) (places_of rs)) (sym same)
    (subst (λ (ls : List Place). AreEach (ls ++ []) (places_of tracked)) (sym are) (each_itself (places_of tracked) up))))
