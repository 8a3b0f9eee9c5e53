-- What was read: the values at the locations, and their names.
use Rattle.std.proofs.Common.{◌≡◌, ℕ, zero, suc, ◌+◌, ◌≤◌, Bool, true, false, cond, List, [], ◌∷◌, ◌++◌, length, map}
use Rattle.std.proofs.Common.{take, drop, Some, slice_get, Contains, refl, sym, ap, ◌∙◌, arith}
use Rattle.std.specs.Ordering.{eq_by_cmp}
use Rattle.std.proofs.lemmas.List.{drop_all, drop_more, map-append, take_more}
use Rattle.std.proofs.lemmas.Option.{get_or_from_slice_get, slice_get_within}
use Rattle.asm_element.specs.Place.{Place, location_cmp, location_cmp_total, same_location}
use Rattle.asm_element.specs.Tests.{itself}
use Rattle.asm_element.specs.Value.{undef}
use Rattle.asm_element.specs.declared.value.Value.{Value}
use Rattle.asm_state.specs.declared.named.Named.{Named}
use Rattle.asm_storage.specs.Calls.{ReadingView}
use Rattle.asm_play.specs.StepEvents.{name_at}
use Rattle.asm_play.specs.Trying.{value_among}

-- what stands at a place is the first of what is left there, and comes behind what was before it
pub left_at : {X : Type 0} (xs : List X) (i : ℕ) (x : X) → slice_get xs i ≡ Some x → drop i xs ≡ x ∷ drop (i + 1) xs
left_at xs i x is = drop_more xs i x (slice_get_within xs i x is)
    ∙ ap (λ y. y ∷ drop (i + 1) xs) (get_or_from_slice_get xs i x x is)

take_more_at : {X : Type 0} (xs : List X) (i : ℕ) (x : X) → slice_get xs i ≡ Some x →
    take (i + 1) xs ≡ take i xs ++ x ∷ []
take_more_at xs i x is = take_more xs i x (slice_get_within xs i x is)
    ∙ ap (λ y. take i xs ++ y ∷ []) (get_or_from_slice_get xs i x x is)

-- the values from place i on tell the value at l, as all of them do
abbrev pub TellsFrom : ReadingView → Place → ℕ → Type 0
TellsFrom r l i = value_among r.places r.values l ≡ value_among (drop i r.places) (drop i r.values) l

module _ (r : ReadingView) (l : Place) (i : ℕ) (reported : TellsFrom r l i) (p : Place) (v : Value)
    (at : slice_get r.places i ≡ Some p)
    (value : slice_get r.values i ≡ Some v) where
  first_reports : value_among r.places r.values l ≡ cond (eq_by_cmp location_cmp p l) v
      (value_among (drop (i + 1) r.places) (drop (i + 1) r.values) l)
  first_reports = reported ∙ (λ n. value_among (left_at r.places i p at n) (left_at r.values i v value n) l)

  -- the location stands here
  pub reports_here : eq_by_cmp location_cmp p l ≡ true → value_among r.places r.values l ≡ v
  reports_here same = first_reports
      ∙ ap (λ b. cond b v (value_among (drop (i + 1) r.places) (drop (i + 1) r.values) l)) same

  -- another location stands here
  pub reports_later : eq_by_cmp location_cmp p l ≡ false → TellsFrom r l (i + 1)
  reports_later other = first_reports
      ∙ ap (λ b. cond b v (value_among (drop (i + 1) r.places) (drop (i + 1) r.values) l)) other

-- nothing is left
pub reports_none : (r : ReadingView) (l : Place) (i : ℕ) → TellsFrom r l i → length r.places ≤ i →
    value_among r.places r.values l ≡ undef
reports_none r l i reported le = reported ∙ ap (λ ps. value_among ps (drop i r.values) l) (drop_all i r.places le)

-- the value read is the value
pub value_mapped : (f : Place → Value) (ps : List Place) (l : Place) → Contains ps l → value_among ps (map f ps) l ≡ f l
value_mapped f [] l there = absurd (omega (arith, there.1))
value_mapped f (p ∷ ps) l there = by_test (eq_by_cmp location_cmp p l) refl there (value_mapped f ps l) where
  tied : eq_by_cmp location_cmp p l ≡ true → value_among (p ∷ ps) (map f (p ∷ ps)) l ≡ f l
  tied same = ap (λ b. cond b (f p) (value_among ps (map f ps) l)) same ∙ ap f (same_location p l same)

  by_test : (b : Bool) → eq_by_cmp location_cmp p l ≡ b → Contains (p ∷ ps) l →
      (Contains ps l → value_among ps (map f ps) l ≡ f l) → value_among (p ∷ ps) (map f (p ∷ ps)) l ≡ f l
  by_test true same there later = tied same
  by_test false other (zero, lt, is) later = tied
      (ap (λ k. eq_by_cmp location_cmp k l) is ∙ itself location_cmp_total l)
  by_test false other (suc k, lt, is) later =
      ap (λ b. cond b (f p) (value_among ps (map f ps) l)) other ∙ later (k, omega (arith, lt), is)

-- one name more
pub named_more : (r : ReadingView) (i : ℕ) (old new : List Named) (n : Named) →
    old ≡ map (name_at r.number) (take i r.places) →
    slice_get r.places i ≡ Some n.at → n.number ≡ r.number → new ≡ old ++ n ∷ [] →
    new ≡ map (name_at r.number) (take (i + 1) r.places)
named_more r i old new n was at number is =
    let name : n ≡ name_at r.number n.at = (λ j. record { at = n.at; number = number j }) in
    is ∙ (λ j. was j ++ name j ∷ []) ∙ sym (map-append (name_at r.number) (take i r.places) (n.at ∷ []))
    ∙ ap (map (name_at r.number)) (sym (take_more_at r.places i n.at at))
