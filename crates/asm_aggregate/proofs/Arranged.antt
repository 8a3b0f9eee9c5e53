-- References to instructions that are sorted by location, as the move that they refer to.
use Rattle.std.proofs.Common.{◌≡◌, ℕ, suc, ◌+◌, ◌<◌, ◌≤◌, Bool, true, false, not, ◌&&◌, cond, List, [], ◌∷◌, ◌++◌, length, get_or, map}
use Rattle.std.proofs.Common.{arith, refl, sym, ap, ◌∙◌, subst, Bor, take, drop, Some, slice_get}
use Rattle.std.specs.Prelude.{filter}
use Rattle.std.specs.List.{AllByRecursion}
use Rattle.std.specs.List.Sorted.{IsSortedBy, IsStableBy, ties}
use Rattle.std.specs.declared.cmp.Ordering.{Ordering}
use Rattle.std.specs.declared.cmp.Ordering.TheVariants.{Less, Equal, Greater}
use Rattle.std.specs.Ordering.{eq_by_cmp, is_eq, is_lt, ordering_reverse}
use Rattle.std.specs.Cmp.{IsStrictWeakOrder}
use Rattle.std.proofs.lemmas.List.{map-append, take_all, take_more, take-append-drop, drop-drop, drop_all, drop_more}
use Rattle.std.proofs.lemmas.List.Sorted.{ranks_by, sorted_far}
use Rattle.std.proofs.lemmas.Option.{slice_get_within, get_or_from_slice_get}
use Rattle.asm_element.specs.Place.{Place, location_cmp, location_cmp_total}
use Rattle.asm_element.specs.Tests.{itself}
use Rattle.asm_element.specs.Value.{undef}
use Rattle.asm_update.specs.Move.{Move, actions_at}
use Rattle.asm_update.specs.declared.action.Action.TheVariants.{Regular}
use Rattle.asm_update.specs.declared.action.Instruction.{Instruction}
use Rattle.asm_aggregate.specs.Stretch.{referred, starts_at, IsAscending, IsArranged, IsParted, left_in}

-- whether the location of the one is below that of the other
abbrev pub is_below : Bor Instruction → Bor Instruction → Bool
is_below r s = is_lt (location_cmp r.now.at s.now.at)

pub below_ranks : IsStrictWeakOrder is_below
below_ranks = ranks_by location_cmp_total (λ (r : Bor Instruction). r.now.at)

none_under : (x : Bor Instruction) (rs : List (Bor Instruction)) →
    ((k : ℕ) → k < length rs → is_below (get_or rs k x) x ≡ false) →
    AllByRecursion (λ (y : Instruction). is_lt (location_cmp y.at x.now.at) ≡ false) (referred rs)
none_under x [] h = tt
none_under x (r ∷ rs) h = (h 0 (omega arith), none_under x rs (λ k lt. h (suc k) (omega arith)))

ascends : (rs : List (Bor Instruction)) → IsSortedBy is_below rs → IsAscending (referred rs)
ascends [] up = tt
ascends (x ∷ rs) up = (
  none_under x rs (λ k lt. sorted_far is_below below_ranks (x ∷ rs) up 0 (suc k) x (omega arith) (omega arith)),
  ascends rs (λ k d low high.
      let on : suc k + 1 ≡ suc (k + 1) = omega arith in
      subst (λ (n : ℕ). is_below (get_or (x ∷ rs) n d) (get_or rs k d) ≡ false) on
      (up (suc k) d (omega arith) (omega arith))),
)

-- an instruction at the location
abbrev at_place : Place → Bor Instruction
at_place l = record { ref_ptr = (0, 0); now = record { at = l; action = Regular undef } }

tied : (l k : Place) → ties is_below (at_place l) (at_place k) ≡ eq_by_cmp location_cmp k l
tied l k = ap (λ o. not (is_lt o) && not (is_lt (location_cmp k l))) (location_cmp_total.antisymm l k) ∙ by_order (location_cmp k l) where
  by_order : (o : Ordering) → (not (is_lt (ordering_reverse o)) && not (is_lt o)) ≡ is_eq o
  by_order Less = refl
  by_order Equal = refl
  by_order Greater = refl

actions_tied : (l : Place) (rs : List (Bor Instruction)) →
    actions_at (referred rs) l ≡ map (λ (r : Bor Instruction). r.now.action) (filter (ties is_below (at_place l)) rs)
actions_tied l [] = refl
actions_tied l (r ∷ rs) =
    by_test (eq_by_cmp location_cmp r.now.at l) (ties is_below (at_place l) r) (sym (tied l r.now.at)) (actions_tied l rs) where
      by_test : (b c : Bool) → b ≡ c →
          actions_at (referred rs) l
          ≡ map (λ (s : Bor Instruction). s.now.action) (filter (ties is_below (at_place l)) rs) →
          map (λ (i : Instruction). i.action)
          (cond b (r.now ∷ filter (λ (i : Instruction). eq_by_cmp location_cmp i.at l) (referred rs))
          (filter (λ (i : Instruction). eq_by_cmp location_cmp i.at l) (referred rs)))
          ≡ map (λ (s : Bor Instruction). s.now.action)
          (cond c (r ∷ filter (ties is_below (at_place l)) rs) (filter (ties is_below (at_place l)) rs))
      by_test true true e later = ap (λ xs. r.now.action ∷ xs) later
      by_test false false e later = later
      by_test true false e later = cc
      by_test false true e later = cc

-- a stable sort arranges a move
pub arranged : (M : Move) (xs ys : List (Bor Instruction)) → referred xs ≡ M → IsSortedBy is_below ys →
    IsStableBy is_below xs ys → IsArranged M (referred ys)
arranged M xs ys is up stable = record {
  same = λ l. actions_tied l ys ∙ ap (map (λ (r : Bor Instruction). r.now.action)) (stable (at_place l))
      ∙ sym (actions_tied l xs) ∙ ap (λ (N : Move). actions_at N l) is;
  ascending = ascends ys up;
}

-- one instruction more is referred to
pub listed_more : (M : Move) (i : ℕ) (x : Instruction) (old new : List (Bor Instruction)) (r : Bor Instruction) →
    i < length M → x ≡ get_or M i x → referred old ≡ take i M → new ≡ old ++ r ∷ [] → r.now ≡ x →
    referred new ≡ take (i + 1) M
listed_more M i x old new r lt is so_far pushed told =
    ap referred pushed ∙ map-append (λ (s : Bor Instruction). s.now) old (r ∷ [])
    ∙ ap (λ ys. ys ++ r.now ∷ []) so_far ∙ ap (λ y. take i M ++ y ∷ []) (told ∙ is) ∙ sym (take_more M i x lt)

all_more : {X : Type 0} (P : X → Type 0) (xs : List X) (x : X) → AllByRecursion P xs → P x →
    AllByRecursion P (xs ++ x ∷ [])
all_more P [] x h p = (p, tt)
all_more P (y ∷ ys) x h p = (h.0, all_more P ys x h.1 p)

module _ (rs : List (Bor Instruction)) (i : ℕ) (r : Bor Instruction) (lt : i < length rs) (is : r ≡ get_or rs i r) where
  more : referred (take (i + 1) rs) ≡ referred (take i rs) ++ r.now ∷ []
  more =
      ap referred (take_more rs i r lt) ∙ map-append (λ (s : Bor Instruction). s.now) (take i rs) (get_or rs i r ∷ [])
      ∙ ap (λ (s : Bor Instruction). referred (take i rs) ++ s.now ∷ []) (sym is)

  -- one more is at the location
  pub here_more : (l : Place) →
      AllByRecursion (λ (x : Instruction). eq_by_cmp location_cmp x.at l ≡ true) (referred (take i rs)) →
      eq_by_cmp location_cmp r.now.at l ≡ true →
      AllByRecursion (λ (x : Instruction). eq_by_cmp location_cmp x.at l ≡ true) (referred (take (i + 1) rs))
  here_more l so_far one =
      subst (AllByRecursion (λ (x : Instruction). eq_by_cmp location_cmp x.at l ≡ true)) (sym more)
      (all_more _ (referred (take i rs)) r.now so_far one)

  -- or none that is left is
  pub ends_here : (l : Place) → eq_by_cmp location_cmp r.now.at l ≡ false →
      starts_at l (referred (drop i rs)) ≡ false
  ends_here l other =
      ap (λ ss. starts_at l (referred ss)) (drop_more rs i r lt)
      ∙ ap (λ (s : Bor Instruction). eq_by_cmp location_cmp s.now.at l) (sym is) ∙ other

  -- what the instructions do, and the next one
  pub actions_more : map (λ (x : Instruction). x.action) (referred (take (i + 1) rs))
      ≡ map (λ (x : Instruction). x.action) (referred (take i rs)) ++ r.now.action ∷ []
  actions_more = ap (map (λ (x : Instruction). x.action)) more ∙ map-append (λ (x : Instruction). x.action) _ _

-- a list starts with the location of its first instruction
starts_first : (rs : List (Bor Instruction)) (r : Bor Instruction) → slice_get rs 0 ≡ Some r →
    starts_at r.now.at (referred rs) ≡ true
starts_first rs r read = by_items rs (slice_get_within rs 0 r read) (get_or_from_slice_get rs 0 r r read) where
  by_items : (rs : List (Bor Instruction)) → 0 < length rs → get_or rs 0 r ≡ r →
      starts_at r.now.at (referred rs) ≡ true
  by_items [] lt is = absurd (omega (arith, lt))
  by_items (x ∷ rs) lt is =
      ap (λ (s : Bor Instruction). eq_by_cmp location_cmp x.now.at s.now.at) (sym is) ∙ itself location_cmp_total x.now.at

-- all of them are at the location
pub all_here : (l : Place) (rs : List (Bor Instruction)) (i : ℕ) → length rs ≤ i →
    AllByRecursion (λ (x : Instruction). eq_by_cmp location_cmp x.at l ≡ true) (referred (take i rs)) →
    (n : ℕ) → n ≡ length rs →
    AllByRecursion (λ (x : Instruction). eq_by_cmp location_cmp x.at l ≡ true) (referred (take n rs))
all_here l rs i past here n is =
    subst (λ ss. AllByRecursion (λ (x : Instruction). eq_by_cmp location_cmp x.at l ≡ true) (referred ss))
    (take_all i rs past ∙ sym (take_all n rs (omega (arith, is)))) here

-- and none is left
pub none_left : (l : Place) (rs : List (Bor Instruction)) (n : ℕ) → n ≡ length rs →
    starts_at l (referred (drop n rs)) ≡ false
none_left l rs n is = ap (λ ss. starts_at l (referred ss)) (drop_all n rs (omega (arith, is)))

-- the first instructions, as many as are at the location of the first, and the later ones
pub parted : (rs stretch later : List (Bor Instruction)) (r : Bor Instruction) (n : ℕ) → slice_get rs 0 ≡ Some r →
    stretch ≡ take n rs → later ≡ drop n rs →
    AllByRecursion (λ (x : Instruction). eq_by_cmp location_cmp x.at r.now.at ≡ true) (referred (take n rs)) →
    starts_at r.now.at (referred (drop n rs)) ≡ false → IsParted (referred rs) (referred stretch) (referred later) r.now.at
parted rs stretch later r n read front back here ends = record {
  starts = starts_first rs r read;
  whole = ap referred (sym (take-append-drop n rs))
      ∙ map-append (λ (s : Bor Instruction). s.now) (take n rs) (drop n rs)
      ∙ (λ i. referred (sym front i) ++ referred (sym back i));
  here = subst (λ ss. AllByRecursion (λ (x : Instruction). eq_by_cmp location_cmp x.at r.now.at ≡ true) (referred ss))
      (sym front) here;
  ends = ap (λ ss. starts_at r.now.at (referred ss)) back ∙ ends;
}

-- the same of what is left of a walk
pub parted_at : (rs left stretch : List (Bor Instruction)) (r : Bor Instruction) (done n : ℕ) → left ≡ drop done rs →
    slice_get left 0 ≡ Some r → stretch ≡ take n left →
    AllByRecursion (λ (x : Instruction). eq_by_cmp location_cmp x.at r.now.at ≡ true) (referred (take n left)) →
    starts_at r.now.at (referred (drop n left)) ≡ false →
    IsParted (left_in rs done) (referred stretch) (left_in rs (done + n)) r.now.at
parted_at rs left stretch r done n is read front here ends =
    subst (λ (xs : Move). IsParted xs (referred stretch) (left_in rs (done + n)) r.now.at) (ap referred is)
    (subst (λ (ys : Move). IsParted (referred left) (referred stretch) ys r.now.at)
    (ap referred (ap (drop n) is ∙ drop-drop n done rs))
    (parted left stretch (drop n left) r n read front refl here ends))
