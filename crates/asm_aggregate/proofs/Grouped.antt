-- A tree of groups, keyed by references to locations, as a finite map; and one instruction more.
use Rattle.std.proofs.Common.{◌≡◌, append-nil, append_assoc, ℕ, ◌+◌, take, Bool, true, false, cond, ◌||◌, List, [], ◌∷◌}
use Rattle.std.proofs.Common.{◌++◌, map, refl, sym, ap, ◌∙◌, Bor, unwrap_or}
use Rattle.std.specs.Prelude.{Option, None, Some, Result, Ok, Err, OnOk, is_some, slice_get, filter}
use Rattle.std.specs.declared.cmp.Ordering.{Ordering}
use Rattle.std.specs.declared.cmp.Ordering.TheVariants.{Less}
use Rattle.std.specs.Ordering.{eq_by_cmp, is_eq}
use Rattle.std.specs.Cmp.{eq_by_cmp_equiv}
use Rattle.std.specs.List.{AllByRecursion}
use Rattle.std.specs.List.Sorted.{IsStrictlySortedBy}
use Rattle.std.specs.Map.{lookup, keys_of}
use Rattle.std.specs.BTreeMap.{BTreeMap, is_at}
use Rattle.std.specs.BTreeMap as tree
use Rattle.std.specs.FinMap as finite
use Rattle.std.proofs.lemmas.List.{map-append, take_more}
use Rattle.std.proofs.lemmas.Option.{slice_get_within, get_or_from_slice_get}
use Rattle.std.proofs.lemmas.List.Elements.{filter-append}
use Rattle.std.proofs.lemmas.List.Folds.{list_any-append}
use Rattle.asm_element.specs.Place.{Place, location_cmp, location_cmp_total, location_cmp-IsAntisymmetric}
use Rattle.asm_element.specs.Place.{same_location}
use Rattle.asm_element.specs.Tests.{or_false, or_true, neither}
use Rattle.asm_element.proofs.Ordered.{get-from_tree, entries-from_tree}
use Rattle.asm_update.specs.Move.{Move, actions_at, writes}
use Rattle.asm_update.specs.declared.action.Action.{Action}
use Rattle.asm_update.specs.declared.action.Instruction.{Instruction}
use Rattle.asm_aggregate.specs.Bundle.{Bundle, bundle_of, bundle_at, by_place, with_room, AreGroups, HaveRoom}

-- the order of references to locations
abbrev pub ref_cmp : Bor Place → Bor Place → Ordering
ref_cmp p q = location_cmp p.now q.now

-- a reference to this location
abbrev to : Place → Bor Place
to l = record { ref_ptr = (0, 0); now = l }

abbrev pub shown : {X : Type 0} → BTreeMap (Bor Place) X → finite.FinMap location_cmp X
shown t = finite.from_entries (by_place t.entries)

lookup-by_place : {X : Type 0} (es : List (Bor Place × X)) (q : Bor Place) →
    lookup (is_at (location_cmp q.now)) (by_place es) ≡ lookup (is_at (ref_cmp q)) es
lookup-by_place [] q = refl
lookup-by_place (e ∷ es) q = ap (cond (is_eq (location_cmp q.now e.0.now)) (Some e.1)) (lookup-by_place es q)

pub get-shown : {X : Type 0} (t : BTreeMap (Bor Place) X) (q : Bor Place) →
    finite.get (shown t) q.now ≡ tree.get ref_cmp t q
get-shown t q = get-from_tree location_cmp_total (by_place t.entries) q.now ∙ lookup-by_place t.entries q

pub actions_at-append : (xs ys : Move) (at : Place) → actions_at (xs ++ ys) at ≡ actions_at xs at ++ actions_at ys at
actions_at-append xs ys at =
    ap (map (λ (i : Instruction). i.action)) (filter-append (λ (i : Instruction). eq_by_cmp location_cmp i.at at) xs ys)
    ∙ map-append (λ (i : Instruction). i.action) _ _

pub actions_at-one : (M : Move) (x : Instruction) (l : Place) (b : Bool) → eq_by_cmp location_cmp x.at l ≡ b →
    actions_at (M ++ x ∷ []) l ≡ cond b (actions_at M l ++ x.action ∷ []) (actions_at M l)
actions_at-one M x l true e =
    actions_at-append M (x ∷ []) l
    ∙ ap (λ b. actions_at M l ++ map (λ (i : Instruction). i.action) (cond b (x ∷ []) [])) e
actions_at-one M x l false e =
    actions_at-append M (x ∷ []) l
    ∙ ap (λ b. actions_at M l ++ map (λ (i : Instruction). i.action) (cond b (x ∷ []) [])) e ∙ append-nil _

pub writes-one : (M : Move) (x : Instruction) (l : Place) →
    writes (M ++ x ∷ []) l ≡ (writes M l || eq_by_cmp location_cmp x.at l)
writes-one M x l =
    list_any-append (λ (j : Instruction). eq_by_cmp location_cmp j.at l) M (x ∷ [])
    ∙ ap (λ b. writes M l || b) (or_false (eq_by_cmp location_cmp x.at l))

pub unwritten : (move : Move) (at : Place) → writes move at ≡ false → actions_at move at ≡ []
unwritten [] at h = refl
unwritten (x ∷ xs) at h = by_test (eq_by_cmp location_cmp x.at at) (unwritten xs at) h where
  by_test : (b : Bool) → (writes xs at ≡ false → actions_at xs at ≡ []) → (b || writes xs at) ≡ false →
      map (λ (i : Instruction). i.action)
      (cond b (x ∷ filter (λ (i : Instruction). eq_by_cmp location_cmp i.at at) xs)
      (filter (λ (i : Instruction). eq_by_cmp location_cmp i.at at) xs)) ≡ []
  by_test true later h = cc
  by_test false later h = later h

-- what a location has, or nothing, is the bundle of the actions there
pub bundle_or_none : (M : Move) (l : Place) → unwrap_or (bundle_at M l) (bundle_of []) ≡ bundle_of (actions_at M l)
bundle_or_none M l = by_test (writes M l) refl where
  by_test : (b : Bool) → writes M l ≡ b →
      unwrap_or (cond b (Some (bundle_of (actions_at M l))) None) (bundle_of []) ≡ bundle_of (actions_at M l)
  by_test true w = refl
  by_test false w = ap bundle_of (sym (unwritten M l w))

-- one instruction more
pub added : (t : BTreeMap (Bor Place) Bundle) (es : List (Bor Place × Bundle)) (k : Bor Place) (x : Instruction)
    (b new : Bundle) → k.now ≡ x.at →
    ((q : Bor Place) → lookup (is_at (ref_cmp q)) es ≡ cond (is_at (ref_cmp k) q) (Some new) (tree.get ref_cmp t q)) →
    b ≡ unwrap_or (tree.get ref_cmp t k) (bundle_of []) →
    ((G : List Action) → b ≡ bundle_of G → new ≡ bundle_of (G ++ x.action ∷ [])) →
    (M : Move) → AreGroups M (shown t) → AreGroups (M ++ x ∷ []) (finite.from_entries (by_place es))
added t es k x b new at updates was more M groups l =
    get-from_tree location_cmp_total (by_place es) l ∙ lookup-by_place es (to l) ∙ updates (to l)
    ∙ ap (cond (is_at (ref_cmp k) (to l)) (Some new)) (sym (get-shown t (to l)) ∙ groups l)
    ∙ by_test (eq_by_cmp location_cmp x.at l) refl (ap (λ p. eq_by_cmp location_cmp p l) at) where
      here : b ≡ bundle_of (actions_at M k.now)
      here = was ∙ ap (λ o. unwrap_or o (bundle_of [])) (sym (get-shown t k) ∙ groups k.now) ∙ bundle_or_none M k.now

      by_test : (c : Bool) → eq_by_cmp location_cmp x.at l ≡ c →
          eq_by_cmp location_cmp k.now l ≡ eq_by_cmp location_cmp x.at l →
          cond (eq_by_cmp location_cmp k.now l) (Some new) (bundle_at M l) ≡ bundle_at (M ++ x ∷ []) l
      by_test true e f =
          let same : k.now ≡ l = same_location k.now l (f ∙ e) in
          ap (λ d. cond d (Some new) (bundle_at M l)) (f ∙ e)
          ∙ ap Some (more (actions_at M l) (here ∙ ap (λ p. bundle_of (actions_at M p)) same)
          ∙ ap bundle_of (sym (actions_at-one M x l true e)))
          ∙ ap (λ d. cond d (Some (bundle_of (actions_at (M ++ x ∷ []) l))) None)
          (sym (writes-one M x l ∙ ap (λ d. writes M l || d) e ∙ or_true (writes M l)))
      by_test false e f =
          ap (λ d. cond d (Some new) (bundle_at M l)) (f ∙ e)
          ∙ ap (λ G. cond (writes M l) (Some (bundle_of G)) None) (sym (actions_at-one M x l false e))
          ∙ ap (λ d. cond d (Some (bundle_of (actions_at (M ++ x ∷ []) l))) None)
          (sym (writes-one M x l ∙ ap (λ d. writes M l || d) e ∙ or_false (writes M l)))

pub on_ok : {T E P Q : Type 0} (r : Result T E) → (P → Q) → OnOk r P → OnOk r Q
on_ok (Ok x) f p = f p
on_ok (Err e) f p = tt

below_places : {X : Type 0} (k : Place) (es : List (Bor Place × X)) →
    AllByRecursion (λ (q : Bor Place). location_cmp k q.now ≡ Less) (keys_of es) →
    AllByRecursion (λ q. location_cmp k q ≡ Less) (keys_of (by_place es))
below_places k [] h = tt
below_places k (e ∷ es) h = (h.0, below_places k es h.1)

sorted_places : {X : Type 0} (es : List (Bor Place × X)) → IsStrictlySortedBy ref_cmp (keys_of es) →
    IsStrictlySortedBy location_cmp (keys_of (by_place es))
unfolding IsStrictlySortedBy
sorted_places [] h = tt
sorted_places (e ∷ es) h = (below_places e.0.now es h.0, sorted_places es h.1)

-- the walk of a tree gives the entries of its map, in order
pub walk-shown : {X : Type 0} (t : BTreeMap (Bor Place) X) (m : finite.FinMap location_cmp X) →
    IsStrictlySortedBy ref_cmp (keys_of t.entries) → shown t ≡ m → by_place t.entries ≡ finite.entries m
walk-shown t m sorted is =
    sym (entries-from_tree location_cmp_total (by_place t.entries) (sorted_places t.entries sorted))
    ∙ ap finite.entries is

-- what one location has is taken out
pub taken : (t u : BTreeMap (Bor Place) Bundle) (k : Bor Place) →
    ((q : Bor Place) → tree.get ref_cmp u q ≡ cond (is_at (ref_cmp k) q) None (tree.get ref_cmp t q)) →
    shown u ≡ finite.remove (shown t) k.now
taken t u k updates = finite.same_map location_cmp_total location_cmp-IsAntisymmetric _ _ (λ l.
    get-shown u (to l) ∙ updates (to l) ∙ ap (cond (is_at (ref_cmp k) (to l)) None) (sym (get-shown t (to l)))
    ∙ ap (λ b. cond b None (finite.get (shown t) l)) ((eq_by_cmp_equiv location_cmp_total).symm k.now l)
    ∙ sym (finite.get-remove location_cmp_total (shown t) k.now l))

-- no instruction
pub none_grouped : (m : finite.FinMap location_cmp Bundle) → m ≡ finite.empty → AreGroups [] m
none_grouped m h l = ap (λ (n : finite.FinMap location_cmp Bundle). finite.get n l) h ∙ finite.get-empty location_cmp l

-- the first instructions, and one more
pub taken_more : (move : Move) (i : ℕ) (x : Instruction) → slice_get move i ≡ Some x →
    take i move ++ x ∷ [] ≡ take (i + 1) move
taken_more move i x read =
    sym (take_more move i x (slice_get_within move i x read)
    ∙ ap (λ y. take i move ++ y ∷ []) (get_or_from_slice_get move i x x read))

-- one location more is put in
pub put_in : {X : Type 0} (t u : BTreeMap (Bor Place) X) (k : Bor Place) (v : X) →
    ((q : Bor Place) → tree.get ref_cmp u q ≡ cond (is_at (ref_cmp k) q) (Some v) (tree.get ref_cmp t q)) →
    (l : Place) → finite.get (shown u) l ≡ cond (eq_by_cmp location_cmp l k.now) (Some v) (finite.get (shown t) l)
put_in t u k v updates l =
    get-shown u (to l) ∙ updates (to l) ∙ ap (cond (is_at (ref_cmp k) (to l)) (Some v)) (sym (get-shown t (to l)))
    ∙ ap (λ b. cond b (Some v) (finite.get (shown t) l)) ((eq_by_cmp_equiv location_cmp_total).symm k.now l)

module _ (m : finite.FinMap location_cmp Bundle) (k : Place) where
  -- there is room already
  pub room_there : is_some (finite.get m k) ≡ true → (l : Place) → finite.get m l ≡ with_room k l (finite.get m l)
  room_there some l = by_test (eq_by_cmp location_cmp l k) refl where
    same : (o : Option Bundle) → is_some o ≡ true → o ≡ Some (unwrap_or o (bundle_of []))
    same (Some b) h = refl
    same None h = cc

    by_test : (b : Bool) → eq_by_cmp location_cmp l k ≡ b →
        finite.get m l ≡ cond b (Some (unwrap_or (finite.get m l) (bundle_of []))) (finite.get m l)
    by_test true e = same (finite.get m l) (ap (λ q. is_some (finite.get m q)) (same_location l k e) ∙ some)
    by_test false e = refl

  -- or it is made
  pub room_made : (n : finite.FinMap location_cmp Bundle) → is_some (finite.get m k) ≡ false →
      ((l : Place) → finite.get n l ≡ cond (eq_by_cmp location_cmp l k) (Some (bundle_of [])) (finite.get m l)) →
      (l : Place) → finite.get n l ≡ with_room k l (finite.get m l)
  room_made n none made l = made l ∙ by_test (eq_by_cmp location_cmp l k) refl where
    nothing_there : (o : Option Bundle) → is_some o ≡ false → bundle_of [] ≡ unwrap_or o (bundle_of [])
    nothing_there (Some b) h = cc
    nothing_there None h = refl

    by_test : (b : Bool) → eq_by_cmp location_cmp l k ≡ b →
        cond b (Some (bundle_of [])) (finite.get m l)
        ≡ cond b (Some (unwrap_or (finite.get m l) (bundle_of []))) (finite.get m l)
    by_test true e =
        ap Some (nothing_there (finite.get m l) (ap (λ q. is_some (finite.get m q)) (same_location l k e) ∙ none))
    by_test false e = refl

-- no instruction of the second move
pub room_starts : (M : Move) (m : finite.FinMap location_cmp Bundle) → AreGroups M m → HaveRoom M [] m
room_starts M m are l =
    are l ∙ ap (λ N. cond (writes N l) (Some (bundle_of (actions_at M l))) None) (sym (append-nil M))

-- one instruction of it more
pub room_more : (M N : Move) (x : Instruction) (m n : finite.FinMap location_cmp Bundle) → HaveRoom M N m →
    ((l : Place) → finite.get n l ≡ with_room x.at l (finite.get m l)) → HaveRoom M (N ++ x ∷ []) n
room_more M N x m n had more l =
    more l ∙ ap (with_room x.at l) (had l) ∙ by_test (eq_by_cmp location_cmp x.at l) (writes (M ++ N) l) refl refl
    ∙ ap (λ b. cond b (Some (bundle_of (actions_at M l))) None)
    (sym (ap (λ W. writes W l) (sym (append_assoc M N (x ∷ []))) ∙ writes-one (M ++ N) x l)) where
      by_test : (t w : Bool) → eq_by_cmp location_cmp x.at l ≡ t → writes (M ++ N) l ≡ w →
          with_room x.at l (cond (writes (M ++ N) l) (Some (bundle_of (actions_at M l))) None)
          ≡ cond (writes (M ++ N) l || eq_by_cmp location_cmp x.at l) (Some (bundle_of (actions_at M l))) None
      by_test true w e f =
          (λ i. cond (((eq_by_cmp_equiv location_cmp_total).symm l x.at ∙ e) i)
          (Some (unwrap_or (cond (writes (M ++ N) l) (Some (bundle_of (actions_at M l))) None) (bundle_of [])))
          (cond (writes (M ++ N) l) (Some (bundle_of (actions_at M l))) None))
          ∙ ap Some (there w f)
          ∙ ap (λ b. cond b (Some (bundle_of (actions_at M l))) None)
          (sym (ap (λ d. writes (M ++ N) l || d) e ∙ or_true (writes (M ++ N) l))) where
            there : (w : Bool) → writes (M ++ N) l ≡ w →
                unwrap_or (cond (writes (M ++ N) l) (Some (bundle_of (actions_at M l))) None) (bundle_of [])
                ≡ bundle_of (actions_at M l)
            there true f = ap (λ b. unwrap_or (cond b (Some (bundle_of (actions_at M l))) None) (bundle_of [])) f
            there false f =
                ap (λ b. unwrap_or (cond b (Some (bundle_of (actions_at M l))) None) (bundle_of [])) f
                ∙ ap bundle_of
                (sym (unwritten M l
                (neither (writes M l) (writes N l)
                (sym (list_any-append (λ (i : Instruction). eq_by_cmp location_cmp i.at l) M N) ∙ f)).0))
      by_test false w e f =
          (λ i. cond (((eq_by_cmp_equiv location_cmp_total).symm l x.at ∙ e) i)
          (Some (unwrap_or (cond (writes (M ++ N) l) (Some (bundle_of (actions_at M l))) None) (bundle_of [])))
          (cond (writes (M ++ N) l) (Some (bundle_of (actions_at M l))) None))
          ∙ ap (λ b. cond b (Some (bundle_of (actions_at M l))) None)
          (sym (ap (λ d. writes (M ++ N) l || d) e ∙ or_false (writes (M ++ N) l)))
