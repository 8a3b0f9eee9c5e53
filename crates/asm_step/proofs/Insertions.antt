-- Maps of outcomes that are read and written, and what a scan of them shows.
use Rattle.std.proofs.Common.{◌≡◌, ℕ, Bool, true, false, cond, T, List, ◌∷◌, Option, Some, None, refl, sym, ap, ◌∙◌, subst, Result, Ok, Err, [], length, arith, ◌++◌, Bor, ◌&&◌, map, unwrap_or, nat_eq}
use Rattle.std.specs.Ordering.{eq_by_cmp, is_lt}
use Rattle.std.specs.Option.{option_map, option_or, option_map_or}
use Rattle.asm_element.specs.Place.{Place, location_cmp, location_cmp_total, same_location, location_cmp-IsAntisymmetric}
use Rattle.asm_element.specs.Ascending.{first_gone, both_T, rising_rest}
use Rattle.std.specs.Prelude.{IfOk, OnErr, slice_get, Result, Ok, Err, OnOk}
use Rattle.std.proofs.lemmas.Option.{same_Some}
use Rattle.std.specs.declared.alloc.AllocError.{AllocError}
use Rattle.std.specs.BTreeMap.{BTreeMap, get_by, is_at}
use Rattle.asm_element.proofs.Ordered.{entries-from_tree, get-from_tree, insert-from_tree, remove-from_tree}
use Rattle.asm_update.specs.Aggregator.{Meaning}
use Rattle.asm_update.specs.Move.{Move}
use Rattle.asm_update.specs.declared.action.Action.{Action}
use Rattle.asm_update.specs.declared.action.Instruction.{Instruction}
use Rattle.asm_step.specs.Front.{IsExtendedInPlace, IsExtendedInPlaceAt}
use Rattle.asm_step.specs.Outcomes.{Outcome, Outcomes, acts, acts_at, AreReplaced, frame}
use Rattle.asm_step.specs.declared.front.Growth.{Growth}
use Rattle.asm_element.specs.Tests.{itself}
use Rattle.asm_aggregate.proofs.Grouped.{ref_cmp, shown, put_in as put_at}
use Rattle.std.specs.List.Sorted.{IsStrictlySortedBy}
use Rattle.std.specs.Map.{keys_of}
use Rattle.std.proofs.lemmas.Bool.{false≢true}
use Rattle.std.specs.Cmp.Lexicographic.{pointwise}
use Rattle.std.specs.FinMap.Entries.{below_all}
use Rattle.asm_element.specs.Value.{undef}
use Rattle.asm_element.specs.declared.value.Value.{Value}
use Rattle.asm_update.specs.State.{State, val, write}
use Rattle.asm_update.proofs.FireLemmas.{get-write, stored, stored_reads}
use Rattle.asm_overlay.specs.Frames.{topmost, seen_through}
use Rattle.asm_step.specs.Layers.{frames_of, layers_on, outcomes_of, scanned}
use Rattle.asm_step.specs.declared.layer.OwnLayer.{OwnLayer}
use Rattle.asm_step.proofs.Stacked.{find-mapped, get-frame}
use Rattle.asm_step.proofs.Nexts.{topmost_is}
use Rattle.asm_step.proofs.Prefixes.{held-push}
use Rattle.std.specs.FinMap as finite
use Rattle.std.specs.BTreeMap as tree

module _ {X Y : Type 0} (f : Place → X → Y) where
  -- the first of the list came in, and the rest is left
  over_step : (k : Place) (v : X) (rest : List (Place × X)) (q : Place) (x : Option Y) → T (finite.is_sorted location_cmp ((k, v) ∷ rest)) →
      option_or (option_map (f q) (finite.find location_cmp q rest)) (cond (eq_by_cmp location_cmp q k) (Some (f k v)) x)
      ≡ option_or (option_map (f q) (finite.find location_cmp q ((k, v) ∷ rest))) x
  over_step k v rest q x sorted = by_test (eq_by_cmp location_cmp q k) refl where
    by_test : (b : Bool) → eq_by_cmp location_cmp q k ≡ b →
        option_or (option_map (f q) (finite.find location_cmp q rest)) (cond b (Some (f k v)) x)
        ≡ option_or (option_map (f q) (cond b (Some v) (finite.find location_cmp q rest))) x
    by_test true e =
        let at = same_location q k e in
        ap (λ o. option_or (option_map (f q) o) (Some (f k v)))
        (ap (λ p. finite.find location_cmp p rest) at ∙ first_gone location_cmp k v rest sorted)
        ∙ ap (λ p. Some (f p v)) (sym at)
    by_test false e = refl

  -- the same of an insertion
  pub insert_step : (k : Place) (v : X) (rest : List (Place × X)) (old new : finite.FinMap location_cmp Y) (l : Place) (w : Y) →
      new ≡ finite.insert old l w → l ≡ k → w ≡ f k v → T (finite.is_sorted location_cmp ((k, v) ∷ rest)) → (q : Place) →
      option_or (option_map (f q) (finite.find location_cmp q rest)) (finite.get new q)
      ≡ option_or (option_map (f q) (finite.find location_cmp q ((k, v) ∷ rest))) (finite.get old q)
  insert_step k v rest old new l w inserted at value sorted q =
      let got : finite.get new q ≡ cond (eq_by_cmp location_cmp q k) (Some (f k v)) (finite.get old q) =
      ap (λ (m : finite.FinMap location_cmp Y). finite.get m q) inserted ∙ finite.get-insert location_cmp_total old l w q
      ∙ (λ i. cond (eq_by_cmp location_cmp q (at i)) (Some (value i)) (finite.get old q)) in
      ap (option_or (option_map (f q) (finite.find location_cmp q rest))) got ∙ over_step k v rest q (finite.get old q) sorted

  -- before the first came in
  pub over_start : (m : finite.FinMap location_cmp X) (left : List (Place × X)) (new : finite.FinMap location_cmp Y) →
      left ≡ finite.entries m → (q : Place) →
      option_or (option_map (f q) (finite.find location_cmp q left)) (finite.get new q)
      ≡ option_or (option_map (f q) (finite.get m q)) (finite.get new q)
  over_start m left new all q =
      ap (λ (es : List (Place × X)). option_or (option_map (f q) (finite.find location_cmp q es)) (finite.get new q)) all
      ∙ ap (λ (o : Option X). option_or (option_map (f q) o) (finite.get new q)) (sym (finite.get-entries m q))

pub rising_start : {X : Type 0} (m : finite.FinMap location_cmp X) (left : List (Place × X)) → left ≡ finite.entries m → T (finite.is_sorted location_cmp left)
rising_start m left all = subst (λ es. T (finite.is_sorted location_cmp es)) (sym all) (finite.entries_sorted m)

-- each as it is
pub or_itself : {X : Type 0} (x y : Option X) → option_or (option_map (λ v. v) x) y ≡ option_or x y
or_itself (Some v) y = refl
or_itself None y = refl

-- what the tree of the outcomes has at a location is what they have
pub held_there : (t : BTreeMap Place Outcome) (m : Outcomes) (l : Place) (o : Option Outcome) →
    finite.from_entries {R = location_cmp} t.entries ≡ m → o ≡ get_by (location_cmp l) t → finite.get m l ≡ o
held_there t m l o is there =
    ap (λ (m : Outcomes). finite.get m l) (sym is) ∙ get-from_tree location_cmp_total t.entries l ∙ sym there

-- the outcome at a location is another one
pub changed_there : (t u : BTreeMap Place Outcome) (m : Outcomes) (l : Place) (o w : Outcome) (f : Outcome → Outcome) →
    finite.from_entries {R = location_cmp} t.entries ≡ m → Some o ≡ get_by (location_cmp l) t →
    ((q : Place) → tree.get location_cmp u q ≡ cond (is_at (location_cmp l) q) (Some w) (tree.get location_cmp t q)) →
    w ≡ f o →
    finite.from_entries {R = location_cmp} u.entries ≡ option_map_or (λ (x : Outcome). finite.insert m l (f x)) (finite.get m l) m
changed_there t u m l o w f is there wrote new =
    insert-from_tree location_cmp_total location_cmp-IsAntisymmetric t u l w wrote
    ∙ (λ i. finite.insert (is i) l (new i))
    ∙ ap (λ (x : Option Outcome). option_map_or (λ (x : Outcome). finite.insert m l (f x)) x m)
    (sym (held_there t m l (Some o) is there))

-- there is none
pub not_there : (t u : BTreeMap Place Outcome) (m : Outcomes) (l : Place) (f : Outcome → Outcome) →
    finite.from_entries {R = location_cmp} t.entries ≡ m → None ≡ get_by (location_cmp l) t → u ≡ t →
    finite.from_entries {R = location_cmp} u.entries ≡ option_map_or (λ (x : Outcome). finite.insert m l (f x)) (finite.get m l) m
not_there t u m l f is there same =
    ap (λ (s : BTreeMap Place Outcome). finite.from_entries {R = location_cmp} s.entries) same ∙ is
    ∙ ap (λ (x : Option Outcome). option_map_or (λ (x : Outcome). finite.insert m l (f x)) x m)
    (sym (held_there t m l None is there))

-- an outcome that is written where it is already
same_insert : (m : Outcomes) (l : Place) (o : Outcome) → finite.get m l ≡ Some o → finite.insert m l o ≡ m
same_insert m l o had = finite.same_map location_cmp_total location_cmp-IsAntisymmetric (finite.insert m l o) m (λ q.
    finite.get-insert location_cmp_total m l o q ∙ by_test q (eq_by_cmp location_cmp q l) refl) where
      by_test : (q : Place) (b : Bool) → eq_by_cmp location_cmp q l ≡ b → cond b (Some o) (finite.get m q) ≡ finite.get m q
      by_test q true e = sym had ∙ ap (finite.get m) (sym (same_location q l e))
      by_test q false e = refl

-- an outcome that goes on in its place
pub gone_on_there : (a : Meaning) (r : Result (Option Growth) AllocError) (m n : Outcomes) (l : Place) (x : Action) (o w : Outcome) →
    finite.get m l ≡ Some o → n ≡ finite.insert m l w → IfOk r (IsExtendedInPlace a x o w) → OnErr r (w ≡ o) →
    IfOk r (IsExtendedInPlaceAt a l x m n) × OnErr r (n ≡ m)
gone_on_there a (Ok (Some grown)) m n l x o w had is gone same =
    (record { before = o; after = w; there = had; written = is; extends = gone }, tt)
gone_on_there a (Ok None) m n l x o w had is gone same = (is ∙ ap (finite.insert m l) gone ∙ same_insert m l o had, tt)
gone_on_there a (Err e) m n l x o w had is gone same = (tt, is ∙ ap (finite.insert m l) same ∙ same_insert m l o had)

-- the one instruction of a move
pub single_move : (M : Move) (i : Instruction) → length M ≡ 1 → slice_get M 0 ≡ Some i → M ≡ i ∷ []
single_move [] i one there = absurd (omega (arith, one))
single_move (k ∷ []) i one there = ap (λ j. j ∷ []) (same_Some k i there)
single_move (k ∷ j ∷ M) i one there = absurd (omega (arith, one))

-- one more write, at the end
pub replaced_more : (us : List (Place × Option Outcome)) (old now : Outcomes) (l : Place) (found : Option Outcome) (w : Outcome) →
    AreReplaced us old now → found ≡ finite.get now l → AreReplaced (us ++ (l, found) ∷ []) old (finite.insert now l w)
replaced_more [] old now l found w h is = (is ∙ ap (λ (m : Outcomes). finite.get m l) (sym h), w, ap (λ (m : Outcomes). finite.insert m l w) h)
replaced_more ((k, f) ∷ us) old now l found w (first, v, rest) is = (first, v, replaced_more us (finite.insert old k v) now l found w rest is)

-- the last write, and those before it
pub record LastReplaced (us : List (Place × Option Outcome)) (l : Place) (found : Option Outcome) (old new : Outcomes) : Type 0 where
  pub now : Outcomes
  pub write : Outcome
  pub held : found ≡ finite.get now l
  pub wrote : new ≡ finite.insert now l write
  pub before : AreReplaced us old now

pub replaced_last : (us : List (Place × Option Outcome)) (l : Place) (found : Option Outcome) (old new : Outcomes) →
    AreReplaced (us ++ (l, found) ∷ []) old new → LastReplaced us l found old new
replaced_last [] l found old new (is, w, e) = record { now = old; write = w; held = is; wrote = sym e; before = refl }
replaced_last ((k, f) ∷ us) l found old new (is, w, rest) =
    let last = replaced_last us l found (finite.insert old k w) new rest in
    record { now = last.now; write = last.write; held = last.held; wrote = last.wrote; before = (is, w, last.before) }

-- no write is left
pub all_back : (us : List (Place × Option Outcome)) (old now : Outcomes) → us ≡ [] → AreReplaced us old now → now ≡ old
all_back us old now none h = sym (subst (λ (vs : List (Place × Option Outcome)). AreReplaced vs old now) none h)

-- what was there is there again
pub put_again : (old : Outcomes) (l : Place) (v w : Outcome) → Some v ≡ finite.get old l → finite.insert (finite.insert old l w) l v ≡ old
put_again old l v w held = finite.same_map location_cmp_total location_cmp-IsAntisymmetric _ _ (λ q.
    finite.get-insert location_cmp_total (finite.insert old l w) l v q
    ∙ ap (cond (eq_by_cmp location_cmp q l) (Some v)) (finite.get-insert location_cmp_total old l w q)
    ∙ at q (eq_by_cmp location_cmp q l) refl) where
      at : (q : Place) (b : Bool) → eq_by_cmp location_cmp q l ≡ b → cond b (Some v) (cond b (Some w) (finite.get old q)) ≡ finite.get old q
      at q true is = held ∙ ap (finite.get old) (sym (same_location q l is))
      at q false is = refl

-- so an exchange that takes a write back
pub exchanged : (r : Result Outcome Outcome) (old now new : Outcomes) (l : Place) (v w : Outcome) →
    OnOk r (new ≡ finite.insert now l v) → OnErr r (finite.get now l ≡ None) → Some v ≡ finite.get old l → now ≡ finite.insert old l w → new ≡ old
exchanged (Ok back) old now new l v w wrote absent held is =
    wrote ∙ ap (λ (m : Outcomes). finite.insert m l v) is ∙ put_again old l v w held
exchanged (Err back) old now new l v w wrote absent held is = absurd (
    let no : None ≡ Some w =
    sym absent ∙ ap (λ (m : Outcomes). finite.get m l) is ∙ finite.get-insert location_cmp_total old l w l
    ∙ ap (λ b. cond b (Some w) (finite.get old l)) (itself location_cmp_total l) in cc)

-- and what was not is not
pub none_again : (old : Outcomes) (l : Place) (w : Outcome) → None ≡ finite.get old l → finite.remove (finite.insert old l w) l ≡ old
none_again old l w held = finite.same_map location_cmp_total location_cmp-IsAntisymmetric _ _ (λ q.
    finite.get-remove location_cmp_total (finite.insert old l w) l q
    ∙ ap (cond (eq_by_cmp location_cmp q l) None) (finite.get-insert location_cmp_total old l w q)
    ∙ at q (eq_by_cmp location_cmp q l) refl) where
      at : (q : Place) (b : Bool) → eq_by_cmp location_cmp q l ≡ b → cond b None (cond b (Some w) (finite.get old q)) ≡ finite.get old q
      at q true is = held ∙ ap (finite.get old) (sym (same_location q l is))
      at q false is = refl

-- one location has another outcome
pub put_in : (t u : BTreeMap (Bor Place) Outcome) (k : Bor Place) (o : Outcome) →
    ((q : Bor Place) → tree.get ref_cmp u q ≡ cond (is_at (ref_cmp k) q) (Some o) (tree.get ref_cmp t q)) →
    shown u ≡ finite.insert (shown t) k.now o
put_in t u k o updates = finite.same_map location_cmp_total location_cmp-IsAntisymmetric _ _ (λ l.
    put_at t u k o updates l ∙ sym (finite.get-insert location_cmp_total (shown t) k.now o l))

pub if_ok_weaker : {T E : Type 0} {P Q : T → Type 0} (r : Result T E) → ((x : T) → P x → Q x) → IfOk r P → IfOk r Q
if_ok_weaker (Ok x) f p = f x p
if_ok_weaker (Err e) f p = tt

-- the tree of outcomes, as the map that it stands for
module _ (t : BTreeMap Place Outcome) (os : Outcomes) (seen : finite.from_entries t.entries ≡ os) where
  pub inserted_in : (n : BTreeMap Place Outcome) (l : Place) (o : Outcome) →
      ((q : Place) → tree.get location_cmp n q ≡ cond (is_at (location_cmp l) q) (Some o) (tree.get location_cmp t q)) →
      finite.from_entries n.entries ≡ finite.insert os l o
  inserted_in n l o updates =
      insert-from_tree location_cmp_total location_cmp-IsAntisymmetric t n l o updates
      ∙ ap (λ (m : Outcomes). finite.insert m l o) seen

  pub removed_in : (n : BTreeMap Place Outcome) (l : Place) →
      ((q : Place) → tree.get location_cmp n q ≡ cond (is_at (location_cmp l) q) None (tree.get location_cmp t q)) →
      finite.from_entries n.entries ≡ finite.remove os l
  removed_in n l updates =
      remove-from_tree location_cmp_total location_cmp-IsAntisymmetric t n l updates
      ∙ ap (λ (m : Outcomes). finite.remove m l) seen

  module _ (sorted : IsStrictlySortedBy location_cmp (keys_of t.entries)) where
    pub walked : (es : List (Place × Outcome)) → es ≡ t.entries → es ≡ finite.entries os
    walked es is = is ∙ sym (entries-from_tree location_cmp_total t.entries sorted) ∙ ap finite.entries seen

    pub so_many_in : (n : ℕ) → n ≡ length t.entries → n ≡ finite.len os
    so_many_in n is =
        is ∙ ap length (sym (entries-from_tree location_cmp_total t.entries sorted)) ∙ sym (finite.len-entries _)
        ∙ ap (λ (m : Outcomes). finite.len m) seen

-- whether there are actions where an outcome is found
pub acting_there : (os : Outcomes) (l : Place) (o : Outcome) (b : Bool) → Some o ≡ finite.get os l → b ≡ acts o.actions →
    b ≡ acts_at os l
acting_there os l o b found is = is ∙ ap (λ (t : Option Outcome). acts (option_map_or (λ (x : Outcome). x.actions) t [])) found

pub acting_nowhere : (os : Outcomes) (l : Place) → None ≡ finite.get os l → false ≡ acts_at os l
acting_nowhere os l found = ap (λ (t : Option Outcome). acts (option_map_or (λ (x : Outcome). x.actions) t [])) found

-- whether the location has the name
abbrev pub has_name : List ℕ → Place → Bool
has_name name l = pointwise nat_eq l.name name

-- the value at a location after a write
val-write : (A : State) (k : Place) (v : Value) (q : Place) → val (write A k v) q ≡ cond (eq_by_cmp location_cmp q k) v (val A q)
val-write A k v q = ap (λ (o : Option Value). unwrap_or o undef) (get-write A k v q) ∙ by_test (eq_by_cmp location_cmp q k) where
  by_test : (b : Bool) → unwrap_or (cond b (stored v) (finite.get A q)) undef ≡ cond b v (val A q)
  by_test true = stored_reads v
  by_test false = refl

-- what a location has once the rest of a frame's values came in
abbrev pub once_in : List ℕ → List (Place × Value) → State → Place → Value
once_in name left A q = cond (has_name name q) (unwrap_or (finite.find location_cmp q left) (val A q)) (val A q)

-- the rest of a frame's values ascends, and once it came in, locations have what they would have before
pub record IsComing (name : List ℕ) (all left : List (Place × Value)) (A B : State) : Type 0 where
  pub rising : T (finite.is_sorted location_cmp left)
  pub same : (q : Place) → once_in name left B q ≡ once_in name all A q

-- one value at one location: whether the one that is asked for and the one that is written have the name, and whether
-- they are the same
one_value : (x : Option Value) (a v : Value) (asked put tie : Bool) → (tie ≡ true → (asked ≡ put) × (x ≡ None)) →
    cond asked (unwrap_or x (cond put (cond tie v a) a)) (cond put (cond tie v a) a)
    ≡ cond asked (unwrap_or (cond tie (Some v) x) a) a
one_value x a v asked true false h = refl
one_value x a v asked false false h = refl
one_value x a v true true true h = ap (λ o. unwrap_or o v) (h refl).1
one_value x a v false false true h = refl
one_value x a v true false true h = absurd (false≢true (sym (h refl).0))
one_value x a v false true true h = absurd (false≢true (h refl).0)

-- the first of the rest came in, if it has the name
pub one_in : (name : List ℕ) (all : List (Place × Value)) (k : Place) (v : Value) (rest : List (Place × Value)) (A old new : State) →
    new ≡ cond (has_name name k) (write old k v) old → IsComing name all ((k, v) ∷ rest) A old →
    IsComing name all rest A new
one_in name all k v rest A old new is coming = record {
  rising = rising_rest location_cmp k v rest coming.rising;
  same = λ q.
      ap (λ (a : Value). cond (has_name name q) (unwrap_or (finite.find location_cmp q rest) a) a)
      (ap (λ (B : State). val B q) is ∙ written q (has_name name k))
      ∙ one_value (finite.find location_cmp q rest) (val old q) v (has_name name q) (has_name name k)
      (eq_by_cmp location_cmp q k) (tied q)
      ∙ coming.same q;
} where
  written : (q : Place) (b : Bool) → val (cond b (write old k v) old) q ≡ cond b (cond (eq_by_cmp location_cmp q k) v (val old q)) (val old q)
  written q true = val-write old k v q
  written q false = refl

  tied : (q : Place) → eq_by_cmp location_cmp q k ≡ true → (has_name name q ≡ has_name name k) × (finite.find location_cmp q rest ≡ None)
  tied q e =
      let at = same_location q k e in
      (ap (has_name name) at, ap (λ p. finite.find location_cmp p rest) at ∙ first_gone location_cmp k v rest coming.rising)

-- the values of outcomes

abbrev pub values_in : List (Place × Outcome) → List (Place × Value)
values_in es = map (λ e. (e.0, e.1.value)) es

of_both : (a b : Bool) → T a → T b → T (a && b)
of_both true b p q = q
of_both false b p q = absurd p

below_values : (k : Place) (es : List (Place × Outcome)) → T (below_all location_cmp k es) → T (below_all location_cmp k (values_in es))
below_values k [] h = tt
below_values k (e ∷ es) h =
    let parts = both_T (is_lt (location_cmp k e.0)) (below_all location_cmp k es) h in
    of_both (is_lt (location_cmp k e.0)) (below_all location_cmp k (values_in es)) parts.0 (below_values k es parts.1)

rising_values : (es : List (Place × Outcome)) → T (finite.is_sorted location_cmp es) → T (finite.is_sorted location_cmp (values_in es))
rising_values [] h = tt
rising_values (e ∷ es) h =
    let parts = both_T (below_all location_cmp e.0 es) (finite.is_sorted location_cmp es) h in
    of_both (below_all location_cmp e.0 (values_in es)) (finite.is_sorted location_cmp (values_in es)) (below_values e.0 es parts.0)
    (rising_values es parts.1)

-- before the first came in
pub none_in : (name : List ℕ) (os : Outcomes) (all : List (Place × Outcome)) (A : State) → all ≡ finite.entries os →
    IsComing name (values_in all) (values_in all) A A
none_in name os all A is = record {
  rising = rising_values all (subst (λ es. T (finite.is_sorted location_cmp es)) (sym is) (finite.entries_sorted os));
  same = λ q. refl;
}

-- all came in
pub all_in : (name : List ℕ) (os : Outcomes) (all left : List (Place × Outcome)) (A B : State) → all ≡ finite.entries os → left ≡ [] →
    IsComing name (values_in all) (values_in left) A B → (q : Place) → val B q ≡ scanned (frame os ∷ []) (val A) name q
all_in name os all left A B is none coming q =
    sym (ap (λ (es : List (Place × Outcome)). once_in name (values_in es) B q) none ∙ by_test (has_name name q))
    ∙ coming.same q
    ∙ ap (λ (o : Option Value). cond (has_name name q) (unwrap_or o (val A q)) (val A q))
    (find-mapped (λ (o : Outcome). o.value) q all
    ∙ ap (λ (es : List (Place × Outcome)). option_map (λ (o : Outcome). o.value) (finite.find location_cmp q es)) is
    ∙ ap (option_map (λ (o : Outcome). o.value)) (sym (finite.get-entries os q)) ∙ sym (get-frame os q)) where
      by_test : (b : Bool) → cond b (val B q) (val B q) ≡ val B q
      by_test true = refl
      by_test false = refl

-- one more layer came in
pub frame_in : (name : List ℕ) (t : List OwnLayer) (y : OwnLayer) (A B C : State) →
    ((q : Place) → val B q ≡ scanned (frames_of (layers_on finite.empty t)) (val A) name q) →
    ((q : Place) → val C q ≡ scanned (frame y.own ∷ []) (val B) name q) →
    (q : Place) → val C q ≡ scanned (frames_of (layers_on finite.empty (t ++ y ∷ []))) (val A) name q
frame_in name t y A B C before this q = this q ∙ by_test (has_name name q) (val B q) (before q) where
  by_own : (o x : Option Outcome) →
      option_map (λ (o : Outcome). o.value) (option_or o x) ≡ option_or (option_map (λ (o : Outcome). o.value) o) (option_map (λ (o : Outcome). o.value) x)
  by_own (Some o) x = refl
  by_own None x = refl

  shown : topmost (frames_of (layers_on finite.empty (t ++ y ∷ []))) q
      ≡ option_or (finite.get (frame y.own) q) (topmost (frames_of (layers_on finite.empty t)) q)
  shown =
      topmost_is (layers_on finite.empty (t ++ y ∷ [])) q
      ∙ ap (option_map (λ (o : Outcome). o.value)) (held-push t y q)
      ∙ by_own (finite.get y.own q) (finite.get (outcomes_of (layers_on finite.empty t)) q)
      ∙ (λ i. option_or (sym (get-frame y.own q) i) (sym (topmost_is (layers_on finite.empty t) q) i))

  both : (x y : Option Value) (v : Value) → unwrap_or x (unwrap_or y v) ≡ unwrap_or (option_or x y) v
  both (Some w) y v = refl
  both None y v = refl

  by_test : (b : Bool) (w : Value) → w ≡ cond b (seen_through (frames_of (layers_on finite.empty t)) (val A) q) (val A q) →
      cond b (unwrap_or (finite.get (frame y.own) q) w) w
      ≡ cond b (seen_through (frames_of (layers_on finite.empty (t ++ y ∷ []))) (val A) q) (val A q)
  by_test true w e =
      ap (unwrap_or (finite.get (frame y.own) q)) e
      ∙ both (finite.get (frame y.own) q) (topmost (frames_of (layers_on finite.empty t)) q) (val A q)
      ∙ ap (λ (o : Option Value). unwrap_or o (val A q)) (sym shown)
  by_test false w e = e
