-- The values of one function as a list: what is in it at a location, and that it ascends.
use Rattle.std.proofs.Common.{◌≡◌, ℕ, Bool, true, false, cond, ◌&&◌, is_some, T, List, [], ◌∷◌, ◌++◌, Bor, Option, Some, None, map, refl, sym, ap, ◌∙◌, subst, append_assoc, append-nil}
use Rattle.std.specs.Prelude.{All, unwrap_or}
use Rattle.std.proofs.lemmas.List.Elements.{All-map, All-same, All-weaker}
use Rattle.std.specs.BTreeMap.Range.{entries_between}
use Rattle.std.specs.FinMap as finite
use Rattle.std.specs.FinMap.Entries.{below_all, is_sorted}
use Rattle.std.specs.Ordering.{eq_by_cmp, is_eq, is_ge, is_lt, ordering_reverse}
use Rattle.std.specs.declared.cmp.Ordering.{Ordering}
use Rattle.std.specs.declared.cmp.Ordering.TheVariants.{Less, Equal, Greater}
use Rattle.std.specs.declared.ops.Bound.TheVariants.{Included, Unbounded}
use Rattle.asm_element.specs.Ascending.{both_T, first_gone, is_less, less_apart, none_below}
use Rattle.asm_element.specs.Place.{Place, location_cmp, location_cmp_total, same_location}
use Rattle.asm_element.specs.Place as place
use Rattle.asm_element.specs.Value as value
use Rattle.asm_element.specs.Value.{is_undef, undef, undef_is}
use Rattle.asm_element.specs.declared.value.Value.{Value}
use Rattle.asm_update.specs.State.{val}
use Rattle.asm_state.specs.Listed.{IsListing, by_value}
use Rattle.asm_state.specs.Merging.{IsListed, entry_value, front, from_on, listing, seen, seen_all, seen_below, starts_at}
use Rattle.asm_state.specs.Plain.{value_of_name}
use Rattle.asm_state.specs.Scans.{has_name}
use Rattle.asm_state.specs.View.{StateView, value_over}
use Rattle.asm_state.specs.declared.entries.WrittenValue.{WrittenValue}
use Rattle.asm_state.proofs.Onward.{IsOnward, onward_has, onward_past, onward_start, onward_step}

abbrev pub Seen : Type 0
Seen = List (Place × Value)

abbrev pub Written : Type 0
Written = List (Place × WrittenValue)

pair_T : (a b : Bool) → T a → T b → T (a && b)
pair_T true b h k = k
pair_T false b h k = absurd h

from_true : (b : Bool) → b ≡ true → T b
from_true b e = subst T (sym e) tt

-- ---- one more in a list of references

pub values_more : {X : Type 0} (es : List (Bor Place × Bor X)) (l : Bor Place) (x : Bor X) →
    by_value (es ++ (l, x) ∷ []) ≡ by_value es ++ (l.now, x.now) ∷ []
values_more [] l x = refl
values_more (e ∷ es) l x = ap (λ us. (e.0.now, e.1.now) ∷ us) (values_more es l x)

-- ---- what is left, behind what is listed

module _ {X : Type 0} (name : List ℕ) where
  pub front_more : (es new : List (Bor Place × Bor X)) (l : Bor Place) (x : Bor X) (left rest all : List (Place × X)) →
      left ≡ (l.now, x.now) ∷ rest → has_name name l.now ≡ true → new ≡ es ++ (l, x) ∷ [] →
      by_value es ++ front name left ≡ all → by_value new ++ front name rest ≡ all
  front_more es new l x left rest all step named pushed before =
      ap (λ (us : List (Bor Place × Bor X)). by_value us ++ front name rest) pushed
      ∙ ap (λ (us : List (Place × X)). us ++ front name rest) (values_more es l x)
      ∙ append_assoc (by_value es) ((l.now, x.now) ∷ []) (front name rest)
      ∙ ap (λ (us : List (Place × X)). by_value es ++ us)
      (sym (ap (front name) step ∙ ap (λ (b : Bool). cond b ((l.now, x.now) ∷ front name rest) []) named))
      ∙ before

  pub front_past : (done : List (Place × X)) (k : Place) (x : X) (left rest all : List (Place × X)) →
      left ≡ (k, x) ∷ rest → has_name name k ≡ false → done ++ front name left ≡ all → done ≡ all
  front_past done k x left rest all step other before =
      sym (append-nil done)
      ∙ ap (λ (us : List (Place × X)). done ++ us)
      (sym (ap (front name) step ∙ ap (λ (b : Bool). cond b ((k, x) ∷ front name rest) []) other))
      ∙ before

  pub front_end : (done left all : List (Place × X)) → left ≡ [] → done ++ front name left ≡ all → done ≡ all
  front_end done left all none before =
      sym (append-nil done) ∙ ap (λ (us : List (Place × X)). done ++ us) (sym (ap (front name) none)) ∙ before

module _ (at : Place) (k : Place) (w : WrittenValue) (left rest : Written) (step : left ≡ (k, w) ∷ rest) where
  pub below_more : (old new all : Seen) → is_lt (location_cmp k at) ≡ true → new ≡ old ++ seen k (entry_value w) →
      old ++ seen_below at left ≡ all → new ++ seen_below at rest ≡ all
  below_more old new all less pushed before =
      ap (λ (us : Seen). us ++ seen_below at rest) pushed ∙ append_assoc old (seen k (entry_value w)) (seen_below at rest)
      ∙ ap (λ (us : Seen). old ++ us)
      (sym (ap (seen_below at) step ∙ ap (λ (b : Bool). cond b (seen k (entry_value w) ++ seen_below at rest) []) less))
      ∙ before

  pub from_more : (all : Written) → is_lt (location_cmp k at) ≡ true → from_on at left ≡ all → from_on at rest ≡ all
  from_more all less before =
      sym (ap (from_on at) step ∙ ap (λ (b : Bool). cond b (from_on at rest) ((k, w) ∷ rest)) less) ∙ before

  pub below_stop : (old all : Seen) → is_lt (location_cmp k at) ≡ false → old ++ seen_below at left ≡ all → old ≡ all
  below_stop old all less before =
      sym (append-nil old)
      ∙ ap (λ (us : Seen). old ++ us)
      (sym (ap (seen_below at) step ∙ ap (λ (b : Bool). cond b (seen k (entry_value w) ++ seen_below at rest) []) less))
      ∙ before

  pub from_stop : (all : Written) → is_lt (location_cmp k at) ≡ false → from_on at left ≡ all → left ≡ all
  from_stop all less before =
      step ∙ sym (ap (from_on at) step ∙ ap (λ (b : Bool). cond b (from_on at rest) ((k, w) ∷ rest)) less) ∙ before

  pub all_more : (old new all : Seen) → new ≡ old ++ seen k (entry_value w) → old ++ seen_all left ≡ all → new ++ seen_all rest ≡ all
  all_more old new all pushed before =
      ap (λ (us : Seen). us ++ seen_all rest) pushed ∙ append_assoc old (seen k (entry_value w)) (seen_all rest)
      ∙ ap (λ (us : Seen). old ++ us) (sym (ap seen_all step)) ∙ before

pub below_end : (at : Place) (left : Written) (old all : Seen) → left ≡ [] → old ++ seen_below at left ≡ all → old ≡ all
below_end at left old all none before =
    sym (append-nil old) ∙ ap (λ (us : Seen). old ++ us) (sym (ap (seen_below at) none)) ∙ before

pub from_end : (at : Place) (left all : Written) → left ≡ [] → from_on at left ≡ all → left ≡ all
from_end at left all none before = none ∙ sym (ap (from_on at) none) ∙ before

pub all_end : (left : Written) (old all : Seen) → left ≡ [] → old ++ seen_all left ≡ all → old ≡ all
all_end left old all none before =
    sym (append-nil old) ∙ ap (λ (us : Seen). old ++ us) (sym (ap seen_all none)) ∙ before

-- the opening value at a location comes behind the entries below it, unless an entry hides it
pub listing_more : (k : Place) (v : Value) (es rest : Seen) (ws left : Written) (old mid new all : Seen) (starts : Bool) →
    es ≡ (k, v) ∷ rest → left ≡ from_on k ws → mid ≡ old ++ seen_below k ws → starts ≡ starts_at k left →
    new ≡ mid ++ cond starts [] (seen k v) → old ++ listing es ws ≡ all → new ++ listing rest left ≡ all
listing_more k v es rest ws left old mid new all starts step from below test pushed before =
    ap (λ (us : Seen). us ++ listing rest left) (pushed ∙ ap (λ (us : Seen). us ++ cond starts [] (seen k v)) below)
    ∙ append_assoc (old ++ seen_below k ws) (cond starts [] (seen k v)) (listing rest left)
    ∙ append_assoc old (seen_below k ws) (cond starts [] (seen k v) ++ listing rest left)
    ∙ ap (λ (us : Seen). old ++ (seen_below k ws ++ us)) (
    ap (λ (b : Bool). cond b [] (seen k v) ++ listing rest left) test
    ∙ ap (λ (us : Written). cond (starts_at k us) [] (seen k v) ++ listing rest us) from
    )
    ∙ ap (λ (us : Seen). old ++ listing us ws) (sym step) ∙ before

-- no opening value is left
pub listing_end : (es : Seen) (ws : Written) (old new all : Seen) → es ≡ [] → new ≡ old ++ seen_all ws →
    old ++ listing es ws ≡ all → new ≡ all
listing_end es ws old new all none pushed before =
    pushed ∙ ap (λ (us : Seen). old ++ listing us ws) (sym none) ∙ before

-- ---- the same list, one entry or opening value at a time

abbrev weave : Place → Value → (Written → Seen) → Written → Seen
weave k v more [] = seen k v ++ more []
weave k v more (w ∷ ws) =
    cond (is_lt (location_cmp w.0 k)) (seen w.0 (entry_value w.1) ++ weave k v more ws)
    (cond (eq_by_cmp location_cmp w.0 k) (more (w ∷ ws)) (seen k v ++ more (w ∷ ws)))

woven : (k : Place) (v : Value) (more : Written → Seen) (ws : Written) →
    seen_below k ws ++ (cond (starts_at k (from_on k ws)) [] (seen k v) ++ more (from_on k ws)) ≡ weave k v more ws
woven k v more [] = refl
woven k v more (w ∷ ws) = by_less (woven k v more ws) (is_lt (location_cmp w.0 k)) where
  one : Seen
  one = seen w.0 (entry_value w.1)

  by_tie : (t : Bool) → cond t [] (seen k v) ++ more (w ∷ ws) ≡ cond t (more (w ∷ ws)) (seen k v ++ more (w ∷ ws))
  by_tie true = refl
  by_tie false = refl

  by_less :
      seen_below k ws ++ (cond (starts_at k (from_on k ws)) [] (seen k v) ++ more (from_on k ws)) ≡ weave k v more ws →
      (b : Bool) →
      cond b (one ++ seen_below k ws) []
      ++ (cond (starts_at k (cond b (from_on k ws) (w ∷ ws))) [] (seen k v) ++ more (cond b (from_on k ws) (w ∷ ws)))
      ≡ cond b (one ++ weave k v more ws) (cond (eq_by_cmp location_cmp w.0 k) (more (w ∷ ws)) (seen k v ++ more (w ∷ ws)))
  by_less further true =
      append_assoc one (seen_below k ws) (cond (starts_at k (from_on k ws)) [] (seen k v) ++ more (from_on k ws))
      ∙ ap (λ (l : Seen). one ++ l) further
  by_less further false = by_tie (eq_by_cmp location_cmp w.0 k)

-- ---- it ascends

further : {X : Type 0} (p k : Place) (es : List (Place × X)) → T (is_lt (location_cmp p k)) →
    T (below_all location_cmp k es) → T (below_all location_cmp p es)
further p k [] less h = tt
further p k (e ∷ es) less h =
    let parts = both_T (is_lt (location_cmp k e.0)) (below_all location_cmp k es) h in
    pair_T (is_lt (location_cmp p e.0)) (below_all location_cmp p es)
    (subst (λ o. T (is_lt o)) (sym (location_cmp_total.trans p k e.0 (is_less (location_cmp p k) less) (is_less (location_cmp k e.0) parts.0))) tt)
    (further p k es less parts.1)

pub not_ge : (o : Ordering) → is_ge o ≡ false → is_lt o ≡ true
not_ge Less h = refl
not_ge Equal h = absurd (subst T h tt)
not_ge Greater h = absurd (subst T h tt)

pub ge_not : (o : Ordering) → is_ge o ≡ true → is_lt o ≡ false
ge_not Less h = absurd (subst T (sym h) tt)
ge_not Equal h = refl
ge_not Greater h = refl

-- a location that is neither below another nor it is above it
above : (w k : Place) → is_lt (location_cmp w k) ≡ false → eq_by_cmp location_cmp w k ≡ false → T (is_lt (location_cmp k w))
above w k less tie =
    subst (λ o. T (is_lt o)) (sym (location_cmp_total.antisymm k w)) (by_order (location_cmp w k) less tie) where
      by_order : (o : Ordering) → is_lt o ≡ false → is_eq o ≡ false → T (is_lt (ordering_reverse o))
      by_order Less h t = subst T h tt
      by_order Equal h t = subst T t tt
      by_order Greater h t = tt

below_seen : (p l : Place) (v : Value) (rest : Seen) → T (is_lt (location_cmp p l)) → T (below_all location_cmp p rest) →
    T (below_all location_cmp p (seen l v ++ rest))
below_seen p l v rest less h = by_test (is_undef v) where
  by_test : (b : Bool) → T (below_all location_cmp p (cond b [] ((l, v) ∷ []) ++ rest))
  by_test true = h
  by_test false = pair_T (is_lt (location_cmp p l)) (below_all location_cmp p rest) less h

below_all_seen : (p : Place) (ws : Written) → T (below_all location_cmp p ws) → T (below_all location_cmp p (seen_all ws))
below_all_seen p [] h = tt
below_all_seen p (w ∷ ws) h =
    let parts = both_T (is_lt (location_cmp p w.0)) (below_all location_cmp p ws) h in
    below_seen p w.0 (entry_value w.1) (seen_all ws) parts.0 (below_all_seen p ws parts.1)

below_weave : (p k : Place) (v : Value) (more : Written → Seen) → T (is_lt (location_cmp p k)) →
    ((ws : Written) → T (below_all location_cmp p ws) → T (below_all location_cmp p (more ws))) →
    (ws : Written) → T (below_all location_cmp p ws) → T (below_all location_cmp p (weave k v more ws))
below_weave p k v more less all [] h = below_seen p k v (more []) less (all [] tt)
below_weave p k v more less all (w ∷ ws) h = by_less (below_weave p k v more less all ws parts.1) (is_lt (location_cmp w.0 k)) where
  parts : T (is_lt (location_cmp p w.0)) × T (below_all location_cmp p ws)
  parts = both_T (is_lt (location_cmp p w.0)) (below_all location_cmp p ws) h

  by_tie : (t : Bool) → T (below_all location_cmp p (cond t (more (w ∷ ws)) (seen k v ++ more (w ∷ ws))))
  by_tie true = all (w ∷ ws) h
  by_tie false = below_seen p k v (more (w ∷ ws)) less (all (w ∷ ws) h)

  by_less : T (below_all location_cmp p (weave k v more ws)) → (b : Bool) → T (below_all location_cmp p (cond b (seen w.0 (entry_value w.1) ++ weave k v more ws)
      (cond (eq_by_cmp location_cmp w.0 k) (more (w ∷ ws)) (seen k v ++ more (w ∷ ws)))))
  by_less behind true = below_seen p w.0 (entry_value w.1) (weave k v more ws) parts.0 behind
  by_less behind false = by_tie (eq_by_cmp location_cmp w.0 k)

below_listing : (p : Place) (es : Seen) → T (below_all location_cmp p es) →
    (ws : Written) → T (below_all location_cmp p ws) → T (below_all location_cmp p (listing es ws))
below_listing p [] none ws h = below_all_seen p ws h
below_listing p (e ∷ es) ahead ws h =
    let parts = both_T (is_lt (location_cmp p e.0)) (below_all location_cmp p es) ahead in
    subst (λ (l : Seen). T (below_all location_cmp p l)) (sym (woven e.0 e.1 (listing es) ws))
    (below_weave p e.0 e.1 (listing es) parts.0 (below_listing p es parts.1) ws h)

sorted_seen : (l : Place) (v : Value) (rest : Seen) → T (below_all location_cmp l rest) → T (is_sorted location_cmp rest) →
    T (is_sorted location_cmp (seen l v ++ rest))
sorted_seen l v rest below h = by_test (is_undef v) where
  by_test : (b : Bool) → T (is_sorted location_cmp (cond b [] ((l, v) ∷ []) ++ rest))
  by_test true = h
  by_test false = pair_T (below_all location_cmp l rest) (is_sorted location_cmp rest) below h

sorted_all_seen : (ws : Written) → T (is_sorted location_cmp ws) → T (is_sorted location_cmp (seen_all ws))
sorted_all_seen [] h = tt
sorted_all_seen (w ∷ ws) h =
    let parts = both_T (below_all location_cmp w.0 ws) (is_sorted location_cmp ws) h in
    sorted_seen w.0 (entry_value w.1) (seen_all ws) (below_all_seen w.0 ws parts.0) (sorted_all_seen ws parts.1)

sorted_weave : (k : Place) (v : Value) (es : Seen) → T (below_all location_cmp k es) →
    ((ws : Written) → T (is_sorted location_cmp ws) → T (is_sorted location_cmp (listing es ws))) →
    (ws : Written) → T (is_sorted location_cmp ws) → T (is_sorted location_cmp (weave k v (listing es) ws))
sorted_weave k v es ahead all [] h = sorted_seen k v (listing es []) (below_listing k es ahead [] tt) (all [] tt)
sorted_weave k v es ahead all (w ∷ ws) h = by_less (sorted_weave k v es ahead all ws parts.1) (is_lt (location_cmp w.0 k)) refl where
  parts : T (below_all location_cmp w.0 ws) × T (is_sorted location_cmp ws)
  parts = both_T (below_all location_cmp w.0 ws) (is_sorted location_cmp ws) h

  by_tie : is_lt (location_cmp w.0 k) ≡ false → (t : Bool) → eq_by_cmp location_cmp w.0 k ≡ t →
      T (is_sorted location_cmp (cond t (listing es (w ∷ ws)) (seen k v ++ listing es (w ∷ ws))))
  by_tie less true tie = all (w ∷ ws) h
  by_tie less false tie =
      let up = above w.0 k less tie in
      sorted_seen k v (listing es (w ∷ ws))
      (below_listing k es ahead (w ∷ ws) (pair_T (is_lt (location_cmp k w.0)) (below_all location_cmp k ws) up (further k w.0 ws up parts.0)))
      (all (w ∷ ws) h)

  by_less : T (is_sorted location_cmp (weave k v (listing es) ws)) → (b : Bool) → is_lt (location_cmp w.0 k) ≡ b →
      T (is_sorted location_cmp (cond b (seen w.0 (entry_value w.1) ++ weave k v (listing es) ws)
      (cond (eq_by_cmp location_cmp w.0 k) (listing es (w ∷ ws)) (seen k v ++ listing es (w ∷ ws)))))
  by_less behind true e =
      let less = from_true (is_lt (location_cmp w.0 k)) e in
      sorted_seen w.0 (entry_value w.1) (weave k v (listing es) ws)
      (below_weave w.0 k v (listing es) less (below_listing w.0 es (further w.0 k es less ahead)) ws parts.0)
      behind
  by_less behind false e = by_tie e (eq_by_cmp location_cmp w.0 k) refl

sorted_listing : (es : Seen) → T (is_sorted location_cmp es) → (ws : Written) → T (is_sorted location_cmp ws) →
    T (is_sorted location_cmp (listing es ws))
sorted_listing [] none ws h = sorted_all_seen ws h
sorted_listing (e ∷ es) rising ws h =
    let parts = both_T (below_all location_cmp e.0 es) (is_sorted location_cmp es) rising in
    subst (λ (l : Seen). T (is_sorted location_cmp l)) (sym (woven e.0 e.1 (listing es) ws))
    (sorted_weave e.0 e.1 es parts.0 (sorted_listing es parts.1) ws h)

-- ---- what it has at a location

abbrev there : Place → Seen → Value
there q es = unwrap_or (finite.find location_cmp q es) undef

there_seen : (q l : Place) (v : Value) (rest : Seen) → there l rest ≡ undef →
    there q (seen l v ++ rest) ≡ cond (eq_by_cmp location_cmp q l) v (there q rest)
there_seen q l v rest none = by_test (is_undef v) refl where
  hidden : is_undef v ≡ true → (t : Bool) → eq_by_cmp location_cmp q l ≡ t → there q rest ≡ cond t v (there q rest)
  hidden e true tie = ap (λ (p : Place). there p rest) (same_location q l tie) ∙ none ∙ sym (undef_is v e)
  hidden e false tie = refl

  first_of : (t : Bool) → unwrap_or (cond t (Some v) (finite.find location_cmp q rest)) undef ≡ cond t v (there q rest)
  first_of true = refl
  first_of false = refl

  by_test : (b : Bool) → is_undef v ≡ b →
      there q (cond b [] ((l, v) ∷ []) ++ rest) ≡ cond (eq_by_cmp location_cmp q l) v (there q rest)
  by_test true e = hidden e (eq_by_cmp location_cmp q l) refl
  by_test false e = first_of (eq_by_cmp location_cmp q l)

there_all_seen : (q : Place) (ws : Written) → T (is_sorted location_cmp ws) →
    there q (seen_all ws) ≡ value_over undef (finite.find location_cmp q ws)
there_all_seen q [] h = refl
there_all_seen q (w ∷ ws) h =
    there_seen q w.0 (entry_value w.1) (seen_all ws)
    (there_all_seen w.0 ws rising ∙ ap (value_over undef) (first_gone location_cmp w.0 w.1 ws h))
    ∙ by_tie (there_all_seen q ws rising) (eq_by_cmp location_cmp q w.0) where
      rising : T (is_sorted location_cmp ws)
      rising = (both_T (below_all location_cmp w.0 ws) (is_sorted location_cmp ws) h).1

      by_tie : there q (seen_all ws) ≡ value_over undef (finite.find location_cmp q ws) → (t : Bool) →
          cond t (entry_value w.1) (there q (seen_all ws)) ≡ value_over undef (cond t (Some w.1) (finite.find location_cmp q ws))
      by_tie others true = refl
      by_tie others false = others

module _ (k : Place) (v : Value) (es : Seen) (ahead : T (below_all location_cmp k es))
    (all : (q : Place) (ws : Written) → T (is_sorted location_cmp ws) →
    there q (listing es ws) ≡ value_over (there q es) (finite.find location_cmp q ws)) where
  none_there : (p : Place) → T (below_all location_cmp p es) → there p es ≡ undef
  none_there p h = ap (λ (o : Option Value). unwrap_or o undef) (none_below location_cmp p es h)

  -- where the location is below all entries, or there is none
  none_behind : (ws : Written) → T (is_sorted location_cmp ws) → T (below_all location_cmp k ws) → there k (listing es ws) ≡ undef
  none_behind ws rising h =
      all k ws rising ∙ ap (value_over (there k es)) (none_below location_cmp k ws h) ∙ none_there k ahead

  there_weave : (q : Place) (ws : Written) → T (is_sorted location_cmp ws) →
      there q (weave k v (listing es) ws) ≡ value_over (there q ((k, v) ∷ es)) (finite.find location_cmp q ws)
  there_weave q [] h = there_seen q k v (listing es []) (none_behind [] tt tt) ∙ by_tie (eq_by_cmp location_cmp q k) where
    by_tie : (t : Bool) → cond t v (there q (listing es [])) ≡ unwrap_or (cond t (Some v) (finite.find location_cmp q es)) undef
    by_tie true = refl
    by_tie false = all q [] tt
  there_weave q (w ∷ ws) h = by_less (λ p. there_weave p ws parts.1) (is_lt (location_cmp w.0 k)) refl where
    parts : T (below_all location_cmp w.0 ws) × T (is_sorted location_cmp ws)
    parts = both_T (below_all location_cmp w.0 ws) (is_sorted location_cmp ws) h

    goal : Value
    goal = value_over (there q ((k, v) ∷ es)) (finite.find location_cmp q (w ∷ ws))

    -- an entry at the location hides its opening value
    hides : eq_by_cmp location_cmp w.0 k ≡ true → (t : Bool) → eq_by_cmp location_cmp q w.0 ≡ t →
        value_over (there q es) (cond t (Some w.1) (finite.find location_cmp q ws))
        ≡ value_over (there q ((k, v) ∷ es)) (cond t (Some w.1) (finite.find location_cmp q ws))
    hides tie true at = refl
    hides tie false at =
        ap (λ (b : Bool). value_over (unwrap_or (cond b (Some v) (finite.find location_cmp q es)) undef) (finite.find location_cmp q ws))
        (sym (ap (λ (p : Place). eq_by_cmp location_cmp q p) (sym (same_location w.0 k tie)) ∙ at))

    -- the location is below all entries that are left
    opens : T (below_all location_cmp k (w ∷ ws)) → (t : Bool) → eq_by_cmp location_cmp q k ≡ t →
        cond t v (there q (listing es (w ∷ ws)))
        ≡ value_over (unwrap_or (cond t (Some v) (finite.find location_cmp q es)) undef) (finite.find location_cmp q (w ∷ ws))
    opens low true at =
        ap (value_over v)
        (sym (ap (λ (p : Place). finite.find location_cmp p (w ∷ ws)) (same_location q k at) ∙ none_below location_cmp k (w ∷ ws) low))
    opens low false at = all q (w ∷ ws) h

    by_tie : is_lt (location_cmp w.0 k) ≡ false → (t : Bool) → eq_by_cmp location_cmp w.0 k ≡ t →
        there q (cond t (listing es (w ∷ ws)) (seen k v ++ listing es (w ∷ ws))) ≡ goal
    by_tie less true tie = all q (w ∷ ws) h ∙ hides tie (eq_by_cmp location_cmp q w.0) refl
    by_tie less false tie =
        let up = above w.0 k less tie in
        let low = pair_T (is_lt (location_cmp k w.0)) (below_all location_cmp k ws) up (further k w.0 ws up parts.0) in
        there_seen q k v (listing es (w ∷ ws)) (none_behind (w ∷ ws) h low) ∙ opens low (eq_by_cmp location_cmp q k) refl

    -- an entry below the location
    comes : (t : Bool) → cond t (entry_value w.1) (value_over (there q ((k, v) ∷ es)) (finite.find location_cmp q ws))
        ≡ value_over (there q ((k, v) ∷ es)) (cond t (Some w.1) (finite.find location_cmp q ws))
    comes true = refl
    comes false = refl

    by_less : ((p : Place) → there p (weave k v (listing es) ws) ≡ value_over (there p ((k, v) ∷ es)) (finite.find location_cmp p ws)) →
        (b : Bool) → is_lt (location_cmp w.0 k) ≡ b →
        there q (cond b (seen w.0 (entry_value w.1) ++ weave k v (listing es) ws)
        (cond (eq_by_cmp location_cmp w.0 k) (listing es (w ∷ ws)) (seen k v ++ listing es (w ∷ ws)))) ≡ goal
    by_less others true e =
        let less = from_true (is_lt (location_cmp w.0 k)) e in
        let behind : there w.0 (weave k v (listing es) ws) ≡ undef =
        others w.0 ∙ ap (value_over (there w.0 ((k, v) ∷ es))) (none_below location_cmp w.0 ws parts.0)
        ∙ ap (λ (b : Bool). unwrap_or (cond b (Some v) (finite.find location_cmp w.0 es)) undef) (less_apart (location_cmp w.0 k) less)
        ∙ none_there w.0 (further w.0 k es less ahead) in
        there_seen q w.0 (entry_value w.1) (weave k v (listing es) ws) behind
        ∙ ap (cond (eq_by_cmp location_cmp q w.0) (entry_value w.1)) (others q)
        ∙ comes (eq_by_cmp location_cmp q w.0)
    by_less others false e = by_tie e (eq_by_cmp location_cmp w.0 k) refl

there_listing : (es : Seen) → T (is_sorted location_cmp es) → (q : Place) (ws : Written) → T (is_sorted location_cmp ws) →
    there q (listing es ws) ≡ value_over (there q es) (finite.find location_cmp q ws)
there_listing [] none q ws h = there_all_seen q ws h
there_listing (e ∷ es) rising q ws h =
    let parts = both_T (below_all location_cmp e.0 es) (is_sorted location_cmp es) rising in
    ap (there q) (woven e.0 e.1 (listing es) ws) ∙ there_weave e.0 e.1 es parts.0 (there_listing es parts.1) q ws h

-- ---- the first entries of a walk

module _ {X : Type 0} where
  below_front : (name : List ℕ) (p : Place) (es : List (Place × X)) → T (below_all location_cmp p es) →
      T (below_all location_cmp p (front name es))
  below_front name p [] h = tt
  below_front name p (e ∷ es) h = by_test (below_front name p es parts.1) (has_name name e.0) where
    parts : T (is_lt (location_cmp p e.0)) × T (below_all location_cmp p es)
    parts = both_T (is_lt (location_cmp p e.0)) (below_all location_cmp p es) h

    by_test : T (below_all location_cmp p (front name es)) → (b : Bool) → T (below_all location_cmp p (cond b (e ∷ front name es) []))
    by_test behind true = pair_T (is_lt (location_cmp p e.0)) (below_all location_cmp p (front name es)) parts.0 behind
    by_test behind false = tt

  sorted_front : (name : List ℕ) (es : List (Place × X)) → T (is_sorted location_cmp es) → T (is_sorted location_cmp (front name es))
  sorted_front name [] h = tt
  sorted_front name (e ∷ es) h = by_test (sorted_front name es parts.1) (has_name name e.0) where
    parts : T (below_all location_cmp e.0 es) × T (is_sorted location_cmp es)
    parts = both_T (below_all location_cmp e.0 es) (is_sorted location_cmp es) h

    by_test : T (is_sorted location_cmp (front name es)) → (b : Bool) → T (is_sorted location_cmp (cond b (e ∷ front name es) []))
    by_test behind true =
        pair_T (below_all location_cmp e.0 (front name es)) (is_sorted location_cmp (front name es))
        (below_front name e.0 es parts.0) behind
    by_test behind false = tt

  none_of : (o : Option X) → is_some o ≡ false → None ≡ o
  none_of None e = refl
  none_of (Some x) e = absurd (subst T e tt)

  found_front : (first : Place) (left : List (Place × X)) → IsOnward first left → (q : Place) →
      finite.find location_cmp q (front first.name left) ≡ cond (has_name first.name q) (finite.find location_cmp q left) None
  found_front first [] on q = by_test (has_name first.name q) where
    by_test : (b : Bool) → ◌≡◌ {A = Option X} None (cond b None None)
    by_test true = refl
    by_test false = refl
  found_front first (e ∷ rest) on q = by_name (found_front first rest (onward_step first e.0 e.1 rest on) q) (has_name first.name e.0) refl where
    by_tie : finite.find location_cmp q (front first.name rest) ≡ cond (has_name first.name q) (finite.find location_cmp q rest) None →
        has_name first.name e.0 ≡ true → (t : Bool) → eq_by_cmp location_cmp q e.0 ≡ t →
        cond t (Some e.1) (finite.find location_cmp q (front first.name rest))
        ≡ cond (has_name first.name q) (cond t (Some e.1) (finite.find location_cmp q rest)) None
    by_tie behind named true tie =
        ap (λ (b : Bool). cond b (Some e.1) None) (sym (ap (has_name first.name) (same_location q e.0 tie) ∙ named))
    by_tie behind named false tie = behind

    by_named : has_name first.name e.0 ≡ false → (b : Bool) → has_name first.name q ≡ b →
        None ≡ cond b (finite.find location_cmp q (e ∷ rest)) None
    by_named other true named = none_of (finite.find location_cmp q (e ∷ rest)) (onward_past first e.0 e.1 rest on other q named)
    by_named other false named = refl

    by_name : finite.find location_cmp q (front first.name rest) ≡ cond (has_name first.name q) (finite.find location_cmp q rest) None →
        (b : Bool) → has_name first.name e.0 ≡ b →
        finite.find location_cmp q (cond b (e ∷ front first.name rest) [])
        ≡ cond (has_name first.name q) (finite.find location_cmp q (e ∷ rest)) None
    by_name behind true named = by_tie behind named (eq_by_cmp location_cmp q e.0) refl
    by_name behind false other = by_named other (has_name first.name q) refl

-- ---- the list of a state

module _ (s : StateView) (first : Place) (none : first.args ≡ []) where
  -- the walks over the opening state and over the entries
  module _ (opening : Seen) (opens : opening ≡ entries_between location_cmp (Included first) Unbounded (finite.entries s.base))
      (written : Written) (writes : written ≡ entries_between location_cmp (Included first) Unbounded (finite.entries s.entries)) where
    abbrev pub list : Seen
    list = listing (front first.name opening) (front first.name written)

    opened : IsOnward first opening
    opened = onward_start first s.base opening opens

    wrote : IsOnward first written
    wrote = onward_start first s.entries written writes

    entries_rise : T (is_sorted location_cmp (front first.name written))
    entries_rise = sorted_front first.name written wrote.rising

    rises : T (is_sorted location_cmp list)
    rises = sorted_listing (front first.name opening) (sorted_front first.name opening opened.rising) (front first.name written) entries_rise

    has : (q : Place) → there q list ≡ value_of_name s first.name q
    has q =
        there_listing (front first.name opening) (sorted_front first.name opening opened.rising) q (front first.name written) entries_rise
        ∙ ap (λ (o : Option Value). value_over (unwrap_or o undef) (finite.find location_cmp q (front first.name written))) (found_front first opening opened q)
        ∙ ap (value_over (unwrap_or (cond (has_name first.name q) (finite.find location_cmp q opening) None) undef)) (found_front first written wrote q)
        ∙ by_name (has_name first.name q) refl where
          by_name : (b : Bool) → has_name first.name q ≡ b →
              value_over (unwrap_or (cond b (finite.find location_cmp q opening) None) undef) (cond b (finite.find location_cmp q written) None)
              ≡ cond b (value_over (val s.base q) (finite.get s.entries q)) undef
          by_name true named =
              ap (λ (o : Option Value). value_over (unwrap_or o undef) (finite.find location_cmp q written)) (onward_has first s.base opening opens none q named)
              ∙ ap (value_over (val s.base q)) (onward_has first s.entries written writes none q named)
          by_name false other = refl

    pub is_listing : (found : Seen) → found ≡ list → All IsListed found → IsListing (value_of_name s first.name) found
    is_listing found is all =
        let sorted : T (is_sorted location_cmp found) = subst (λ (es : Seen). T (is_sorted location_cmp es)) (sym is) rises in
        let same : finite.entries (finite.from_sorted {R = location_cmp} found) ≡ found = finite.entries-from_sorted location_cmp found sorted in (
          finite.from_sorted found,
          record {
            locations = All-same place.IsProper (map (λ e. e.0) (finite.entries (finite.from_sorted {R = location_cmp} found))) (map (λ e. e.0) found)
                (ap (λ (es : Seen). map (λ e. e.0) es) same)
                (All-map place.IsProper (λ e. e.0) found (All-weaker IsListed (λ e. place.IsProper e.0) (λ e p. p.0) found all));
            values = All-same value.IsProper (map (λ e. e.1) (finite.entries (finite.from_sorted {R = location_cmp} found))) (map (λ e. e.1) found)
                (ap (λ (es : Seen). map (λ e. e.1) es) same)
                (All-map value.IsProper (λ e. e.1) found (All-weaker IsListed (λ e. value.IsProper e.1) (λ e p. p.1) found all));
            no_undef = All-same (λ v. is_undef v ≡ false) (map (λ e. e.1) (finite.entries (finite.from_sorted {R = location_cmp} found))) (map (λ e. e.1) found)
                (ap (λ (es : Seen). map (λ e. e.1) es) same)
                (All-map (λ v. is_undef v ≡ false) (λ e. e.1) found (All-weaker IsListed (λ e. is_undef e.1 ≡ false) (λ e p. p.2) found all));
          },
          (λ q. ap (λ (o : Option Value). unwrap_or o undef) (finite.get-from_sorted location_cmp found q sorted) ∙ ap (there q) is ∙ has q),
          sym same,
        )
