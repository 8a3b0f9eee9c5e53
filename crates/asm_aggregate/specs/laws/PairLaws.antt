-- Two aggregators that keep the laws keep them as one.
use Rattle.std.proofs.Common.{◌≡◌, ◌≢◌, Bool, true, false, cond, ◌&&◌, ◌||◌, List, [], ◌∷◌, ◌++◌, refl, sym, ap, subst}
use Rattle.std.proofs.Common.{◌∙◌, inl, inr, ◌⊎◌}
use Rattle.std.specs.Prelude.{Result, Ok, Err, Option, None, Some, unwrap_or, IsPermutation}
use Rattle.std.specs.List.{list_any, list_all}
use Rattle.std.proofs.lemmas.List.Folds.{list_all-append}
use Rattle.std.proofs.lemmas.List.Sorted.{list_any-IsPermutation}
use Rattle.std.proofs.lemmas.List.Elements.{All-nil}
use Rattle.asm_element.specs.Value as value
use Rattle.asm_element.specs.declared.value.Value.{Value}
use Rattle.asm_update.specs.Action.{is_of, kind_of, AllProper, IsProper}
use Rattle.asm_update.specs.Aggregator.{Meaning, AggregatorLaws, Joined, NoJoin, Refused, TooLarge, after}
use Rattle.asm_update.specs.declared.action.Action.{Action}
use Rattle.asm_update.specs.declared.action.Family.{Family}
use Rattle.asm_update.specs.declared.clash.Cause.{Cause}
use Rattle.asm_update.specs.declared.clash.Cause.TheVariants.{Mixed}
use Rattle.asm_element.specs.Tests.{ok_is}
use Rattle.asm_aggregate.specs.Families.{common_family}
use Rattle.asm_aggregate.specs.laws.FamilyLemmas.{both_true, one_family, all-IsPermutation, all_of_rest, among_all}
use Rattle.asm_aggregate.specs.laws.FamilyLemmas.{common_is, common_all, common_some, cons_some}
use Rattle.asm_aggregate.specs.PairMeaning.{pair_owns, by_owner, pair_result, refused, cause_by_owner, unless, pair_joins}
use Rattle.asm_aggregate.specs.PairMeaning.{pair_meaning}

-- what two lists of one family join to is of that family
joined_of : {m : Meaning} (ml : AggregatorLaws m) (f : Family) (first second joined : List Action) →
    list_all (is_of f) (first ++ second) ≡ true → m.joins first second ≡ Ok joined → list_all (is_of f) joined ≡ true
joined_of ml f first second joined h join =
    all_of_rest f joined (ml.join_is_partial first second joined join)
    (λ g some. among_all f g (first ++ second) h (ml.join_family g first second joined join some))

pub passed_unless : (c : Option Cause) (rest : Joined) (joined : List Action) → unless c rest ≡ Ok joined →
    (c ≡ None) × (rest ≡ Ok joined)
passed_unless None rest joined h = (refl, h)
passed_unless (Some cause) rest joined h = cc

passed_none : (c : Option Cause) (rest outcome : Joined) → c ≡ None → unless c rest ≡ outcome → rest ≡ outcome
passed_none None rest outcome e h = h
passed_none (Some cause) rest outcome e h = cc

pub refused_none : (j : Joined) → ((cause : Cause) → j ≡ Err (Refused cause) → ⊥) → refused j ≡ None
refused_none (Ok joined) h = refl
refused_none (Err (Refused cause)) h = absurd (h cause refl)
refused_none (Err TooLarge) h = refl

pub err_not_ok : {A E : Type 0} (e : E) (x : A) →
    (let bad : E → Result A E = λ e. Err e in let good : A → Result A E = λ x. Ok x in bad e ≡ good x) → ⊥
err_not_ok e x h = cc

both_parts : (p : Action → Bool) (xs ys : List Action) → list_all p (xs ++ ys) ≡ true →
    (list_all p xs ≡ true) × (list_all p ys ≡ true)
both_parts p xs ys h = both_true _ _ (sym (list_all-append p xs ys) ∙ h)

-- a list's family in any order
some_any : (xs : List Action) → xs ≢ [] → list_any (λ _. true) xs ≡ true
some_any [] ne = absurd (ne refl)
some_any (x ∷ xs) ne = refl

stays_some : (xs ys : List Action) → list_any (λ _. true) xs ≡ list_any (λ _. true) ys → xs ≢ [] → ys ≢ []
stays_some xs [] same ne h = let k = sym same ∙ some_any xs ne in cc
stays_some xs (y ∷ ys) same ne h = cc

common_kept : (f : Family) (xs ys : List Action) → list_all (is_of f) ys ≡ list_all (is_of f) xs →
    list_any (λ _. true) xs ≡ list_any (λ _. true) ys → common_family xs ≡ Some f → common_family ys ≡ Some f
common_kept f xs ys same some h = common_is f ys (stays_some xs ys some (common_some f xs h)) (same ∙ common_all f xs h)

common-IsPermutation : (xs ys : List Action) → IsPermutation xs ys → common_family ys ≡ common_family xs
common-IsPermutation xs ys p = at (common_family xs) (common_family ys) refl refl where
  some : list_any (λ _. true) xs ≡ list_any (λ _. true) ys
  some = list_any-IsPermutation (λ _. true) xs ys p

  at : (o q : Option Family) → common_family xs ≡ o → common_family ys ≡ q → common_family ys ≡ common_family xs
  at (Some f) q h k = common_kept f xs ys (all-IsPermutation (is_of f) xs ys p) some h ∙ sym h
  at None None h k = k ∙ sym h
  at None (Some f) h k = k ∙ sym (common_kept f ys xs (sym (all-IsPermutation (is_of f) xs ys p)) (sym some) k)

module _ (a b : Meaning) where
  -- one of the two owns the family, the first where both do
  abbrev Owned : Family → Type 0
  Owned f = (a.owns f ≡ true) ⊎ ((a.owns f ≡ false) × (b.owns f ≡ true))

  owned_first : {T : Type 0} (f : Family) (o : Option Family) (x y last : T) → o ≡ Some f → a.owns f ≡ true →
      by_owner a b o x y last ≡ x
  owned_first f o x y last h k = ap (λ o. by_owner a b o x y last) h ∙ ap (λ p. cond p x (cond (b.owns f) y last)) k

  owned_second : {T : Type 0} (f : Family) (o : Option Family) (x y last : T) → o ≡ Some f → a.owns f ≡ false →
      b.owns f ≡ true → by_owner a b o x y last ≡ y
  owned_second f o x y last h k l = ap (λ o. by_owner a b o x y last) h ∙ (λ i. cond (k i) x (cond (l i) y last))

  -- which of the answers it is
  data Answered {T : Type 0} (o : Option Family) (x y last z : T) : Type 0 where
    OfFirst : (f : Family) → o ≡ Some f → a.owns f ≡ true → x ≡ z → Answered o x y last z
    OfSecond : (f : Family) → o ≡ Some f → a.owns f ≡ false → b.owns f ≡ true → y ≡ z → Answered o x y last z
    OfNone : last ≡ z → Answered o x y last z

  answered : {T : Type 0} (o : Option Family) (x y last z : T) → by_owner a b o x y last ≡ z → Answered o x y last z
  answered None x y last z h = OfNone h
  answered {T = T} (Some f) x y last z h = at (a.owns f) (b.owns f) refl refl h where
    at : (p q : Bool) → a.owns f ≡ p → b.owns f ≡ q → cond p x (cond q y last) ≡ z → Answered (Some f) x y last z
    at true q e k h = OfFirst f refl e h
    at false true e k h = OfSecond f refl e k h
    at false false e k h = OfNone h

module _ {a b : Meaning} (al : AggregatorLaws a) (bl : AggregatorLaws b) where
  abbrev pair : Meaning
  pair = pair_meaning a b

  any_order : (old : Value) (regular : Option Value) (xs ys : List Action) → IsPermutation xs ys →
      pair_result a b old regular ys ≡ pair_result a b old regular xs
  any_order old regular xs ys p =
      λ i. by_owner a b (common-IsPermutation xs ys p i) (al.any_order old regular xs ys p i)
      (bl.any_order old regular xs ys p i) (Err Mixed)

  mixed : (old : Value) (regular : Option Value) (xs : List Action) →
      ((f : Family) → pair_owns a b f ≡ true → list_all (is_of f) xs ≡ false) →
      pair_result a b old regular xs ≡ Err Mixed
  mixed old regular xs h = at (common_family xs) refl where
    unowned : (f : Family) (p q : Bool) → a.owns f ≡ p → b.owns f ≡ q → common_family xs ≡ Some f →
        cond p (a.part old regular xs) (cond q (b.part old regular xs) (Err Mixed)) ≡ Err Mixed
    unowned f false false e k l = refl
    unowned f true q e k l = let none = h f (ap (λ p. p || b.owns f) e) in let all = common_all f xs l in cc
    unowned f false true e k l = let none = h f (λ i. e i || k i) in let all = common_all f xs l in cc

    at : (o : Option Family) → common_family xs ≡ o → pair_result a b old regular xs ≡ Err Mixed
    at None e = ap (λ o. by_owner a b o (a.part old regular xs) (b.part old regular xs) (Err Mixed)) e
    at (Some f) e =
        ap (λ o. by_owner a b o (a.part old regular xs) (b.part old regular xs) (Err Mixed)) e
        ∙ unowned f (a.owns f) (b.owns f) refl refl e

  -- which of the two a result is of
  by_part : (old w : Value) (regular : Option Value) (xs : List Action) → pair_result a b old regular xs ≡ Ok w →
      (a.part old regular xs ≡ Ok w) ⊎ (b.part old regular xs ≡ Ok w)
  by_part old w regular xs h =
      elim (answered a b (common_family xs) _ _ _ _ h) [
        | OfFirst f e k is ↦ inl is
        | OfSecond f e k l is ↦
            inr is
        | OfNone is ↦ absurd (err_not_ok _ _ is)
      ]

  -- and which family its list is of
  record HadFamily (xs : List Action) : Type 0 where
    family : Family
    common : common_family xs ≡ Some family
    owned : Owned a b family

  result_family : (old w : Value) (regular : Option Value) (xs : List Action) → pair_result a b old regular xs ≡ Ok w →
      HadFamily xs
  result_family old w regular xs h = elim (answered a b (common_family xs) _ _ _ _ h) [
    | OfFirst f e k is ↦ record { family = f; common = e; owned = inl k }
    | OfSecond f e k l is ↦ record { family = f; common = e; owned = inr (k, l) }
    | OfNone is ↦ absurd (err_not_ok _ _ is)
  ]

  kind_kept : (f : Family) (old w : Value) (regular : Option Value) (xs : List Action) → xs ≢ [] →
      list_all (is_of f) xs ≡ true → pair_result a b old regular xs ≡ Ok w →
      (kind_of (unwrap_or regular old) ≡ Some f) × (kind_of w ≡ Some f)
  kind_kept f old w regular xs ne all h =
      elim (by_part old w regular xs h) [
        | inl p ↦ al.kind_kept f old w regular xs ne all p
        | inr p ↦
            bl.kind_kept f old w regular xs ne all p
      ]

  proper_kept : (old w : Value) (xs : List Action) → value.IsProper old → AllProper xs →
      pair_result a b old None xs ≡ Ok w → value.IsProper w
  proper_kept old w xs po px h =
      elim (by_part old w None xs h) [
        | inl p ↦ al.proper_kept old w xs po px p
        | inr p ↦
            bl.proper_kept old w xs po px p
      ]

  proper_after : (v w : Value) (xs : List Action) → value.IsProper v → AllProper xs → after pair v xs ≡ Ok w →
      value.IsProper w
  proper_after v w [] pv px h = subst value.IsProper (ok_is v w h) pv
  proper_after v w (x ∷ xs) pv px h = proper_kept v w (x ∷ xs) pv px h

  after_first : (f : Family) (v : Value) (xs : List Action) → list_all (is_of f) xs ≡ true → a.owns f ≡ true →
      after pair v xs ≡ after a v xs
  after_first f v [] h o = refl
  after_first f v (x ∷ xs) h o =
      owned_first a b f (common_family (x ∷ xs)) _ _ _ (common_is f (x ∷ xs) (cons_some x xs) h) o

  after_second : (f : Family) (v : Value) (xs : List Action) → list_all (is_of f) xs ≡ true → a.owns f ≡ false →
      b.owns f ≡ true → after pair v xs ≡ after b v xs
  after_second f v [] h o q = refl
  after_second f v (x ∷ xs) h o q =
      owned_second a b f (common_family (x ∷ xs)) _ _ _ (common_is f (x ∷ xs) (cons_some x xs) h) o q

  no_cause_by_owner : (v w : Value) (xs : List Action) → value.IsProper v → AllProper xs → after pair v xs ≡ Ok w →
      cause_by_owner a b xs ≡ None
  no_cause_by_owner v w [] pv px h = refl
  no_cause_by_owner v w (x ∷ xs) pv px h = elim (answered a b (common_family (x ∷ xs)) _ _ _ _ h) [
    | OfFirst f e k is ↦ owned_first a b f (common_family (x ∷ xs)) _ _ _ e k
        ∙ refused_none _
        (λ cause j. al.refused_join v w w (x ∷ xs) [] (Refused cause) pv px (All-nil IsProper) (λ n. cc) j is refl)
    | OfSecond f e k l is ↦ owned_second a b f (common_family (x ∷ xs)) _ _ _ e k l
        ∙ refused_none _
        (λ cause j. bl.refused_join v w w (x ∷ xs) [] (Refused cause) pv px (All-nil IsProper) (λ n. cc) j is refl)
    | OfNone is ↦ absurd (err_not_ok _ _ is)
  ]

  join_is_sequence : (v w : Value) (first second joined : List Action) → value.IsProper v → AllProper first →
      AllProper second → first ++ second ≢ [] → pair_joins a b first second ≡ Ok joined → after pair v first ≡ Ok w →
      after pair v joined ≡ after pair w second
  join_is_sequence v w first second joined pv p1 p2 ne join h =
      let passes_first = passed_unless _ _ joined join in
      let passes_both = passed_unless _ _ joined passes_first.1 in
      elim (answered a b (common_family (first ++ second)) _ _ _ _ passes_both.1) [
        | OfFirst f e o is ↦
            let all = common_all f (first ++ second) e in
            let parts = both_parts (is_of f) first second all in
            after_first f v joined (joined_of al f first second joined all is) o
            ∙ al.join_is_sequence v w first second joined pv p1 p2 ne is (sym (after_first f v first parts.0 o) ∙ h)
            ∙ sym (after_first f w second parts.1 o)
        | OfSecond f e o q is ↦
            let all = common_all f (first ++ second) e in
            let parts = both_parts (is_of f) first second all in
            after_second f v joined (joined_of bl f first second joined all is) o q
            ∙ bl.join_is_sequence v w first second joined pv p1 p2 ne is (sym (after_second f v first parts.0 o q) ∙ h)
            ∙ sym (after_second f w second parts.1 o q)
        | OfNone is ↦ absurd (err_not_ok _ _ is)
      ]

  -- two lists that have results one after the other are of one family
  results_family : (v w x : Value) (first second : List Action) → first ++ second ≢ [] → after pair v first ≡ Ok w →
      after pair w second ≡ Ok x → HadFamily (first ++ second)
  results_family v w x [] [] ne h k = absurd (ne refl)
  results_family v w x [] (y ∷ ys) ne h k = result_family w x None (y ∷ ys) k
  results_family v w x (z ∷ zs) [] ne h k =
      let had = result_family v w None (z ∷ zs) h in
      let all = list_all-append (is_of had.family) (z ∷ zs) []
      ∙ ap (λ b. b && true) (common_all had.family (z ∷ zs) had.common) in
      record { family = had.family; common = common_is had.family ((z ∷ zs) ++ []) ne all; owned = had.owned }
  results_family v w x (z ∷ zs) (y ∷ ys) ne h k =
      let f = result_family v w None (z ∷ zs) h in
      let g = result_family w x None (y ∷ ys) k in
      let first_all = common_all f.family (z ∷ zs) f.common in
      let second_all = common_all g.family (y ∷ ys) g.common in
      let same = one_family g.family f.family (kind_of w)
      (kind_kept g.family w x None (y ∷ ys) (cons_some y ys) second_all k).0
      (kind_kept f.family v w None (z ∷ zs) (cons_some z zs) first_all h).1 in
      let on_second : list_all (is_of f.family) (y ∷ ys) ≡ true =
      subst (λ (e : Family). list_all (is_of e) (y ∷ ys) ≡ true) same second_all in
      let all = list_all-append (is_of f.family) (z ∷ zs) (y ∷ ys)
      ∙ ap (λ b. b && list_all (is_of f.family) (y ∷ ys)) first_all ∙ on_second in
      record { family = f.family; common = common_is f.family ((z ∷ zs) ++ (y ∷ ys)) ne all; owned = f.owned }

  refused_join : (v w x : Value) (first second : List Action) (refusal : NoJoin) → value.IsProper v → AllProper first →
      AllProper second → first ++ second ≢ [] → pair_joins a b first second ≡ Err refusal → after pair v first ≡ Ok w →
      after pair w second ≢ Ok x
  refused_join v w x first second refusal pv p1 p2 ne join h k =
      let passes_first = no_cause_by_owner v w first pv p1 h in
      let passes_both = no_cause_by_owner w x second (proper_after v w first pv p1 h) p2 k in
      let had = results_family v w x first second ne h k in
      let past_causes = passed_none _ _ _ passes_both (passed_none _ _ _ passes_first join) in
      let parts = both_parts (is_of had.family) first second (common_all had.family (first ++ second) had.common) in
      elim had.owned [
        | inl o ↦ al.refused_join v w x first second refusal pv p1 p2 ne
            (sym (owned_first a b had.family (common_family (first ++ second)) _ _ _ had.common o) ∙ past_causes)
            (sym (after_first had.family v first parts.0 o) ∙ h) (sym (after_first had.family w second parts.1 o) ∙ k)
        | inr o ↦ bl.refused_join v w x first second refusal pv p1 p2 ne
            (sym (owned_second a b had.family (common_family (first ++ second)) _ _ _ had.common o.0 o.1) ∙ past_causes)
            (sym (after_second had.family v first parts.0 o.0 o.1) ∙ h)
            (sym (after_second had.family w second parts.1 o.0 o.1) ∙ k)
      ]

  -- what joins is one part's answer
  by_joiner : (first second joined : List Action) → pair_joins a b first second ≡ Ok joined →
      (a.joins first second ≡ Ok joined) ⊎ (b.joins first second ≡ Ok joined)
  by_joiner first second joined join =
      let passes_first = passed_unless _ _ joined join in
      let passes_both = passed_unless _ _ joined passes_first.1 in
      elim (answered a b (common_family (first ++ second)) _ _ _ _ passes_both.1) [
        | OfFirst f e k is ↦
            inl is
        | OfSecond f e k l is ↦ inr is
        | OfNone is ↦ absurd (err_not_ok _ _ is)
      ]

  pub pair_laws : AggregatorLaws (pair_meaning a b)
  pair_laws = record {
    any_order = any_order;
    mixed = mixed;
    join_is_sequence = join_is_sequence;
    refused_join = refused_join;
    regular_result =
        λ old v w partials h. elim
        (by_part old w (Some v) partials h) [
          | inl p ↦ al.regular_result old v w partials p
          | inr p ↦
              bl.regular_result old v w partials p
        ];
    regular_decides =
        λ old other v partials. λ i. by_owner a b (common_family partials) (al.regular_decides old other v partials i)
        (bl.regular_decides old other v partials i) (Err Mixed);
    kind_kept = kind_kept;
    proper_kept = proper_kept;
    join_is_partial =
        λ first second joined h. elim
        (by_joiner first second joined h) [
          | inl p ↦ al.join_is_partial first second joined p
          | inr p ↦
              bl.join_is_partial first second joined p
        ];
    join_family =
        λ f first second joined h. elim
        (by_joiner first second joined h) [
          | inl p ↦ al.join_family f first second joined p
          | inr p ↦
              bl.join_family f first second joined p
        ];
  }
