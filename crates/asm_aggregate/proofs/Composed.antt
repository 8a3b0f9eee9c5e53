-- The composition at one location, from the laws of the aggregator alone.
use Rattle.std.proofs.Common.{◌≡◌, ◌≢◌, Bool, true, false, cond, List, [], ◌∷◌, ◌++◌, refl, sym, ap, ◌∙◌}
use Rattle.std.specs.Prelude.{Ok, Err, None, Some, filter}
use Rattle.std.specs.List.{list_all, filter_map}
use Rattle.std.proofs.lemmas.List.Elements.{All-nil}
use Rattle.asm_element.specs.Tests.{both, ok_is}
use Rattle.asm_element.specs.Value as value
use Rattle.asm_element.specs.Value.{undef}
use Rattle.asm_element.specs.declared.value.Value.{Value}
use Rattle.asm_update.specs.Action.{is_partial, regular_value, AllProper}
use Rattle.asm_update.specs.Aggregator.{Meaning, AggregatorLaws, Joined, NoJoin, Refused, after}
use Rattle.asm_update.specs.Fire.{Part, GroupResult, first, group_result}
use Rattle.asm_update.specs.Move.{are_different}
use Rattle.asm_update.specs.declared.action.Action.{Action}
use Rattle.asm_update.specs.declared.action.Action.TheVariants.{Regular}
use Rattle.asm_update.specs.declared.clash.Cause.TheVariants.{Two}
use Rattle.asm_update.proofs.ActionLemmas.{IsRegular, IsPartial, kinds, partial_none}
use Rattle.asm_aggregate.specs.Bundle.{bundle_of, bundle_result}
use Rattle.asm_aggregate.specs.Compose.{cause_of, alone_clash, clash_on_any, as_regular, composed, gives}
use Rattle.asm_aggregate.specs.laws.PairLaws.{passed_unless, refused_none}
use Rattle.asm_aggregate.specs.PairMeaning.{unless}
use Rattle.asm_aggregate.proofs.Bundles.{bundle_from}

abbrev pub values_of : List Action → List Value
values_of G = filter_map regular_value G

abbrev pub partials_of : List Action → List Action
partials_of G = filter is_partial G

partials_alone : (xs : List Action) → values_of xs ≡ [] → partials_of xs ≡ xs
partials_alone [] h = refl
partials_alone (x ∷ xs) h = elim (kinds x) [
  | IsRegular v e ↦ let some = rw e at h in cc
  | IsPartial p n ↦ let none = rw n at h in rw p (ap (λ ys. x ∷ ys) (partials_alone xs none))
]

no_regulars : (xs : List Action) → list_all is_partial xs ≡ true → values_of xs ≡ []
no_regulars [] h = refl
no_regulars (x ∷ xs) h =
    let all = both (is_partial x) (list_all is_partial xs) h in
    rw (partial_none x all.0) (no_regulars xs all.1)

gives_partials : (a : Meaning) (v : Value) (xs : List Action) → values_of xs ≡ [] → gives a.part v xs ≡ after a v xs
gives_partials a v [] h = refl
gives_partials a v (x ∷ xs) h =
    ap (λ vs. bundle_result a.part v (bundle_from vs (partials_of (x ∷ xs)))) h
    ∙ ap (λ ps. a.part v None ps) (partials_alone (x ∷ xs) h)

pub gives_regulars : (part : Part) (v s : Value) (ss : List Value) (xs : List Action) → values_of xs ≡ s ∷ ss →
    gives part v xs ≡ bundle_result part v (bundle_from (s ∷ ss) (partials_of xs))
gives_regulars part v s ss [] h = cc
gives_regulars part v s ss (x ∷ xs) h = ap (λ vs. bundle_result part v (bundle_from vs (partials_of (x ∷ xs)))) h

no_clash : (o : GroupResult) → cause_of o ≡ None → (v : Value) × (o ≡ Ok v)
no_clash (Ok v) h = (v, refl)
no_clash (Err cause) h = cc

module _ {a : Meaning} (laws : AggregatorLaws a) where
  -- actions with a regular value and no clash of their own give that value, whatever the old one
  gives_it : (v s : Value) (ss : List Value) (ps : List Action) → clash_on_any a (bundle_from (s ∷ ss) ps) ≡ None →
      bundle_result a.part v (bundle_from (s ∷ ss) ps) ≡ Ok s
  gives_it v s ss ps h = by_test (are_different (s ∷ ss)) ps h where
    by_test : (d : Bool) (ps : List Action) →
        cause_of (cond d (Err Two) (group_result a.part undef (Some s) ps)) ≡ None →
        cond d (Err Two) (group_result a.part v (Some s) ps) ≡ Ok s
    by_test true ps h = cc
    by_test false [] h = refl
    by_test false (p ∷ ps) h =
        let had = no_clash _ h in
        laws.regular_decides v undef s (p ∷ ps) ∙ had.1
        ∙ ap (λ u. Ok u) (laws.regular_result undef s had.0 (p ∷ ps) had.1)

  -- and where they give a value, that is the regular one, and they have no clash of their own
  gave_it : (v w s : Value) (ss : List Value) (ps : List Action) →
      bundle_result a.part v (bundle_from (s ∷ ss) ps) ≡ Ok w → (w ≡ s) × (clash_on_any a (bundle_from (s ∷ ss) ps) ≡ None)
  gave_it v w s ss ps h = by_test (are_different (s ∷ ss)) ps h where
    by_test : (d : Bool) (ps : List Action) → cond d (Err Two) (group_result a.part v (Some s) ps) ≡ Ok w →
        (w ≡ s) × (cause_of (cond d (Err Two) (group_result a.part undef (Some s) ps)) ≡ None)
    by_test true ps h = cc
    by_test false [] h = (sym (ok_is _ _ h), refl)
    by_test false (p ∷ ps) h =
        (laws.regular_result v s w (p ∷ ps) h, ap cause_of (laws.regular_decides undef v s (p ∷ ps) ∙ h))

  abbrev composed_from : List Value → List Action → List Value → List Action → Joined
  composed_from vs ps ss qs = composed a (bundle_from vs ps) (bundle_from ss qs)

  -- by whether the two lists have regular values
  composed_gives : (v w : Value) (first second joined : List Action) (vs ss : List Value) → values_of first ≡ vs →
      values_of second ≡ ss →
      value.IsProper v → AllProper first → AllProper second → first ++ second ≢ [] →
      composed_from vs (partials_of first) ss (partials_of second) ≡ Ok joined → gives a.part v first ≡ Ok w →
      gives a.part v joined ≡ gives a.part w second
  composed_gives v w first second joined vs (s ∷ ss) e k pv p1 p2 ne join h =
      let past = passed_unless _ _ joined join in
      let second_passes = passed_unless _ _ joined past.1 in
      ap (gives a.part v) (sym (ok_is _ _ second_passes.1))
      ∙ sym (gives_regulars a.part w s ss second k ∙ gives_it w s ss (partials_of second) second_passes.0)
  composed_gives v w first second joined (u ∷ us) [] e k pv p1 p2 ne join h =
      let past = passed_unless _ _ joined join in
      let was = (gave_it v w u us (partials_of first) (sym (gives_regulars a.part v u us first e) ∙ h)).0 in
      at (after a u (partials_of second)) refl past.1 ∙ ap (after a u) (partials_alone second k)
      ∙ sym (gives_partials a w second k ∙ ap (λ x. after a x second) was) where
        at : (o : GroupResult) → after a u (partials_of second) ≡ o → as_regular o ≡ Ok joined →
            gives a.part v joined ≡ after a u (partials_of second)
        at (Ok r) i join = ap (gives a.part v) (sym (ok_is _ _ join)) ∙ sym i
        at (Err cause) i join = cc
  composed_gives v w first second joined [] [] e k pv p1 p2 ne join h =
      let past = passed_unless _ _ joined join in
      let joins : a.joins first second ≡ Ok joined =
      (λ i. a.joins (sym (partials_alone first e) i) (sym (partials_alone second k) i)) ∙ past.1 in
      gives_partials a v joined (no_regulars joined (laws.join_is_partial first second joined joins))
      ∙ laws.join_is_sequence v w first second joined pv p1 p2 ne joins (sym (gives_partials a v first e) ∙ h)
      ∙ sym (gives_partials a w second k)

  -- where the first has a result, the composed list gives what the second gives after it
  pub composed_is_sequence : (v w : Value) (first second joined : List Action) → value.IsProper v → AllProper first →
      AllProper second → first ++ second ≢ [] →
      composed a (bundle_of first) (bundle_of second) ≡ Ok joined → gives a.part v first ≡ Ok w →
      gives a.part v joined ≡ gives a.part w second
  composed_is_sequence v w first second joined pv p1 p2 ne join h =
      composed_gives v w first second joined (values_of first) (values_of second) refl refl pv p1 p2 ne join h

  -- a list that has a result on a proper value has no clash of its own
  no_own : (v w : Value) (xs : List Action) (vs : List Value) → values_of xs ≡ vs → value.IsProper v → AllProper xs →
      gives a.part v xs ≡ Ok w → clash_on_any a (bundle_from vs (partials_of xs)) ≡ None
  no_own v w xs (s ∷ ss) e pv px h = (gave_it v w s ss (partials_of xs) (sym (gives_regulars a.part v s ss xs e) ∙ h)).1
  no_own v w xs [] e pv px h =
      ap (alone_clash a) (partials_alone xs e) ∙ alone xs px (sym (gives_partials a v xs e) ∙ h) where
        alone : (ys : List Action) → AllProper ys → after a v ys ≡ Ok w → alone_clash a ys ≡ None
        alone [] py k = refl
        alone (y ∷ ys) py k =
            refused_none _
            (λ cause i. laws.refused_join v w w (y ∷ ys) [] (Refused cause) pv py (All-nil _) (λ j. cc) i k refl)

  refused_by : (v w x : Value) (first second : List Action) (refusal : NoJoin) (vs ss : List Value) →
      values_of first ≡ vs → values_of second ≡ ss →
      value.IsProper v → AllProper first → AllProper second → first ++ second ≢ [] →
      composed_from vs (partials_of first) ss (partials_of second) ≡ Err refusal → gives a.part v first ≡ Ok w →
      gives a.part w second ≢ Ok x
  refused_by v w x first second refusal vs (s ∷ ss) e k pv p1 p2 ne join h i =
      let own1 = no_own v w first vs e pv p1 h in
      let no_clash = (gave_it w x s ss (partials_of second) (sym (gives_regulars a.part w s ss second k) ∙ i)).1 in
      let given : Ok (Regular s ∷ []) ≡ Err refusal =
      sym ((λ j. unless (own1 j)
      (unless (clash_on_any a (bundle_from (s ∷ ss) (partials_of second))) (Ok (Regular s ∷ []))))
      ∙ (λ j. unless (no_clash j) (Ok (Regular s ∷ [])))) ∙ join in cc
  refused_by v w x first second refusal (u ∷ us) [] e k pv p1 p2 ne join h i =
      let own1 = no_own v w first (u ∷ us) e pv p1 h in
      let was = (gave_it v w u us (partials_of first) (sym (gives_regulars a.part v u us first e) ∙ h)).0 in
      let there : after a u (partials_of second) ≡ Ok x =
      ap (after a u) (partials_alone second k) ∙ ap (λ y. after a y second) (sym was)
      ∙ sym (gives_partials a w second k) ∙ i in
      let given : Ok (Regular x ∷ []) ≡ Err refusal =
      sym ((λ j. unless (own1 j) (as_regular (after a u (partials_of second)))) ∙ ap as_regular there) ∙ join in cc
  refused_by v w x first second refusal [] [] e k pv p1 p2 ne join h i =
      let own1 = no_own v w first [] e pv p1 h in
      laws.refused_join v w x first second refusal pv p1 p2 ne
      ((λ j. a.joins (sym (partials_alone first e) j) (sym (partials_alone second k) j))
      ∙ sym (λ j. unless (own1 j) (a.joins (partials_of first) (partials_of second))) ∙ join)
      (sym (gives_partials a v first e) ∙ h) (sym (gives_partials a w second k) ∙ i)

  -- where no list is composed, no value lets the first and then the second have results
  pub refused_is_clash : (v w x : Value) (first second : List Action) (refusal : NoJoin) → value.IsProper v →
      AllProper first → AllProper second → first ++ second ≢ [] →
      composed a (bundle_of first) (bundle_of second) ≡ Err refusal → gives a.part v first ≡ Ok w →
      gives a.part w second ≢ Ok x
  refused_is_clash v w x first second refusal pv p1 p2 ne join h i =
      refused_by v w x first second refusal (values_of first) (values_of second) refl refl pv p1 p2 ne join h i
