-- What moves leave of a state that a program can hold is such a state again.
use Rattle.std.proofs.Common.{◌≡◌, Bool, true, false, cond, ◌||◌, T, List, [], ◌∷◌, map, refl, sym, ap}
use Rattle.std.proofs.Common.{subst, ◌∙◌, All, Option, Some, None, Result, Ok, Err, IsSomeAnd, is_some}
use Rattle.std.specs.FinMap as finite
use Rattle.std.specs.FinMap.Entries.{below_all}
use Rattle.std.specs.Ordering.{eq_by_cmp}
use Rattle.std.proofs.lemmas.Bool.{false≢true}
use Rattle.std.proofs.lemmas.Option.{same_Some}
use Rattle.std.proofs.lemmas.List.Elements.{All-nil, All-cons, All-head, All-tail}
use Rattle.asm_element.specs.Place.{Place, location_cmp, location_cmp_total, same_location}
use Rattle.asm_element.specs.Place as place
use Rattle.asm_element.specs.Ascending.{both_T, none_below}
use Rattle.asm_element.specs.Tests.{itself}
use Rattle.asm_element.specs.Value as value
use Rattle.asm_element.specs.declared.value.Value.{Value}
use Rattle.asm_update.specs.Action.{IsProperInstruction}
use Rattle.asm_update.specs.Aggregator.{Meaning, AggregatorLaws}
use Rattle.asm_update.specs.Fire.{result_at, fire, state_or, state_of, IsUpdateSet}
use Rattle.asm_update.specs.Move.{Move, actions_at, writes}
use Rattle.asm_update.specs.State.{State, Updates, val, overwrite}
use Rattle.asm_update.specs.State as state
use Rattle.asm_update.specs.declared.clash.Clash.{Clash}
use Rattle.asm_storage.proofs.ProperResults.{result_proper}
use Rattle.asm_aggregate.proofs.Sequence.{proper_value, proper_actions}
use Rattle.asm_update.proofs.FireLemmas.{stored_or, get-overwrite, has_updated, fired_updates}

-- what is kept at a location
abbrev IsKept : Place → Value → Type 0
IsKept q v = place.IsProper q × value.IsProper v × (value.is_undef v ≡ false)

-- what holds of each entry that is found holds of each
record EachKept (es : List (Place × Value)) : Type 0 where
  locations : All place.IsProper (map (λ (e : Place × Value). e.0) es)
  values : All value.IsProper (map (λ (e : Place × Value). e.1) es)
  no_undef : All (λ v. value.is_undef v ≡ false) (map (λ (e : Place × Value). e.1) es)

later_found : (e : Place × Value) (es : List (Place × Value)) → T (below_all location_cmp e.0 es) →
    ((q : Place) (v : Value) → finite.find location_cmp q (e ∷ es) ≡ Some v → IsKept q v) →
    (q : Place) (v : Value) → finite.find location_cmp q es ≡ Some v → (b : Bool) → eq_by_cmp location_cmp q e.0 ≡ b →
    IsKept q v
later_found e es below found q v is true same =
    let none = ap (λ p. finite.find location_cmp p es) (same_location q e.0 same) ∙ none_below location_cmp e.0 es below in
    absurd (let bad : ◌≡◌ {A = Option Value} None (Some v) = sym none ∙ is in cc)
later_found e es below found q v is false same = found q v
    (ap (λ b. cond b (Some e.1) (finite.find location_cmp q es)) same ∙ is)

each_found : (es : List (Place × Value)) → T (finite.is_sorted location_cmp es) →
    ((q : Place) (v : Value) → finite.find location_cmp q es ≡ Some v → IsKept q v) → EachKept es
each_found [] sorted found =
    record {
      locations = All-nil place.IsProper;
      values = All-nil value.IsProper;
      no_undef = All-nil
          (λ v. value.is_undef v ≡ false);
    }
each_found (e ∷ es) sorted found =
    let mine = found e.0 e.1
    (ap (λ b. cond b (Some e.1) (finite.find location_cmp e.0 es)) (itself location_cmp_total e.0)) in
    let rest = each_found es (both_T _ _ sorted).1
    (λ q v is. later_found e es (both_T _ _ sorted).0 found q v is (eq_by_cmp location_cmp q e.0) refl) in
    record {
      locations = All-cons place.IsProper e.0 _ mine.0 rest.locations;
      values = All-cons value.IsProper e.1 _ mine.1 rest.values;
      no_undef = All-cons (λ v. value.is_undef v ≡ false) e.1 _ mine.2 rest.no_undef;
    }

found_kept : (es : List (Place × Value)) → EachKept es → (q : Place) (v : Value) →
    finite.find location_cmp q es ≡ Some v → IsKept q v
found_kept [] each q v is = absurd cc
found_kept (e ∷ es) each q v is =
    by_test (eq_by_cmp location_cmp q e.0) refl is
    (found_kept es (record {
      locations = All-tail place.IsProper e.0 _ each.locations;
      values = All-tail value.IsProper e.1 _ each.values;
      no_undef = All-tail (λ w. value.is_undef w ≡ false) e.1 _ each.no_undef;
    }) q v) where
      by_test : (b : Bool) → eq_by_cmp location_cmp q e.0 ≡ b →
          cond b (Some e.1) (finite.find location_cmp q es) ≡ Some v →
          (finite.find location_cmp q es ≡ Some v → IsKept q v) → IsKept q v
      by_test true same is later =
          let here : e.1 ≡ v = same_Some _ _ is in (
            subst place.IsProper (sym (same_location q e.0 same)) (All-head place.IsProper e.0 _ each.locations),
            subst value.IsProper here (All-head value.IsProper e.1 _ each.values),
            subst (λ w. value.is_undef w ≡ false) here (All-head (λ w. value.is_undef w ≡ false) e.1 _ each.no_undef),
          )
      by_test false same is later = later is

-- a state is proper where all that it holds is
proper_from : (A : State) → ((q : Place) (v : Value) → finite.get A q ≡ Some v → IsKept q v) → state.IsProper A
proper_from A held =
    let each = each_found (finite.entries A) (finite.entries_sorted A)
    (λ q v is. held q v (finite.get-entries A q ∙ is)) in
    record { locations = each.locations; values = each.values; no_undef = each.no_undef }

proper_held : (A : State) → state.IsProper A → (q : Place) (v : Value) → finite.get A q ≡ Some v → IsKept q v
proper_held A proper q v is =
    found_kept (finite.entries A)
    (record { locations = proper.locations; values = proper.values; no_undef = proper.no_undef }) q v
    (sym (finite.get-entries A q) ∙ is)

-- a location that a proper move writes is proper
written_proper : (M : Move) (l : Place) → All IsProperInstruction M → writes M l ≡ true → place.IsProper l
written_proper [] l h is = absurd (false≢true is)
written_proper (x ∷ M) l h is = by_test (eq_by_cmp location_cmp x.at l) refl is
    (written_proper M l (All-tail IsProperInstruction x M h)) where
      by_test : (b : Bool) → eq_by_cmp location_cmp x.at l ≡ b → (b || writes M l) ≡ true →
          (writes M l ≡ true → place.IsProper l) → place.IsProper l
      by_test true same is later = subst place.IsProper (same_location x.at l same)
          (All-head IsProperInstruction x M h).0
      by_test false same is later = later is

module _ {a : Meaning} (laws : AggregatorLaws a) where
  fired_proper : (A B : State) (M : Move) → state.IsProper A → All IsProperInstruction M → fire a.part A M ≡ Ok B →
      state.IsProper B
  fired_proper A B M pA pM is = proper_from B held where
    updates : (U : Updates) × IsUpdateSet a.part (val A) M U × (overwrite A U ≡ B)
    updates = fired_updates a.part A M B is

    got : (q : Place) → finite.get B q ≡ stored_or (finite.get updates.0 q) (finite.get A q)
    got q = ap (λ (C : State). finite.get C q) (sym updates.2) ∙ get-overwrite A updates.0 q

    by_undef : (q : Place) (u v : Value) (b : Bool) → value.is_undef u ≡ b → cond b None (Some u) ≡ Some v →
        place.IsProper q → value.IsProper u → IsKept q v
    by_undef q u v true e is pq pu = absurd cc
    by_undef q u v false e is pq pu =
        let same : u ≡ v = same_Some u v is in
        (pq, subst value.IsProper same pu, subst (λ w. value.is_undef w ≡ false) same e)

    by_update : (q : Place) (v : Value) (o : Option Value) → finite.get updates.0 q ≡ o →
        stored_or o (finite.get A q) ≡ Some v → IsKept q v
    by_update q v None e is = proper_held A pA q v is
    by_update q v (Some u) e is =
        let there : writes M q ≡ true = sym (has_updated a.part (val A) M updates.0 updates.1 q) ∙ ap is_some e in
        let gives : result_at a.part (val A) M q ≡ Ok u =
        subst (λ (o : Option Value). IsSomeAnd o (λ w. result_at a.part (val A) M q ≡ Ok w)) e
        (updates.1.written q there) in
        by_undef q u v (value.is_undef u) refl is (written_proper M q pM there)
        (result_proper laws (val A q) u (actions_at M q) (proper_value A q pA) (proper_actions M q pM) gives)

    held : (q : Place) (v : Value) → finite.get B q ≡ Some v → IsKept q v
    held q v is = by_update q v (finite.get updates.0 q) refl (sym (got q) ∙ is)

  -- the state that proper moves leave is proper
  pub moves_proper : (A : State) (q : List Move) → state.IsProper A → All (All IsProperInstruction) q →
      state.IsProper (state_of a.part A q)
  moves_proper A [] pA pq = pA
  moves_proper A (M ∷ q) pA pq =
      moves_proper (state_or A (fire a.part A M)) q (by_answer (fire a.part A M) refl)
      (All-tail (All IsProperInstruction) M q pq) where
        by_answer : (r : Result State Clash) → fire a.part A M ≡ r → state.IsProper (state_or A r)
        by_answer (Ok B) e = fired_proper A B M pA (All-head (All IsProperInstruction) M q pq) e
        by_answer (Err c) e = pA
