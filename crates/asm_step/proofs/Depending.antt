-- Where outcomes rest on what is below and build on it, and what a layer has.
use Rattle.std.proofs.Common.{◌≡◌, ◌↔◌, Bool, true, false, cond, ◌&&◌, ◌||◌, T, List, [], ◌∷◌, length, map, filter, Contains, ⊎_elim, Option, Some, None, is_some, refl, sym, ap, subst, ◌∙◌, arith, Result}
use Rattle.std.proofs.lemmas.Bool.{false≢true}
use Rattle.std.proofs.lemmas.List.Elements.{Contains-append_left, Contains-append_right, Contains-append_cases, Contains-push_cases}
use Rattle.std.specs.FinMap.Entries.{below_all}
use Rattle.std.specs.List.{AllByRecursion, list_any}
use Rattle.std.specs.List.Sorted.{IsStrictlySortedBy}
use Rattle.std.specs.Option.{option_map, option_map_or, option_or}
use Rattle.std.specs.Ordering.{eq_by_cmp, is_lt}
use Rattle.std.specs.declared.cmp.Ordering.TheVariants.{Less}
use Rattle.asm_element.specs.Ascending.{both_T, first_gone, is_less, rising_rest}
use Rattle.asm_element.specs.Place.{Place, location_cmp, location_cmp_total, same_location}
use Rattle.asm_element.specs.Tests.{itself}
use Rattle.asm_element.specs.declared.value.Value.{Value}
use Rattle.asm_update.specs.Action.{is_regular}
use Rattle.asm_update.specs.Move.{Move, actions_at, writes}
use Rattle.asm_update.specs.State.{Updates}
use Rattle.asm_update.specs.declared.action.Instruction.{Instruction}
use Rattle.asm_step.specs.Next.{AreNext, builds_next, next_at, depends_next}
use Rattle.asm_step.specs.Outcomes.{Outcome, Outcomes, builds_at, stacked, dependencies_in, depends_at, sees_at, own_of, puts_on}
use Rattle.asm_step.specs.Dependencies.{puts, AreThose}
use Rattle.asm_step.proofs.Stacked.{get-stacked, dependencies_from}
use Rattle.std.specs.Prelude.{IfOk, IsTrue, OnErr}
use Rattle.std.specs.declared.alloc.AllocError.{AllocError}
use Rattle.asm_update.specs.Aggregator.{Meaning}
use Rattle.asm_update.specs.declared.action.Action.{Action}
use Rattle.asm_step.specs.Front.{IsExtendedInPlaceAt}
use Rattle.asm_step.specs.declared.front.Growth.{Growth}
use Rattle.std.specs.FinMap as finite

-- they ascend

dependencies_below : (k : Place) (es : List (Place × Outcome)) → T (below_all location_cmp k es) →
    AllByRecursion (λ q. location_cmp k q ≡ Less) (dependencies_from es)
dependencies_below k [] h = tt
dependencies_below k (e ∷ es) h =
    let parts = both_T (is_lt (location_cmp k e.0)) (below_all location_cmp k es) h in
    by_test e.1.depends (is_less _ parts.0) (dependencies_below k es parts.1) where
      by_test : (b : Bool) → location_cmp k e.0 ≡ Less → AllByRecursion (λ q. location_cmp k q ≡ Less) (dependencies_from es) →
          AllByRecursion (λ q. location_cmp k q ≡ Less)
          (map (λ (x : Place × Outcome). x.0)
          (cond b (e ∷ filter (λ (x : Place × Outcome). x.1.depends) es) (filter (λ (x : Place × Outcome). x.1.depends) es)))
      by_test true lt rest = (lt, rest)
      by_test false lt rest = rest

ascend_from : (es : List (Place × Outcome)) → T (finite.is_sorted location_cmp es) →
    IsStrictlySortedBy location_cmp (dependencies_from es)
unfolding IsStrictlySortedBy
ascend_from [] sorted = tt
ascend_from (e ∷ es) sorted =
    let parts = both_T (below_all location_cmp e.0 es) (finite.is_sorted location_cmp es) sorted in
    by_test e.1.depends (dependencies_below e.0 es parts.0) (ascend_from es parts.1) where
      by_test : (b : Bool) → AllByRecursion (λ q. location_cmp e.0 q ≡ Less) (dependencies_from es) →
          IsStrictlySortedBy location_cmp (dependencies_from es) →
          IsStrictlySortedBy location_cmp
          (map (λ (x : Place × Outcome). x.0)
          (cond b (e ∷ filter (λ (x : Place × Outcome). x.1.depends) es) (filter (λ (x : Place × Outcome). x.1.depends) es)))
      by_test true below rest = (below, rest)
      by_test false below rest = rest

pub dependencies_ascend : (os : Outcomes) → IsStrictlySortedBy location_cmp (dependencies_in os)
dependencies_ascend os = ascend_from (finite.entries os) (finite.entries_sorted os)

-- one is among them where the outcome says so

abbrev says : Place → List (Place × Outcome) → Bool
says l es = option_map_or (λ (o : Outcome). o.depends) (finite.find location_cmp l es) false

none_contained : (l : Place) → Contains [] l → ⊥
none_contained l there = omega (arith, there.1)

one_contained : (k l : Place) → Contains (k ∷ []) l → k ≡ l
one_contained k l there = ⊎_elim (λ none. absurd (none_contained l none)) (λ is. is) (Contains-push_cases [] k l there)

itself_contained : (k : Place) → Contains (k ∷ []) k
itself_contained k = (0, omega arith, refl)

abbrev left_of : List (Place × Outcome) → List (Place × Outcome)
left_of es = filter (λ (x : Place × Outcome). x.1.depends) es

said_from : (es : List (Place × Outcome)) (l : Place) → T (finite.is_sorted location_cmp es) →
    Contains (dependencies_from es) l ↔ (says l es ≡ true)
said_from [] l sorted = ((λ there. absurd (none_contained l there)), (λ said. absurd (false≢true said)))
said_from ((k, o) ∷ es) l sorted =
    let rest = said_from es l (rising_rest location_cmp k o es sorted) in
    by_tests (eq_by_cmp location_cmp l k) o.depends refl rest where
      gone : eq_by_cmp location_cmp l k ≡ true → says l es ≡ false
      gone e =
          ap (λ (x : Option Outcome). option_map_or (λ (o : Outcome). o.depends) x false)
          (ap (λ p. finite.find location_cmp p es) (same_location l k e) ∙ first_gone location_cmp k o es sorted)

      to : (t p : Bool) → eq_by_cmp location_cmp l k ≡ t → o.depends ≡ p → (Contains (dependencies_from es) l ↔ (says l es ≡ true)) →
          Contains (map (λ (x : Place × Outcome). x.0) (cond p ((k, o) ∷ left_of es) (left_of es))) l →
          option_map_or (λ (x : Outcome). x.depends) (cond t (Some o) (finite.find location_cmp l es)) false ≡ true
      to true true e is rest there = is
      to true false e is rest there = absurd (false≢true (sym (gone e) ∙ rest.0 there))
      to false true e is rest there =
          ⊎_elim
          (λ first. absurd (false≢true (sym e ∙ ap (λ q. eq_by_cmp location_cmp q k) (sym (one_contained k l first)) ∙ itself location_cmp_total k)))
          (λ later. rest.0 later)
          (Contains-append_cases (k ∷ []) (dependencies_from es) l there)
      to false false e is rest there = rest.0 there

      from : (t p : Bool) → eq_by_cmp location_cmp l k ≡ t → o.depends ≡ p → (Contains (dependencies_from es) l ↔ (says l es ≡ true)) →
          option_map_or (λ (x : Outcome). x.depends) (cond t (Some o) (finite.find location_cmp l es)) false ≡ true →
          Contains (map (λ (x : Place × Outcome). x.0) (cond p ((k, o) ∷ left_of es) (left_of es))) l
      from true true e is rest said =
          Contains-append_left (k ∷ []) (dependencies_from es) l
          (subst (λ q. Contains (k ∷ []) q) (sym (same_location l k e)) (itself_contained k))
      from true false e is rest said = absurd (false≢true (sym is ∙ said))
      from false true e is rest said = Contains-append_right (k ∷ []) (dependencies_from es) l (rest.1 said)
      from false false e is rest said = rest.1 said

      by_tests : (t p : Bool) → eq_by_cmp location_cmp l k ≡ t → (Contains (dependencies_from es) l ↔ (says l es ≡ true)) →
          Contains (map (λ (x : Place × Outcome). x.0) (cond o.depends ((k, o) ∷ left_of es) (left_of es))) l
          ↔ (option_map_or (λ (x : Outcome). x.depends) (cond (eq_by_cmp location_cmp l k) (Some o) (finite.find location_cmp l es)) false ≡ true)
      by_tests t p e rest = (
        to (eq_by_cmp location_cmp l k) o.depends refl refl rest,
        from (eq_by_cmp location_cmp l k) o.depends refl refl rest,
      )

pub said : (os : Outcomes) (l : Place) → Contains (dependencies_in os) l ↔ (depends_at os l ≡ true)
said os l =
    subst (λ (x : Option Outcome). Contains (dependencies_in os) l ↔ (option_map_or (λ (o : Outcome). o.depends) x false ≡ true))
    (sym (finite.get-entries os l))
    (said_from (finite.entries os) l (finite.entries_sorted os))

-- where none says so, there are none

pub depends_nowhere : (os : Outcomes) → ((l : Place) → depends_at os l ≡ false) → dependencies_in os ≡ []
depends_nowhere os never = by_list (dependencies_in os) (λ l there. false≢true (sym (never l) ∙ (said os l).0 there)) where
  by_list : (ls : List Place) → ((l : Place) → Contains ls l → ⊥) → ls ≡ []
  by_list [] none = refl
  by_list (k ∷ ls) none = absurd (none k (Contains-append_left (k ∷ []) ls k (itself_contained k)))

never_depends : (os : Outcomes) → dependencies_in os ≡ [] → (l : Place) → depends_at os l ≡ false
never_depends os none l = by_test (depends_at os l) refl where
  by_test : (b : Bool) → depends_at os l ≡ b → depends_at os l ≡ false
  by_test false e = e
  by_test true e = absurd (none_contained l (subst (λ ls. Contains ls l) none ((said os l).1 e)))

-- nor are there where such outcomes are laid on such
pub laid_nowhere : (below above : Outcomes) → dependencies_in below ≡ [] → dependencies_in above ≡ [] → dependencies_in (stacked below above) ≡ []
laid_nowhere below above low high = depends_nowhere (stacked below above) (λ l.
    ap (λ (x : Option Outcome). option_map_or (λ (o : Outcome). o.depends) x false) (get-stacked below above l)
    ∙ by_outcome l (finite.get above l) (never_depends above high l)) where
      by_outcome : (l : Place) (x : Option Outcome) → option_map_or (λ (o : Outcome). o.depends) x false ≡ false →
          option_map_or (λ (o : Outcome). o.depends) (option_or x (finite.get below l)) false ≡ false
      by_outcome l (Some o) e = e
      by_outcome l None e = never_depends below low l

-- with the ones for which this test says so
pub are_dependencies : (os : Outcomes) (test : Place → Bool) → ((l : Place) → depends_at os l ≡ test l) → AreThose test (dependencies_in os)
are_dependencies os test is = record {
  ascending = dependencies_ascend os;
  same = λ l.
      let says = said os l in (λ there. sym (is l) ∙ says.0 there, λ passes. says.1 (is l ∙ passes));
}

-- whether a move puts a value is told by its actions there
puts_is : (M : Move) (l : Place) → puts M l ≡ list_any is_regular (actions_at M l)
puts_is [] l = refl
puts_is (i ∷ M) l = by_test (eq_by_cmp location_cmp i.at l) (puts_is M l) where
  by_test : (b : Bool) → puts M l ≡ list_any is_regular (actions_at M l) →
      ((b && is_regular i.action) || puts M l)
      ≡ list_any is_regular (map (λ (j : Instruction). j.action)
      (cond b (i ∷ filter (λ (j : Instruction). eq_by_cmp location_cmp j.at l) M)
      (filter (λ (j : Instruction). eq_by_cmp location_cmp j.at l) M)))
  by_test true later = ap (λ b. is_regular i.action || b) later
  by_test false later = later

-- with a next move
module _ (os own : Outcomes) (U : Updates) (C M : Move) (next : AreNext os U C M own)
    (has : (l : Place) → is_some (finite.get U l) ≡ writes M l) where
  found_next : (l : Place) → finite.get (stacked os own) l ≡ option_or (option_map (next_at os C M l) (finite.get U l)) (finite.get os l)
  found_next l = get-stacked os own l ∙ ap (λ (x : Option Outcome). option_or x (finite.get os l)) (next l)

  pub next_building : (l : Place) → builds_at (stacked os own) l ≡ builds_next os M l
  next_building l =
      ap (λ (x : Option Outcome). option_map_or (λ (o : Outcome). o.builds) x false) (found_next l)
      ∙ by_update (finite.get U l) refl where
        by_update : (u : Option Value) → finite.get U l ≡ u →
            option_map_or (λ (o : Outcome). o.builds) (option_or (option_map (next_at os C M l) u) (finite.get os l)) false
            ≡ builds_next os M l
        by_update (Some v) e =
            (λ i. cond ((sym (ap is_some e) ∙ has l) i) (cond (sym (puts_is M l) i) (builds_at os l) (sees_at os l)) (builds_at os l))
        by_update None e =
            (λ i. cond ((sym (ap is_some e) ∙ has l) i) (cond (puts M l) (builds_at os l) (sees_at os l)) (builds_at os l))

  pub next_dependencies : (l : Place) → depends_at (stacked os own) l ≡ depends_next os M l
  next_dependencies l =
      ap (λ (x : Option Outcome). option_map_or (λ (o : Outcome). o.depends) x false) (found_next l)
      ∙ by_update (finite.get U l) refl where
        by_update : (u : Option Value) → finite.get U l ≡ u →
            option_map_or (λ (o : Outcome). o.depends) (option_or (option_map (next_at os C M l) u) (finite.get os l)) false
            ≡ depends_next os M l
        by_update (Some v) e = (λ i. cond ((sym (ap is_some e) ∙ has l) i) (builds_at os l) (depends_at os l))
        by_update None e = (λ i. cond ((sym (ap is_some e) ∙ has l) i) (builds_at os l) (depends_at os l))

-- what a layer has that holds no puts, and one that does
pub as_each : (M : Move) (each own : Outcomes) → own_of M each ≡ own → length M ≡ 0 → each ≡ own
as_each [] each own is none = is
as_each (i ∷ M) each own is none = absurd (omega (arith, none))

pub as_puts : (M : Move) (each own : Outcomes) → own_of M each ≡ own → (length M ≡ 0 → ⊥) → puts_on finite.empty M ≡ own
as_puts [] each own is some = absurd (some refl)
as_puts (i ∷ M) each own is some = is

-- the same by a test of whether there are puts
pub as_each_by : (M : Move) (each own : Outcomes) (b : Bool) → own_of M each ≡ own → IsTrue b ↔ (length M ≡ 0) → b ≡ true → each ≡ own
as_each_by M each own b is empty true_b = as_each M each own is (empty.0 true_b)

pub as_puts_by : (M : Move) (each own : Outcomes) (b : Bool) (N : Move) → own_of M each ≡ own → IsTrue b ↔ (length M ≡ 0) → b ≡ false →
    N ≡ M → puts_on finite.empty N ≡ own
as_puts_by M each own b N is empty false_b same =
    ap (puts_on finite.empty) same ∙ as_puts M each own is (λ none. false≢true (sym false_b ∙ empty.1 none))

-- outcomes that go on where no puts are held
each_gone_on : (a : Meaning) (r : Result (Option Growth) AllocError) (M : Move) (each more own : Outcomes) (l : Place) (x : Action) →
    own_of M each ≡ own → length M ≡ 0 → IfOk r (IsExtendedInPlaceAt a l x each more) → OnErr r (more ≡ each) →
    IfOk r (IsExtendedInPlaceAt a l x own (own_of M more)) × OnErr r (own_of M more ≡ own)
each_gone_on a r M each more own l x is none gone same =
    let old : each ≡ own = as_each M each own is none in
    let new : more ≡ own_of M more = as_each M more (own_of M more) refl none in (
      subst (λ (m : Outcomes). IfOk r (IsExtendedInPlaceAt a l x m (own_of M more))) old
          (subst (λ (m : Outcomes). IfOk r (IsExtendedInPlaceAt a l x each m)) new gone),
      subst (λ (m : Outcomes). OnErr r (own_of M more ≡ m)) old (subst (λ (m : Outcomes). OnErr r (m ≡ each)) new same),
    )

pub each_gone_on_ok : (a : Meaning) (r : Result (Option Growth) AllocError) (M : Move) (each more own : Outcomes) (l : Place) (x : Action) →
    own_of M each ≡ own → length M ≡ 0 → IfOk r (IsExtendedInPlaceAt a l x each more) → OnErr r (more ≡ each) →
    IfOk r (IsExtendedInPlaceAt a l x own (own_of M more))
each_gone_on_ok a r M each more own l x is none gone same = (each_gone_on a r M each more own l x is none gone same).0

pub each_gone_on_err : (a : Meaning) (r : Result (Option Growth) AllocError) (M : Move) (each more own : Outcomes) (l : Place) (x : Action) →
    own_of M each ≡ own → length M ≡ 0 → IfOk r (IsExtendedInPlaceAt a l x each more) → OnErr r (more ≡ each) → OnErr r (own_of M more ≡ own)
each_gone_on_err a r M each more own l x is none gone same = (each_gone_on a r M each more own l x is none gone same).1
