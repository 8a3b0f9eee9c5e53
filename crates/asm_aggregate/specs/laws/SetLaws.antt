-- The aggregator of sets keeps the laws.
use Rattle.std.proofs.Common.{◌≡◌, ◌≢◌, true, false, not, ◌&&◌, ◌||◌, List, [], ◌∷◌, ◌++◌, refl, sym, ap, subst, ◌∙◌}
use Rattle.std.specs.Prelude.{Ok, Err, Option, None, Some, unwrap_or, IsPermutation}
use Rattle.std.specs.List.{list_any, list_all}
use Rattle.std.proofs.lemmas.Bool.{not-false}
use Rattle.asm_element.specs.declared.element.Element.{Element}
use Rattle.asm_element.specs.Set.{ElementSet, empty, contains, same_set}
use Rattle.asm_element.specs.Value as value
use Rattle.asm_element.specs.declared.value.Value.{Value}
use Rattle.asm_element.specs.declared.value.Value.TheVariants as values
use Rattle.asm_update.specs.Action.{is_of, kind_of, AllProper}
use Rattle.asm_update.specs.Aggregator.{AggregatorLaws, NoJoin, after}
use Rattle.asm_update.specs.declared.action.Action.{Action}
use Rattle.asm_update.specs.declared.action.Family.{Family}
use Rattle.asm_update.specs.declared.action.Family.TheVariants.{Set}
use Rattle.asm_update.specs.declared.clash.Cause.TheVariants.{Mixed, Kind}
use Rattle.asm_element.specs.Tests.{ok_is}
use Rattle.asm_aggregate.specs.Families.{is_kind}
use Rattle.asm_aggregate.specs.SetMeaning.{owns_sets, members, elements_on, adds_and_removes, updated, joined_elements}
use Rattle.asm_aggregate.specs.SetMeaning.{element_on, set_actions, set_result, set_joins, set_meaning}
use Rattle.asm_aggregate.specs.declared.side.Side.{Side}
use Rattle.asm_aggregate.specs.declared.side.Side.TheVariants.{Added, Removed}
use Rattle.asm_aggregate.specs.laws.FamilyLemmas.{kind_is, all_of_one, all-IsPermutation, all_partial, joined_family}
use Rattle.asm_aggregate.specs.laws.FamilyLemmas.{nil_parts}
use Rattle.asm_aggregate.specs.laws.TableLemmas.{passed}
use Rattle.asm_aggregate.specs.laws.SetAlgebra.{elements_by-IsPermutation, elements_on-set_actions, all-set_actions}
use Rattle.asm_aggregate.specs.laws.SetAlgebra.{contains-empty, apart, not_meeting, contains_updated, one_step}
use Rattle.asm_aggregate.specs.laws.SetAlgebra.{never_both}
use Rattle.asm_aggregate.specs.laws.SetAlgebra.{unchanged, some_remain, none_from_none, updated_proper}

any_order : (old : Value) (regular : Option Value) (xs ys : List Action) → IsPermutation xs ys →
    set_result old regular ys ≡ set_result old regular xs
any_order old regular xs ys p =
    let same : (side : Side) → elements_on side ys ≡ elements_on side xs =
    λ side. elements_by-IsPermutation (element_on side) xs ys p in
    rw (all-IsPermutation (is_of Set) xs ys p, same Added, same Removed) refl

mixed : (old : Value) (regular : Option Value) (partials : List Action) →
    ((f : Family) → owns_sets f ≡ true → list_all (is_of f) partials ≡ false) →
    set_result old regular partials ≡ Err Mixed
mixed old regular partials h = let none = h Set refl in rw none refl

-- a list of set actions that adds and removes no element at once
record Fair (actions : List Action) : Type 0 where
  sets : list_all (is_of Set) actions ≡ true
  parted : adds_and_removes actions ≡ false

-- what follows for the list and the base of a group that has a result
record HadResult (old : Value) (regular : Option Value) (partials : List Action) (w : Value) : Type 0 where
  fair : Fair partials
  on_set : is_kind Set (unwrap_or regular old) ≡ true
  gave : unwrap_or regular (values.Set (updated (members (unwrap_or regular old)) partials)) ≡ w

had_result : (old w : Value) (regular : Option Value) (partials : List Action) →
    set_result old regular partials ≡ Ok w → HadResult old regular partials w
had_result old w regular partials h =
    let sets = passed _ _ _ _ h in
    let kind = passed _ _ _ _ sets.1 in
    let parted = passed _ _ _ _ kind.1 in
    let agrees = passed _ _ _ _ parted.1 in
    record {
      fair = record { sets = not-false _ sets.0; parted = parted.0 };
      on_set = not-false _ kind.0;
      gave = ok_is _ _ agrees.1;
    }

no_actions_fair : Fair []
no_actions_fair =
    record { sets = refl; parted = not_meeting empty empty (λ e. ap (λ b. b && contains empty e) (contains-empty e)) }

after_fair : (v w : Value) (actions : List Action) → after set_meaning v actions ≡ Ok w → Fair actions
after_fair v w [] h = no_actions_fair
after_fair v w (x ∷ xs) h = (had_result v w None (x ∷ xs) h).fair

after_on_set : (s : ElementSet) (actions : List Action) → Fair actions →
    after set_meaning (values.Set s) actions ≡ Ok (values.Set (updated s actions))
after_on_set s [] fair = ap (λ t. Ok (values.Set t)) (unchanged s)
after_on_set s (x ∷ xs) fair = rw (fair.sets, fair.parted) refl

after_off_set : (v : Value) (actions : List Action) → is_kind Set v ≡ false → Fair actions → actions ≢ [] →
    after set_meaning v actions ≡ Err Kind
after_off_set v [] off fair ne = absurd (ne refl)
after_off_set v (x ∷ xs) off fair ne = rw (fair.sets, off) refl

-- two lists in a row, each of them such a list
record AreFair (first second : List Action) : Type 0 where
  one : Fair first
  two : Fair second

abbrev set_joined : List Action → List Action → List Action
set_joined first second = set_actions (joined_elements first second)

joined_fair : (first second : List Action) → AreFair first second → Fair (set_joined first second)
joined_fair first second fair =
    let a1 = elements_on Added first in
    let r1 = elements_on Removed first in
    let a2 = elements_on Added second in
    let r2 = elements_on Removed second in
    let is : (side : Side) → elements_on side (set_joined first second) ≡ joined_elements first second side =
    λ side. elements_on-set_actions side (joined_elements first second) in
    record {
      sets = all-set_actions (joined_elements first second);
      parted = not_meeting (elements_on Added (set_joined first second))
          (elements_on Removed (set_joined first second)) (λ e.
          (λ i. contains (is Added i) e && contains (is Removed i) e)
          ∙ (λ i. contains_updated a1 a2 r2 e i && contains_updated r1 r2 a2 e i)
          ∙ never_both (contains a1 e) (contains r1 e) (contains a2 e) (contains r2 e)
          (apart _ _ fair.one.parted e) (apart _ _ fair.two.parted e));
    }

off_set_empty : (v w : Value) (first : List Action) → is_kind Set v ≡ false → after set_meaning v first ≡ Ok w →
    (first ≡ []) × (v ≡ w)
off_set_empty v w [] off h = (refl, ok_is _ _ h)
off_set_empty v w (x ∷ xs) off h = let on = (had_result v w None (x ∷ xs) h).on_set in cc

off_set : (v w : Value) (first second : List Action) → is_kind Set v ≡ false → AreFair first second →
    first ++ second ≢ [] → after set_meaning v first ≡ Ok w →
    after set_meaning v (set_joined first second) ≡ after set_meaning w second
off_set v w first second off fair ne h =
    let start = off_set_empty v w first off h in
    let some : second ≢ [] = λ none. ne (ap (λ xs. xs ++ second) start.0 ∙ none) in
    after_off_set v _ off (joined_fair first second fair) (some_remain first second fair.two.sets some)
    ∙ sym (ap (λ u. after set_meaning u second) (sym start.1) ∙ after_off_set v second off fair.two some)

-- the joined list leaves the members that the second leaves after the first
one_after_other : (s : ElementSet) (first second : List Action) (e : Element) →
    contains (updated s (set_joined first second)) e ≡ contains (updated (updated s first) second) e
one_after_other s first second e =
    let a1 = elements_on Added first in
    let r1 = elements_on Removed first in
    let a2 = elements_on Added second in
    let r2 = elements_on Removed second in
    let both = set_joined first second in
    let is : (side : Side) → elements_on side both ≡ joined_elements first second side =
    λ side. elements_on-set_actions side (joined_elements first second) in
    contains_updated s (elements_on Added both) (elements_on Removed both) e
    ∙ (λ i. (contains s e && not (contains (is Removed i) e)) || contains (is Added i) e)
    ∙ (λ i. (contains s e && not (contains_updated r1 r2 a2 e i)) || contains_updated a1 a2 r2 e i)
    ∙ one_step (contains s e) (contains a1 e) (contains r1 e) (contains a2 e) (contains r2 e)
    ∙ sym (contains_updated (updated s first) a2 r2 e
    ∙ (λ i. (contains_updated s a1 r1 e i && not (contains r2 e)) || contains a2 e))

on_set : (s : ElementSet) (w : Value) (first second : List Action) → AreFair first second →
    after set_meaning (values.Set s) first ≡ Ok w →
    after set_meaning (values.Set s) (set_joined first second) ≡ after set_meaning w second
on_set s w first second fair h =
    let between : values.Set (updated s first) ≡ w = ok_is _ _ (sym (after_on_set s first fair.one) ∙ h) in
    after_on_set s _ (joined_fair first second fair)
    ∙ ap (λ t. Ok (values.Set t)) (same_set _ _ (λ e. one_after_other s first second e))
    ∙ sym (ap (λ u. after set_meaning u second) (sym between) ∙ after_on_set (updated s first) second fair.two)

in_sequence : (v w : Value) (first second : List Action) → AreFair first second → first ++ second ≢ [] →
    after set_meaning v first ≡ Ok w → after set_meaning v (set_joined first second) ≡ after set_meaning w second
in_sequence (values.Set s) w first second fair ne h = on_set s w first second fair h
in_sequence v w first second fair ne h = off_set v w first second refl fair ne h

-- what follows for two lists that have a join
record HadJoin (first second list : List Action) : Type 0 where
  fair : AreFair first second
  gave : set_joined first second ≡ list

had_join : (first second list : List Action) → set_joins first second ≡ Ok list → HadJoin first second list
had_join first second list h =
    let sets1 = passed _ _ _ _ h in
    let parted1 = passed _ _ _ _ sets1.1 in
    let sets2 = passed _ _ _ _ parted1.1 in
    let parted2 = passed _ _ _ _ sets2.1 in
    record {
      fair = record {
        one = record { sets = not-false _ sets1.0; parted = parted1.0 };
        two = record { sets = not-false _ sets2.0; parted = parted2.0 };
      };
      gave = ok_is _ _ parted2.1;
    }

join_is_sequence : (v w : Value) (first second list : List Action) →
    value.IsProper v → AllProper first → AllProper second → first ++ second ≢ [] →
    set_joins first second ≡ Ok list → after set_meaning v first ≡ Ok w →
    after set_meaning v list ≡ after set_meaning w second
join_is_sequence v w first second list _ _ _ ne join h =
    let had = had_join first second list join in
    ap (after set_meaning v) (sym had.gave) ∙ in_sequence v w first second had.fair ne h

refused_join : (v w x : Value) (first second : List Action) (refusal : NoJoin) →
    value.IsProper v → AllProper first → AllProper second → first ++ second ≢ [] →
    set_joins first second ≡ Err refusal → after set_meaning v first ≡ Ok w → after set_meaning w second ≢ Ok x
refused_join v w x first second refusal _ _ _ ne join h k =
    let fair1 = after_fair v w first h in
    let fair2 = after_fair w x second k in
    let had = rw (fair1.sets, fair1.parted, fair2.sets, fair2.parted) at join in
    cc

gave_set : (old w : Value) (regular : Option Value) (partials : List Action) → HadResult old regular partials w →
    is_kind Set w ≡ true
gave_set old w (Some v) partials had = ap (is_kind Set) (sym had.gave) ∙ had.on_set
gave_set old w None partials had = ap (is_kind Set) (sym had.gave)

kind_kept : (f : Family) (old w : Value) (regular : Option Value) (partials : List Action) → partials ≢ [] →
    list_all (is_of f) partials ≡ true → set_result old regular partials ≡ Ok w →
    (kind_of (unwrap_or regular old) ≡ Some f) × (kind_of w ≡ Some f)
kind_kept f old w regular partials ne all h =
    let had = had_result old w regular partials h in
    let same : Set ≡ f = all_of_one Set f partials ne had.fair.sets all in
    (kind_is Set _ had.on_set ∙ ap Some same, kind_is Set _ (gave_set old w regular partials had) ∙ ap Some same)

proper_kept : (old w : Value) (partials : List Action) → value.IsProper old → AllProper partials →
    set_result old None partials ≡ Ok w → value.IsProper w
proper_kept (values.Set s) w partials po pp h =
    subst value.IsProper (had_result (values.Set s) w None partials h).gave (updated_proper s partials po pp)
proper_kept old w partials po pp h = let on = (had_result old w None partials h).on_set in cc

join_all : (first second list : List Action) → set_joins first second ≡ Ok list → list_all (is_of Set) list ≡ true
join_all first second list h =
    ap (list_all (is_of Set)) (sym (had_join first second list h).gave) ∙ all-set_actions (joined_elements first second)

join_family : (f : Family) (first second list : List Action) → set_joins first second ≡ Ok list →
    list_any (is_of f) list ≡ true → list_any (is_of f) (first ++ second) ≡ true
join_family f first second list join h =
    let had = had_join first second list join in
    joined_family Set f first second list (record {
      one = had.fair.one.sets;
      two = had.fair.two.sets;
      both = join_all first second list join;
    })
    (λ none. let parts = nil_parts first second none in
    sym had.gave ∙ (λ i. set_joined (parts.0 i) (parts.1 i)) ∙ none_from_none) h

pub set_laws : AggregatorLaws set_meaning
set_laws = record {
  any_order = any_order;
  mixed = mixed;
  join_is_sequence = join_is_sequence;
  refused_join = refused_join;
  regular_result = λ old v w partials h. sym (had_result old w (Some v) partials h).gave;
  regular_decides = λ old other v partials. refl;
  kind_kept = kind_kept;
  proper_kept = proper_kept;
  join_is_partial = λ first second list h. all_partial Set list (join_all first second list h);
  join_family = join_family;
}
