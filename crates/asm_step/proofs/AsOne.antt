-- The one move of moves in turn, made move by move: what it keeps, and where it puts a value.
use Rattle.std.proofs.Common.{◌≡◌, ◌∙◌, ◌⊎◌, ◌&&◌, ◌||◌, Bool, true, false, cond, not, inl, inr, List, [], ◌∷◌, ◌++◌, filter, map, Option, Some, None, is_some, Ok, Err, refl, ap, subst, sym}
use Rattle.std.specs.List.{filter_map, list_any}
use Rattle.std.specs.Option.{option_map_or}
use Rattle.std.specs.Ordering.{eq_by_cmp}
use Rattle.std.proofs.lemmas.Bool.{false≢true}
use Rattle.std.proofs.lemmas.List.Folds.{list_any-append}
use Rattle.asm_aggregate.proofs.Grouped.{unwritten}
use Rattle.asm_aggregate.proofs.Sequence.{all_apart, in_turn_lists}
use Rattle.asm_update.proofs.FireLemmas.{in_locations}
use Rattle.std.specs.FinMap as finite
use Rattle.asm_aggregate.specs.Bundle.{bundle_of}
use Rattle.asm_aggregate.specs.Compose.{IsSequence, as_regular, clash_on_any, composed, composed_at}
use Rattle.asm_aggregate.specs.PairMeaning.{unless}
use Rattle.asm_element.specs.Place.{Place, location_cmp}
use Rattle.asm_element.specs.Tests.{ok_is, or_true}
use Rattle.asm_element.specs.declared.value.Value.{Value}
use Rattle.asm_step.proofs.Agreeing.{does_next, does_one}
use Rattle.asm_step.proofs.Continued.{writes_by}
use Rattle.asm_step.proofs.Pushed.{continued_alone, keeps_one, keeps_push, sees-push, writes-push}
use Rattle.asm_step.proofs.Standing.{each_next, each_one}
use Rattle.asm_step.specs.Answer.{continued, continued_at}
use Rattle.asm_step.specs.InTurn.{IsSequenceAt}
use Rattle.asm_step.specs.Dependencies.{one_writes, puts, sees_below}
use Rattle.asm_step.specs.Outcomes.{acts}
use Rattle.asm_update.specs.Action.{is_regular}
use Rattle.asm_update.specs.Aggregator.{Joined, Meaning, after}
use Rattle.asm_update.specs.Fire.{GroupResult, Part, first, locations, written}
use Rattle.asm_update.specs.Move.{Move, actions_at, writes}
use Rattle.asm_update.specs.Action.{regular_value}
use Rattle.asm_update.specs.declared.action.Action.{Action}
use Rattle.asm_update.specs.declared.action.Instruction.{Instruction}
use Rattle.asm_update.specs.declared.clash.Cause.{Cause}
use Rattle.asm_update.specs.declared.action.Action.TheVariants as action
use Rattle.asm_step.specs.Popped.{IsOneMove}

-- ---- what is put

-- whether a move puts a value is told by its actions there
puts_is : (M : Move) (l : Place) → puts M l ≡ list_any is_regular (actions_at M l)
puts_is [] l = refl
puts_is (i ∷ M) l = by_test (eq_by_cmp location_cmp i.at l) (puts_is M l) where
  by_test : (b : Bool) → puts M l ≡ list_any is_regular (actions_at M l) →
      ((b && is_regular i.action) || puts M l)
      ≡ list_any is_regular (map (λ (j : Instruction). j.action)
      (cond b (i ∷ filter (λ (j : Instruction). eq_by_cmp location_cmp j.at l) M)
      (filter (λ (j : Instruction). eq_by_cmp location_cmp j.at l) M)))
  by_test true later = ap (λ b. is_regular i.action || b) later
  by_test false later = later

-- what puts writes
pub put_written : (M : Move) (l : Place) → puts M l ≡ true → writes M l ≡ true
put_written M l is = writes_by M l ∙ by_list (actions_at M l) (sym (puts_is M l) ∙ is) where
  by_list : (xs : List Action) → list_any is_regular xs ≡ true → acts xs ≡ true
  by_list [] h = absurd (false≢true h)
  by_list (x ∷ xs) h = refl

-- actions with a regular one have a regular value
regular_there : (xs : List Action) → list_any is_regular xs ≡ true → is_some (first (filter_map regular_value xs)) ≡ true
regular_there [] h = absurd (false≢true h)
regular_there (action.Regular v ∷ xs) h = refl
regular_there (action.SetAdd e ∷ xs) h = regular_there xs h
regular_there (action.SetRemove e ∷ xs) h = regular_there xs h
regular_there (action.BagAdd e n ∷ xs) h = regular_there xs h
regular_there (action.BagRemove e n ∷ xs) h = regular_there xs h
regular_there (action.Increment n ∷ xs) h = regular_there xs h

ok_of_unless : (o : Option Cause) (j : Joined) (zs : List Action) → unless o j ≡ Ok zs → j ≡ Ok zs
ok_of_unless (Some c) j zs is = cc
ok_of_unless None j zs is = is

put_alone : (v : Value) (zs : List Action) → ◌≡◌ {A = Joined} (Ok (action.Regular v ∷ [])) (Ok zs) → list_any is_regular zs ≡ true
put_alone v zs is = subst (λ (xs : List Action). list_any is_regular xs ≡ true) (ok_is (action.Regular v ∷ []) zs is) refl

as_regular_put : (r : GroupResult) (zs : List Action) → as_regular r ≡ Ok zs → list_any is_regular zs ≡ true
as_regular_put (Ok v) zs is = put_alone v zs is
as_regular_put (Err c) zs is = cc

-- what is composed with a regular update is one
composed_put : (a : Meaning) (xs ys zs : List Action) → composed a (bundle_of xs) (bundle_of ys) ≡ Ok zs →
    (list_any is_regular xs ≡ true) ⊎ (list_any is_regular ys ≡ true) → list_any is_regular zs ≡ true
composed_put a xs ys zs is one =
    by_regular (bundle_of ys).regular (bundle_of xs).regular (some one)
    (ok_of_unless (clash_on_any a (bundle_of xs))
    (option_map_or (λ w. unless (clash_on_any a (bundle_of ys)) (Ok (action.Regular w ∷ []))) (bundle_of ys).regular
    (option_map_or (λ v. as_regular (after a v (bundle_of ys).partials)) (bundle_of xs).regular
    (a.joins (bundle_of xs).partials (bundle_of ys).partials))) zs is) where
      some : (list_any is_regular xs ≡ true) ⊎ (list_any is_regular ys ≡ true) →
          (is_some (bundle_of xs).regular ≡ true) ⊎ (is_some (bundle_of ys).regular ≡ true)
      some (inl h) = inl (regular_there xs h)
      some (inr h) = inr (regular_there ys h)

      by_regular : (s f : Option Value) → (is_some f ≡ true) ⊎ (is_some s ≡ true) →
          option_map_or (λ w. unless (clash_on_any a (bundle_of ys)) (Ok (action.Regular w ∷ []))) s
          (option_map_or (λ v. as_regular (after a v (bundle_of ys).partials)) f (a.joins (bundle_of xs).partials (bundle_of ys).partials))
          ≡ Ok zs → list_any is_regular zs ≡ true
      by_regular (Some w) f h is = put_alone w zs (ok_of_unless (clash_on_any a (bundle_of ys)) (Ok (action.Regular w ∷ [])) zs is)
      by_regular None (Some v) h is = as_regular_put (after a v (bundle_of ys).partials) zs is
      by_regular None None (inl h) is = absurd (false≢true h)
      by_regular None None (inr h) is = absurd (false≢true h)

-- ---- a first move, and a next one

put_first : (M : Move) (l : Place) → sees_below (M ∷ []) l ≡ false → puts M l ≡ true
put_first M l = by_tests (writes M l) (puts M l) where
  by_tests : (w p : Bool) → cond w (not p) true ≡ false → p ≡ true
  by_tests true true h = refl
  by_tests true false h = absurd (false≢true (sym h))
  by_tests false p h = absurd (false≢true (sym h))

pub one_of_one : (part : Part) (M : Move) → IsOneMove part (M ∷ []) M
one_of_one part M = record {
  does = does_one part M;
  each = each_one part M;
  keeps = keeps_one M;
  put = put_first M;
  only = λ l is. ap (λ b. b || false) is;
}

never : (b : Bool) → (b && false) ≡ false
never true = refl
never false = refl

module _ (a : Meaning) (D M C : Move) (is : continued a D M ≡ Ok C) where
  -- at each location that one of the two writes it has what does what they do
  goes : (l : Place) → writes M l ≡ true → continued_at a D M l ≡ Ok (actions_at C l)
  goes l m =
      (in_turn_lists (continued_at a D M) (locations (D ++ M)) C l
      (all_apart (finite.entries (written (D ++ M))) (finite.entries_sorted (written (D ++ M)))) is).0
      (in_locations (D ++ M) l ∙ list_any-append (λ (i : Instruction). eq_by_cmp location_cmp i.at l) D M
      ∙ ap (λ b. writes D l || b) m ∙ or_true (writes D l))

  -- where not both write, it has what the one that writes does
  alone : (l : Place) → (writes M l && writes D l) ≡ false → actions_at C l ≡ cond (writes M l) (actions_at M l) (actions_at D l)
  alone = continued_alone a D M C is

  -- where one of the two that write puts a value, it puts one
  put_there : (l : Place) → writes M l ≡ true → writes D l ≡ true → (puts D l ≡ true) ⊎ (puts M l ≡ true) → puts C l ≡ true
  put_there l m d one =
      puts_is C l
      ∙ composed_put a (actions_at D l) (actions_at M l) (actions_at C l)
      (sym (λ i. cond (m i) (cond (d i) (composed_at a D M l) (Ok (actions_at M l))) (Ok (actions_at D l))) ∙ goes l m) (told one) where
        told : (puts D l ≡ true) ⊎ (puts M l ≡ true) →
            (list_any is_regular (actions_at D l) ≡ true) ⊎ (list_any is_regular (actions_at M l) ≡ true)
        told (inl h) = inl (sym (puts_is D l) ∙ h)
        told (inr h) = inr (sym (puts_is M l) ∙ h)

  put_next : (Ms : List Move) → ((l : Place) → sees_below Ms l ≡ false → puts D l ≡ true) →
      ((l : Place) → writes D l ≡ true → one_writes Ms l ≡ true) → (l : Place) → sees_below (Ms ++ M ∷ []) l ≡ false → puts C l ≡ true
  put_next Ms put only l unseen = by_test (one_writes Ms l) refl (sym (sees-push Ms M l) ∙ unseen) where
    earlier : (m : Bool) → writes M l ≡ m → puts D l ≡ true → puts C l ≡ true
    earlier true m p = put_there l m (put_written D l p) (inl p)
    earlier false m p =
        puts_is C l
        ∙ ap (list_any is_regular) (alone l (ap (λ b. b && writes D l) m) ∙ ap (λ b. cond b (actions_at M l) (actions_at D l)) m)
        ∙ sym (puts_is D l) ∙ p

    unwritten_before : (d : Bool) → writes D l ≡ d → one_writes Ms l ≡ false → d ≡ false
    unwritten_before true w o = absurd (false≢true (sym o ∙ only l w))
    unwritten_before false w o = refl

    later : one_writes Ms l ≡ false → puts M l ≡ true → puts C l ≡ true
    later o p =
        let m : writes M l ≡ true = put_written M l p in
        let d : writes D l ≡ false = unwritten_before (writes D l) refl o in
        puts_is C l
        ∙ ap (list_any is_regular) (alone l (ap (λ b. writes M l && b) d ∙ never (writes M l)) ∙ ap (λ b. cond b (actions_at M l) (actions_at D l)) m)
        ∙ sym (puts_is M l) ∙ p

    by_test : (o : Bool) → one_writes Ms l ≡ o → cond o (sees_below Ms l) (cond (writes M l) (not (puts M l)) true) ≡ false →
        puts C l ≡ true
    by_test true o h = earlier (writes M l) refl (put l h)
    by_test false o h = later o (put_first M l h)

  only_next : (Ms : List Move) → ((l : Place) → writes D l ≡ true → one_writes Ms l ≡ true) →
      (l : Place) → writes C l ≡ true → one_writes (Ms ++ M ∷ []) l ≡ true
  only_next Ms only l w = writes-push Ms M l ∙ by_tests (writes M l) (writes D l) refl refl where
    by_tests : (m d : Bool) → writes M l ≡ m → writes D l ≡ d → (one_writes Ms l || writes M l) ≡ true
    by_tests true d m e = ap (λ b. one_writes Ms l || b) m ∙ or_true (one_writes Ms l)
    by_tests false true m d = ap (λ b. b || writes M l) (only l d)
    by_tests false false m d =
        let none : actions_at C l ≡ [] =
        alone l (ap (λ b. b && writes D l) m) ∙ ap (λ b. cond b (actions_at M l) (actions_at D l)) m ∙ unwritten D l d in
        absurd (false≢true (sym (writes_by C l ∙ ap acts none) ∙ w))

pub one_next : (a : Meaning) (Ms : List Move) (D M C : Move) → IsOneMove a.part Ms D → continued a D M ≡ Ok C →
    IsSequence a.part D M C → IsSequenceAt a.part D M C → IsOneMove a.part (Ms ++ M ∷ []) C
one_next a Ms D M C one is turn each = record {
  does = does_next a.part Ms D M C one.does turn;
  each = each_next a.part Ms D M C one.each each;
  keeps = keeps_push a Ms D M C one.keeps is;
  put = put_next a D M C is Ms one.put one.only;
  only = only_next a D M C is Ms one.only;
}
