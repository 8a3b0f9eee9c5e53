-- The layer of a first move: of its update set, of puts at different locations, and of one partial update.
use Rattle.std.proofs.Common.{◌≡◌, ◌≤◌, Bool, true, false, cond, ◌||◌, List, [], ◌∷◌, ◌++◌, length, All, Option, Some, None, Result, Ok, Err, inl, refl, sym, ap, subst, ◌∙◌, arith}
use Rattle.std.specs.Option.{option_map, option_map_or}
use Rattle.asm_element.specs.Place.{Place, location_cmp}
use Rattle.asm_element.specs.declared.value.Value.{Value}
use Rattle.asm_update.specs.Action.{IsProperInstruction, is_partial, is_regular}
use Rattle.asm_update.specs.Aggregator.{Meaning, AggregatorLaws}
use Rattle.asm_update.specs.Fire.{Part, Old, res, result_at, IsLeastClash, IsUpdateSet}
use Rattle.asm_update.specs.Move.{Move, actions_at, writes}
use Rattle.asm_update.specs.State.{Updates}
use Rattle.asm_overlay.specs.Frames.{seen_through}
use Rattle.asm_step.specs.Layers.{Layer, IsSound, frames_of, stacked_on, outcomes_of, top_of}
use Rattle.asm_step.specs.Next.{AreNext, IsChangeOn, IsComposed, IsLayerFrom, IsNext, next_at, on_top}
use Rattle.asm_step.specs.Outcomes.{Outcome, Outcomes, actions_in, frame, listed, acts_at, builds_at, change_alone, own_of, put_outcome, puts_on, sees_at, ArePuts}
use Rattle.asm_step.specs.declared.error.StepError.{StepError}
use Rattle.asm_step.specs.declared.layer.OwnLayer.{OwnLayer}
use Rattle.asm_aggregate.specs.Compose.{placed}
use Rattle.asm_step.proofs.Nexts.{next_answer, next_over}
use Rattle.asm_step.proofs.Continued.{has_updates}
use Rattle.asm_step.proofs.Stacked.{get-frame, kept_at}
use Rattle.asm_step.proofs.Prefixes.{none_of_empty, outcomes_without}
use Rattle.asm_step.proofs.Depending.{as_puts}
use Rattle.asm_step.proofs.OneChange.{actions_there, alone, change_clash, change_updates, changed, get-alone, get-change, one_listed, unregular}
use Rattle.asm_step.proofs.HeldPuts.{so_many_puts, some_left, unwritten_puts, written_puts}
use Rattle.asm_step.proofs.Filled.{acts_nowhere, all_others, none_shared}
use Rattle.std.proofs.lemmas.List.Elements.{All-nil}
use Rattle.std.specs.List.{list_any}
use Rattle.std.specs.Ordering.{eq_by_cmp}
use Rattle.asm_update.specs.declared.action.Instruction.{Instruction}
use Rattle.std.specs.Prelude.{IsSomeAnd}
use Rattle.asm_update.specs.declared.action.Action.{Action}
use Rattle.asm_update.specs.declared.action.Action.TheVariants.{Regular}
use Rattle.std.specs.FinMap as finite
use Rattle.asm_step.specs.declared.error.StepError.TheVariants as step_error

none_kept : {X : Type 0} (os : Outcomes) (es : List (Place × X)) → ((l : Place) → actions_in os l ≡ []) → kept_at os es ≡ []
none_kept os [] none = refl
none_kept os (e ∷ es) none = (λ i. placed e.0 (none e.0 i) ++ none_kept os es none i)

module _ {a : Meaning} (laws : AggregatorLaws a) (old : Old) (s : List Layer) (M : Move) (sound : All IsSound s)
    (top : top_of s ≡ None) (short : length M ≤ 4096) where
  none : outcomes_of s ≡ finite.empty
  none = outcomes_without s top

  found : {X : Type 0} (f : Outcome → X) (x : X) (l : Place) → option_map_or f (finite.get (outcomes_of s) l) x ≡ x
  found f x l =
      ap (λ (os : Outcomes). option_map_or f (finite.get os l) x) none
      ∙ ap (λ (o : Option Outcome). option_map_or f o x) (finite.get-empty location_cmp l)

  -- of its update set
  pub first_answer : (U : Updates) → IsUpdateSet a.part (seen_through (frames_of s) old) M U →
      (r : Result OwnLayer StepError) → IsLayerFrom s U 0 M M r → IsNext a old s M (on_top s r)
  first_answer U set r from =
      next_over a old s M U set (on_top s r)
      (next_answer laws s M [] [] M U sound (has_updates a.part (seen_through (frames_of s) old) M U set)
      (sym (none_kept (outcomes_of s) (finite.entries U) (λ l. found (λ (o : Outcome). o.actions) [] l)))
      (sym (none_shared (outcomes_of s) M nowhere)) (sym (all_others (outcomes_of s) M nowhere))
      (All-nil IsProperInstruction) (All-nil IsProperInstruction) short []
      (subst (λ (t : Option Layer). IsComposed a (option_map (λ (y : Layer). []) t) [] (Ok [])) (sym top) ((refl, omega arith), tt))
      0 (sym (ap length (ap (λ (os : Outcomes). listed os) none ∙ none_of_empty))) r from) where
        nowhere : (l : Place) → acts_at (outcomes_of s) l ≡ false
        nowhere = acts_nowhere (outcomes_of s) none

  -- puts at different locations are their own outcomes
  module _ (are : ArePuts M) where
    abbrev puts : Outcomes
    puts = puts_on finite.empty M

    found_puts : (l : Place) → writes M l ≡ true → (v : Value) × (actions_at M l ≡ Regular v ∷ []) × (finite.get puts l ≡ Some (put_outcome v))
    found_puts l w = written_puts finite.empty M l are.1 are.2 w

    no_puts : (l : Place) → writes M l ≡ false → finite.get puts l ≡ None
    no_puts l w = unwritten_puts finite.empty M l w ∙ finite.get-empty location_cmp l

    puts_set : (part : Part) (seen : Old) → IsUpdateSet part seen M (frame puts)
    puts_set part seen = record {
      written = λ l w.
          let (v, actions, got) = found_puts l w in
          subst (λ (o : Option Value). IsSomeAnd o (λ u. result_at part seen M l ≡ Ok u))
          (sym (get-frame puts l ∙ ap (option_map (λ (o : Outcome). o.value)) got))
          (ap (res part (seen l)) actions);
      others = λ l w. get-frame puts l ∙ ap (option_map (λ (o : Outcome). o.value)) (no_puts l w);
    }

    puts_next : (own : Outcomes) → own ≡ puts → AreNext (outcomes_of s) (frame puts) M M own
    puts_next own is l =
        ap (λ (os : Outcomes). finite.get os l) is ∙ by_test (writes M l) refl
        ∙ ap (option_map (next_at (outcomes_of s) M M l)) (sym (get-frame puts l)) where
          unbuilt : false ≡ builds_at (outcomes_of s) l
          unbuilt = sym (found (λ (o : Outcome). o.builds) false l)

          alike : (v : Value) → actions_at M l ≡ Regular v ∷ [] → put_outcome v ≡ next_at (outcomes_of s) M M l v
          alike v actions = λ i. record {
            value = v;
            actions = sym actions i;
            builds = (unbuilt ∙ ap (λ (xs : List Action). cond (list_any is_regular xs) (builds_at (outcomes_of s) l) (sees_at (outcomes_of s) l)) (sym actions)) i;
            depends = unbuilt i;
          }

          by_test : (b : Bool) → writes M l ≡ b →
              finite.get puts l ≡ option_map (next_at (outcomes_of s) M M l) (option_map (λ (o : Outcome). o.value) (finite.get puts l))
          by_test true w =
              let (v, actions, got) = found_puts l w in
              got ∙ ap (λ (o : Outcome). Some o) (alike v actions)
              ∙ sym (ap (λ (o : Option Outcome). option_map (next_at (outcomes_of s) M M l) (option_map (λ (o : Outcome). o.value) o)) got)
          by_test false w =
              no_puts l w
              ∙ sym (ap (λ (o : Option Outcome). option_map (next_at (outcomes_of s) M M l) (option_map (λ (o : Outcome). o.value) o)) (no_puts l w))

    pub puts_answer : (y : OwnLayer) →
        y ≡ record { own = own_of M finite.empty; moves = M ∷ []; is_alone = true; count = length M } →
        IsNext a old s M (Ok (stacked_on (outcomes_of s) y))
    puts_answer y seen =
        first_answer (frame puts) (puts_set a.part (seen_through (frames_of s) old)) (Ok y) (
          puts_next y.own own,
          omega (arith, counted),
          omega (arith, ap (λ (z : OwnLayer). z.count) seen, short),
          ap (λ (z : OwnLayer). z.moves) seen,
          ap (λ (z : OwnLayer). z.is_alone) seen ∙ sym (ap (λ (t : Option Layer). option_map_or (λ (z : Layer). false) t true) top),
        ) where
          own : y.own ≡ puts
          own = sym (as_puts M finite.empty y.own (sym (ap (λ (z : OwnLayer). z.own) seen)) (some_left M are.0))

          counted : y.count ≡ length (listed y.own)
          counted =
              ap (λ (z : OwnLayer). z.count) seen ∙ so_many_puts M are.1 are.2
              ∙ sym (ap (λ (os : Outcomes). length (listed os)) own)

  -- one partial update leaves its value, or clashes
  module _ (i : Instruction) (is : M ≡ i ∷ []) (partial : is_partial i.action ≡ true) where
    change_next : (v : Value) (own : Outcomes) → own ≡ change_alone i v → AreNext (outcomes_of s) (alone i.at v) M M own
    change_next v own seen l =
        ap (λ (os : Outcomes). finite.get os l) seen ∙ get-change i v l ∙ by_test (eq_by_cmp location_cmp i.at l) refl
        ∙ ap (option_map (next_at (outcomes_of s) M M l)) (sym (get-alone i.at l v)) where
          actions : eq_by_cmp location_cmp i.at l ≡ true → actions_at M l ≡ i.action ∷ []
          actions e = ap (λ (N : Move). actions_at N l) is ∙ actions_there i l e

          builds : eq_by_cmp location_cmp i.at l ≡ true →
              true ≡ cond (list_any is_regular (actions_at M l)) (builds_at (outcomes_of s) l) (sees_at (outcomes_of s) l)
          builds e =
              sym (found (λ (o : Outcome). o.builds) true l)
              ∙ sym (ap (λ (xs : List Action). cond (list_any is_regular xs) (builds_at (outcomes_of s) l) (sees_at (outcomes_of s) l)) (actions e)
              ∙ ap (λ b. cond (b || false) (builds_at (outcomes_of s) l) (sees_at (outcomes_of s) l)) (unregular i.action partial))

          by_test : (b : Bool) → eq_by_cmp location_cmp i.at l ≡ b →
              cond b (Some (changed i v)) None ≡ option_map (next_at (outcomes_of s) M M l) (cond b (Some v) None)
          by_test true e = λ k. Some (record {
            value = v;
            actions = sym (actions e) k;
            builds = builds e k;
            depends = sym (found (λ (o : Outcome). o.builds) false l) k;
          })
          by_test false e = refl

    seen_is : seen_through (frames_of s) old ≡ old
    seen_is = ap (λ (t : Option Layer). seen_through (option_map_or (λ (y : Layer). frame y.outcomes ∷ []) t []) old) top

    pub change_refused : (e : StepError) → IsChangeOn a.part (old i.at) i (Err e) → IsNext a old s M (Err e)
    change_refused (step_error.Clash clash) h =
        inl (subst (λ (seen : Old). IsLeastClash a.part seen M clash) (sym seen_is)
        (subst (λ (N : Move). IsLeastClash a.part old N clash) (sym is) (change_clash a.part old i partial clash h.0 h.1)))
    change_refused step_error.Memory h = inl tt
    change_refused (step_error.Large l) h = absurd h
    change_refused step_error.Many h = absurd h
    change_refused step_error.Deep h = absurd h

    pub change_answer : (v : Value) → IsChangeOn a.part (old i.at) i (Ok v) → (y : OwnLayer) →
        y ≡ record { own = change_alone i v; moves = M ∷ []; is_alone = true; count = 1 } →
        IsNext a old s M (Ok (stacked_on (outcomes_of s) y))
    change_answer v gave y seen =
        first_answer (alone i.at v)
        (subst (λ (o : Old). IsUpdateSet a.part o M (alone i.at v)) (sym seen_is)
        (subst (λ (N : Move). IsUpdateSet a.part old N (alone i.at v)) (sym is) (change_updates a.part old i partial v gave)))
        (Ok y) (
          change_next v y.own own,
          omega (arith, counted),
          omega (arith, ap (λ (z : OwnLayer). z.count) seen),
          ap (λ (z : OwnLayer). z.moves) seen,
          ap (λ (z : OwnLayer). z.is_alone) seen ∙ sym (ap (λ (t : Option Layer). option_map_or (λ (z : Layer). false) t true) top),
        ) where
          own : y.own ≡ change_alone i v
          own = ap (λ (z : OwnLayer). z.own) seen

          counted : y.count ≡ length (listed y.own)
          counted =
              ap (λ (z : OwnLayer). z.count) seen ∙ one_listed i v
              ∙ sym (ap (λ (os : Outcomes). length (listed os)) own)
