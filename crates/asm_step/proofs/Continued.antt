-- One move that goes on with a next one: what it lists, and that it does what the two do in turn.
use Rattle.std.proofs.Common.{◌≡◌, ◌≢◌, ◌≤◌, Bool, true, false, cond, ◌&&◌, ◌||◌, List, [], ◌∷◌, ◌++◌, length, filter, map, All, Option, Some, None, is_some, IsSomeAnd, Result, Ok, Err, IsOk, IsErr, refl, sym, ap, subst, ◌∙◌, append-nil}
use Rattle.std.proofs.lemmas.Bool.{false≢true}
use Rattle.std.proofs.lemmas.List.Folds.{list_any-append}
use Rattle.std.specs.Option.{option_map, option_map_or, option_or}
use Rattle.std.specs.Ordering.{eq_by_cmp}
use Rattle.asm_element.specs.Place.{Place, location_cmp}
use Rattle.asm_element.specs.Tests.{both as and_parts, neither, ok_is}
use Rattle.asm_element.specs.declared.value.Value.{Value}
use Rattle.asm_update.specs.Action.{IsProperInstruction}
use Rattle.asm_update.specs.Aggregator.{Meaning, AggregatorLaws, NoJoin}
use Rattle.asm_update.specs.Fire.{Part, fire, then_fire, written, locations, IsUpdateSet}
use Rattle.asm_update.specs.Move.{Move, actions_at, writes}
use Rattle.asm_update.specs.State.{State, Updates, val}
use Rattle.asm_update.specs.declared.action.Action.{Action}
use Rattle.asm_update.specs.declared.action.Instruction.{Instruction}
use Rattle.asm_update.specs.declared.clash.Clash.{Clash}
use Rattle.asm_update.proofs.FireLemmas.{in_locations, is_in}
use Rattle.asm_aggregate.specs.Bundle.{bundle_of}
use Rattle.asm_aggregate.specs.Compose.{composed, composed_at, composition, gives, in_turn, IsSequence, NeverFires}
use Rattle.asm_aggregate.proofs.Bundles.{no_actions}
use Rattle.asm_aggregate.proofs.Composed.{composed_is_sequence, refused_is_clash}
use Rattle.asm_aggregate.proofs.Grouped.{actions_at-append, unwritten}
use Rattle.asm_aggregate.proofs.Sequence.{all_apart, fired_stored, given, given_fired, in_turn_lists, in_turn_refusal, outs, proper_actions, proper_stored, proper_value, same_fire, some_action}
use Rattle.asm_step.specs.InTurn.{IsSequenceAt}
use Rattle.asm_step.specs.Answer.{continued, continued_at}
use Rattle.asm_step.specs.Next.{AreNext, next_at}
use Rattle.asm_step.specs.Outcomes.{Outcome, Outcomes, acts, actions_in, stacked, listed}
use Rattle.asm_step.proofs.Stacked.{get-stacked, kept_at}
use Rattle.asm_step.proofs.Placed.{at_kept, each_placed, listed_at, locations_passed, some_few, turn_all, turn_refused}
use Rattle.std.specs.FinMap as finite

-- an update set has the locations of its move
pub has_updates : (part : Part) (old : Place → Value) (M : Move) (U : Updates) → IsUpdateSet part old M U → (l : Place) →
    is_some (finite.get U l) ≡ writes M l
has_updates part old M U is l = by_test (writes M l) refl where
  some : (o : Option Value) (P : Value → Type 0) → IsSomeAnd o P → is_some o ≡ true
  some (Some v) P h = refl
  some None P h = absurd h

  by_test : (b : Bool) → writes M l ≡ b → is_some (finite.get U l) ≡ b
  by_test true w = some (finite.get U l) _ (is.written l w)
  by_test false w = ap is_some (is.others l w)

-- E is what the outcomes have at the locations that M writes, of which D is a move
module _ (os : Outcomes) (D M E : Move) (U : Updates) (has : (l : Place) → is_some (finite.get U l) ≡ writes M l)
    (is : (l : Place) → actions_at D l ≡ actions_in os l) (kept : E ≡ kept_at os (finite.entries U)) where
  pub there : (l : Place) → actions_at E l ≡ cond (writes M l) (actions_at D l) []
  there l =
      ap (λ (N : Move). actions_at N l) kept ∙ at_kept os (finite.entries U) l (finite.entries_sorted U)
      ∙ ap (λ (x : Option Value). cond (is_some x) (actions_in os l) []) (sym (finite.get-entries U l))
      ∙ (λ i. cond (has l i) (sym (is l) i) [])

-- whether a move writes a location
pub writes_by : (M : Move) (l : Place) → writes M l ≡ acts (actions_at M l)
writes_by [] l = refl
writes_by (x ∷ xs) l = by_test (eq_by_cmp location_cmp x.at l) (writes_by xs l) where
  by_test : (b : Bool) → writes xs l ≡ acts (actions_at xs l) →
      (b || writes xs l)
      ≡ acts (map (λ (i : Instruction). i.action)
      (cond b (x ∷ filter (λ (i : Instruction). eq_by_cmp location_cmp i.at l) xs)
      (filter (λ (i : Instruction). eq_by_cmp location_cmp i.at l) xs)))
  by_test true later = refl
  by_test false later = later

-- E has, of the instructions of D, those at the locations that M writes; S has, of those of M, those at the locations that D
-- writes, and O the others
pub record IsSplit (D M E S O : Move) : Type 0 where
  pub there : (l : Place) → actions_at E l ≡ cond (writes M l) (actions_at D l) []
  pub shared : (l : Place) → actions_at S l ≡ cond (writes D l) (actions_at M l) []
  pub apart : (l : Place) → actions_at O l ≡ cond (writes D l) [] (actions_at M l)

module _ (D M E S O : Move) (split : IsSplit D M E S O) where
  -- whether both write the location
  abbrev both : Place → Bool
  both l = writes M l && writes D l

  writes_joined : (N K : Move) (l : Place) → writes (N ++ K) l ≡ (writes N l || writes K l)
  writes_joined N K l = list_any-append (λ (i : Instruction). eq_by_cmp location_cmp i.at l) N K

  writes_there : (l : Place) → writes E l ≡ (writes M l && writes D l)
  writes_there l = writes_by E l ∙ ap acts (split.there l) ∙ by_test (writes M l) where
    by_test : (b : Bool) → acts (cond b (actions_at D l) []) ≡ (b && writes D l)
    by_test true = sym (writes_by D l)
    by_test false = refl

  writes_shared : (l : Place) → writes S l ≡ (writes D l && writes M l)
  writes_shared l = writes_by S l ∙ ap acts (split.shared l) ∙ by_test (writes D l) where
    by_test : (b : Bool) → acts (cond b (actions_at M l) []) ≡ (b && writes M l)
    by_test true = sym (writes_by M l)
    by_test false = refl

  writes_either : (l : Place) → writes (E ++ S) l ≡ both l
  writes_either l =
      writes_joined E S l ∙ (λ i. writes_there l i || writes_shared l i) ∙ by_tests (writes M l) (writes D l) where
        by_tests : (m d : Bool) → ((m && d) || (d && m)) ≡ (m && d)
        by_tests true true = refl
        by_tests true false = refl
        by_tests false true = refl
        by_tests false false = refl

  passed : (l : Place) → cond (both l) (writes (D ++ M) l) false ≡ writes (E ++ S) l
  passed l =
      ap (λ b. cond (both l) b false) (writes_joined D M l) ∙ by_tests (writes M l) (writes D l) ∙ sym (writes_either l) where
        by_tests : (m d : Bool) → cond (m && d) (d || m) false ≡ (m && d)
        by_tests true true = refl
        by_tests true false = refl
        by_tests false true = refl
        by_tests false false = refl

  written_there : filter both (locations (D ++ M)) ≡ locations (E ++ S)
  written_there = locations_passed both (D ++ M) (E ++ S) passed

  same_there : (l : Place) → writes M l ≡ true → actions_at E l ≡ actions_at D l
  same_there l w = split.there l ∙ ap (λ b. cond b (actions_at D l) []) w

  same_shared : (l : Place) → writes D l ≡ true → actions_at S l ≡ actions_at M l
  same_shared l w = split.shared l ∙ ap (λ b. cond b (actions_at M l) []) w

  module _ (a : Meaning) where
    -- what one of the two alone does there
    abbrev one_does : Place → List Action
    one_does l = cond (writes M l) (actions_at M l) (actions_at D l)

    composed_there : (l : Place) → both l ≡ true → continued_at a D M l ≡ composed_at a E S l
    composed_there l h =
        let (m, d) = and_parts (writes M l) (writes D l) h in
        (λ i. cond (m i) (cond (d i) (composed_at a D M l) (Ok (actions_at M l))) (Ok (actions_at D l)))
        ∙ (λ i. composed a (bundle_of (sym (same_there l m) i)) (bundle_of (sym (same_shared l d) i)))

    kept_there : (l : Place) → both l ≡ false → continued_at a D M l ≡ Ok (one_does l)
    kept_there l h = by_tests (writes M l) (writes D l) h where
      by_tests : (m d : Bool) → (m && d) ≡ false →
          cond m (cond d (composed_at a D M l) (Ok (actions_at M l))) (Ok (actions_at D l))
          ≡ Ok (cond m (actions_at M l) (actions_at D l))
      by_tests true true h = absurd (false≢true (sym h))
      by_tests true false h = refl
      by_tests false d h = refl

    -- where these don't compose, there is none
    pub refused : (l : Place) (refusal : NoJoin) → composition a E S ≡ Err (l, refusal) → continued a D M ≡ Err (l, refusal)
    refused l refusal h =
        turn_refused (continued_at a D M) (composed_at a E S) one_does both (locations (D ++ M)) (l, refusal)
        composed_there kept_there (ap (λ ls. in_turn (outs (composed_at a E S) ls)) written_there ∙ h)

    module _ (C : Move) (gave : composition a E S ≡ Ok C) where
      abbrev k : Place → List Action
      k l = cond (writes M l) (actions_at (C ++ O) l) (actions_at D l)

      lists : (l : Place) → (is_in (locations (E ++ S)) l ≡ true → composed_at a E S l ≡ Ok (actions_at C l))
          × (is_in (locations (E ++ S)) l ≡ false → actions_at C l ≡ [])
      lists l =
          in_turn_lists (composed_at a E S) (locations (E ++ S)) C l
          (all_apart (finite.entries (written (E ++ S))) (finite.entries_sorted (written (E ++ S)))) gave

      composed_is : (l : Place) → both l ≡ true → composed_at a E S l ≡ Ok (actions_at C l)
      composed_is l h = (lists l).0 (in_locations (E ++ S) l ∙ writes_either l ∙ h)

      -- where both write, what is composed, and where M alone does, what it does
      both_there : (l : Place) → writes M l ≡ true → writes D l ≡ true → actions_at (C ++ O) l ≡ actions_at C l
      both_there l m d =
          actions_at-append C O l
          ∙ ap (λ xs. actions_at C l ++ xs) (split.apart l ∙ ap (λ b. cond b [] (actions_at M l)) d)
          ∙ append-nil (actions_at C l)

      alone_there : (l : Place) → writes M l ≡ true → writes D l ≡ false → actions_at (C ++ O) l ≡ actions_at M l
      alone_there l m d =
          actions_at-append C O l
          ∙ (λ i. (lists l).1 (in_locations (E ++ S) l ∙ writes_either l ∙ (λ j. m j && d j)) i
          ++ (split.apart l ∙ ap (λ b. cond b [] (actions_at M l)) d) i)

      each_is : (l : Place) → continued_at a D M l ≡ Ok (k l)
      each_is l = by_tests (writes M l) (writes D l) refl refl where
        by_tests : (m d : Bool) → writes M l ≡ m → writes D l ≡ d → continued_at a D M l ≡ Ok (k l)
        by_tests true true m d =
            composed_there l (λ i. m i && d i) ∙ composed_is l (λ i. m i && d i)
            ∙ ap (λ xs. Ok xs) (sym (ap (λ b. cond b (actions_at (C ++ O) l) (actions_at D l)) m ∙ both_there l m d))
        by_tests true false m d =
            kept_there l (λ i. m i && d i) ∙ ap (λ b. Ok (cond b (actions_at M l) (actions_at D l))) m
            ∙ ap (λ xs. Ok xs) (sym (ap (λ b. cond b (actions_at (C ++ O) l) (actions_at D l)) m ∙ alone_there l m d))
        by_tests false d m e =
            kept_there l (λ i. m i && writes D l) ∙ ap (λ b. Ok (cond b (actions_at M l) (actions_at D l))) m
            ∙ ap (λ xs. Ok xs) (sym (ap (λ b. cond b (actions_at (C ++ O) l) (actions_at D l)) m))

      -- else it is what they compose to there, and at each other location what one of them does
      pub continues : continued a D M ≡ Ok (each_placed k (locations (D ++ M)))
      continues = turn_all (continued_at a D M) k (locations (D ++ M)) (λ l _. each_is l)

      -- which isn't shorter than what they compose to
      pub no_shorter : length C ≤ length (each_placed k (locations (D ++ M)))
      no_shorter =
          subst (λ (N : Move). length N ≤ length (each_placed k (locations (D ++ M)))) same
          (some_few k both (locations (D ++ M))) where
            each : (l : Place) → is_in (locations (E ++ S)) l ≡ true → composed_at a E S l ≡ Ok (k l)
            each l h =
                let here : both l ≡ true = sym (writes_either l) ∙ sym (in_locations (E ++ S) l) ∙ h in
                let (m, d) = and_parts (writes M l) (writes D l) here in
                composed_is l here
                ∙ ap (λ xs. Ok xs) (sym (ap (λ b. cond b (actions_at (C ++ O) l) (actions_at D l)) m ∙ both_there l m d))

            same : each_placed k (filter both (locations (D ++ M))) ≡ C
            same =
                ap (each_placed k) written_there
                ∙ ok_is _ _ (sym (turn_all (composed_at a E S) k (locations (E ++ S)) each) ∙ gave)

-- what the outcomes of a next move have, laid on those before
pub next_actions : (os own : Outcomes) (U : Updates) (C M : Move) → AreNext os U C M own → (l : Place) →
    actions_in (stacked os own) l ≡ cond (is_some (finite.get U l)) (actions_at C l) (actions_in os l)
next_actions os own U C M next l =
    ap (λ (x : Option Outcome). option_map_or (λ (o : Outcome). o.actions) x [])
    (get-stacked os own l ∙ ap (λ (x : Option Outcome). option_or x (finite.get os l)) (next l))
    ∙ by_update (finite.get U l) where
      by_update : (u : Option Value) →
          option_map_or (λ (o : Outcome). o.actions) (option_or (option_map (next_at os C M l) u) (finite.get os l)) []
          ≡ cond (is_some u) (actions_at C l) (actions_in os l)
      by_update (Some v) = refl
      by_update None = refl

module _ (a : Meaning) (os own : Outcomes) (U : Updates) (D M C : Move)
    (has : (l : Place) → is_some (finite.get U l) ≡ writes M l) (is : (l : Place) → actions_at D l ≡ actions_in os l)
    (next : AreNext os U C M own) where
  -- at the locations of the next move what they compose to, and elsewhere what was there
  pub actions_are : (l : Place) → cond (writes M l) (actions_at C l) (actions_at D l) ≡ actions_in (stacked os own) l
  actions_are l =
      (λ i. cond (sym (has l) i) (actions_at C l) (is l i)) ∙ sym (next_actions os own U C M next l)

  some_there : (l : Place) → writes (D ++ M) l ≡ true → is_some (finite.get (stacked os own) l) ≡ true
  some_there l w =
      ap is_some (get-stacked os own l ∙ ap (λ (x : Option Outcome). option_or x (finite.get os l)) (next l))
      ∙ by_update (finite.get U l) refl where
        held : (o : Option Outcome) → finite.get os l ≡ o → writes M l ≡ false → is_some o ≡ true
        held (Some o) e n = refl
        held None e n =
            let nothing : actions_at D l ≡ [] =
            is l ∙ ap (λ (x : Option Outcome). option_map_or (λ (o : Outcome). o.actions) x []) e in
            absurd (false≢true (sym (list_any-append (λ (i : Instruction). eq_by_cmp location_cmp i.at l) D M
            ∙ (λ i. no_actions D l nothing i || n i)) ∙ w))

        by_update : (u : Option Value) → finite.get U l ≡ u →
            is_some (option_or (option_map (next_at os C M l) u) (finite.get os l)) ≡ true
        by_update (Some v) e = refl
        by_update None e = held (finite.get os l) refl (sym (has l) ∙ ap is_some e)

  none_there : (l : Place) → writes (D ++ M) l ≡ false → actions_in (stacked os own) l ≡ []
  none_there l w =
      let apart = neither (writes D l) (writes M l)
      (sym (list_any-append (λ (i : Instruction). eq_by_cmp location_cmp i.at l) D M) ∙ w) in
      sym (actions_are l) ∙ ap (λ b. cond b (actions_at C l) (actions_at D l)) apart.1 ∙ unwritten D l apart.0

  -- so it is what the outcomes list
  pub continues_as : (E S O F : Move) → IsSplit D M E S O → composition a E S ≡ Ok F → C ≡ F ++ O →
      continued a D M ≡ Ok (listed (stacked os own))
  continues_as E S O F split gave is =
      continues D M E S O split a F gave
      ∙ (λ i. Ok (each_placed (λ l. cond (writes M l) (actions_at (sym is i) l) (actions_at D l)) (locations (D ++ M))))
      ∙ (λ i. Ok (each_placed (λ l. actions_are l i) (locations (D ++ M))))
      ∙ ap (λ (N : Move). Ok N) (listed_at (stacked os own) (D ++ M) some_there none_there)

-- it does what the two do in turn
module _ {a : Meaning} (laws : AggregatorLaws a) (D M E S O : Move) (split : IsSplit D M E S O)
    (proper : All IsProperInstruction E) (proper' : All IsProperInstruction S) where
  some_of : (l : Place) → both D M E S O split l ≡ true → actions_at E l ++ actions_at S l ≢ []
  some_of l h = some_action laws E S proper proper' l (writes_either D M E S O split l ∙ h)

  pub continues_each : (F R : Move) → composition a E S ≡ Ok F →
      ((l : Place) → actions_at R l ≡ cond (writes M l) (actions_at (F ++ O) l) (actions_at D l)) → IsSequenceAt a.part D M R
  continues_each F R gave is l v w pv h = by_tests (writes M l) (writes D l) refl refl where
    by_tests : (m d : Bool) → writes M l ≡ m → writes D l ≡ d → gives a.part v (actions_at R l) ≡ gives a.part w (actions_at M l)
    by_tests true true m d =
        ap (gives a.part v) (is l ∙ ap (λ b. cond b (actions_at (F ++ O) l) (actions_at D l)) m
        ∙ both_there D M E S O split a F gave l m d)
        ∙ composed_is_sequence laws v w (actions_at E l) (actions_at S l) (actions_at F l) pv (proper_actions E l proper)
        (proper_actions S l proper') (some_of l (λ i. m i && d i)) (composed_is D M E S O split a F gave l (λ i. m i && d i))
        (ap (gives a.part v) (same_there D M E S O split l m) ∙ h)
        ∙ ap (gives a.part w) (same_shared D M E S O split l d)
    by_tests true false m d =
        ap (gives a.part v) (is l ∙ ap (λ b. cond b (actions_at (F ++ O) l) (actions_at D l)) m
        ∙ alone_there D M E S O split a F gave l m d)
        ∙ ap (λ u. gives a.part u (actions_at M l)) (ok_is v w (sym (ap (gives a.part v) (unwritten D l d)) ∙ h))
    by_tests false d m e =
        ap (gives a.part v) (is l ∙ ap (λ b. cond b (actions_at (F ++ O) l) (actions_at D l)) m)
        ∙ h ∙ sym (ap (gives a.part w) (unwritten M l m))

  pub continues_in_turn : (R : Move) → IsSequenceAt a.part D M R → IsSequence a.part D M R
  continues_in_turn R follows A pA fires = by_answer (fire a.part A D) refl fires where
    same : (B : State) → fire a.part A D ≡ Ok B → (l : Place) → given a.part A R l ≡ given a.part B M l
    same B fired l = follows l (val A l) (val B l) (proper_value A l pA) (given_fired a.part A B D l fired)

    by_answer : (r : Result State Clash) → fire a.part A D ≡ r → IsOk r → fire a.part A R ≡ then_fire a.part r M
    by_answer (Ok B) h f =
        let holds = proper_stored A pA in
        same_fire a.part A B R M (same B h) holds (fired_stored a.part A B D holds h)
    by_answer (Err c) h f = cc

  pub refused_never : (l : Place) (refusal : NoJoin) → composition a E S ≡ Err (l, refusal) → NeverFires a.part D M
  refused_never l refusal is A pA = by_answer (fire a.part A D) refl where
    at : (is_in (locations (E ++ S)) l ≡ true) × (composed_at a E S l ≡ Err refusal)
    at = in_turn_refusal (composed_at a E S) (locations (E ++ S)) l refusal is

    here : both D M E S O split l ≡ true
    here = sym (writes_either D M E S O split l) ∙ sym (in_locations (E ++ S) l) ∙ at.0

    by_second : (B : State) (r : Result State Clash) → fire a.part A D ≡ Ok B → fire a.part B M ≡ r → IsErr r
    by_second B (Ok F) h k =
        let (m, d) = and_parts (writes M l) (writes D l) here in
        absurd (refused_is_clash laws (val A l) (val B l) (val F l) (actions_at E l) (actions_at S l) refusal
        (proper_value A l pA) (proper_actions E l proper) (proper_actions S l proper')
        (some_of l here) at.1
        (ap (gives a.part (val A l)) (same_there D M E S O split l m) ∙ given_fired a.part A B D l h)
        (ap (gives a.part (val B l)) (same_shared D M E S O split l d) ∙ given_fired a.part B F M l k))
    by_second B (Err c) h k = refl

    by_answer : (r : Result State Clash) → fire a.part A D ≡ r → IsErr (then_fire a.part r M)
    by_answer (Ok B) h = by_second B (fire a.part B M) h refl
    by_answer (Err c) h = refl
