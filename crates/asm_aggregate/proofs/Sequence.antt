-- Firing a composition is firing the two moves in turn; where a location refuses, the two in turn never fire.
use Rattle.std.proofs.Common.{◌≡◌, append-nil, ◌≢◌, Bool, true, false, cond, ◌||◌, T, List, [], ◌∷◌, ◌++◌, map, refl}
use Rattle.std.proofs.Common.{sym, ap, subst, ◌∙◌, unwrap_or, All}
use Rattle.std.specs.Prelude.{Result, Ok, Err, IsOk, IsErr, Option, None, Some, filter}
use Rattle.std.specs.declared.cmp.Ordering.TheVariants.{Less}
use Rattle.std.specs.Ordering.{eq_by_cmp}
use Rattle.std.specs.FinMap as finite
use Rattle.std.proofs.lemmas.Bool.{false≢true}
use Rattle.std.proofs.lemmas.Option.{same_Some}
use Rattle.std.proofs.lemmas.List.Elements.{All-nil, All-cons, All-head, All-tail}
use Rattle.std.proofs.lemmas.List.Folds.{list_any-append}
use Rattle.asm_element.specs.Place.{Place, location_cmp, location_cmp_total, same_location}
use Rattle.asm_element.specs.Tests.{ok_is, err_is, flipped, itself, neither, or_right}
use Rattle.asm_element.specs.Value as value
use Rattle.asm_element.specs.declared.value.Value.{Value}
use Rattle.asm_update.specs.Action.{AllProper, IsProper, IsProperInstruction}
use Rattle.asm_update.specs.Aggregator.{Meaning, AggregatorLaws, Joined, NoJoin}
use Rattle.asm_update.specs.Fire.{Part, GroupResult, res, result_at, fire, then_fire, written, locations, IsLeastClash}
use Rattle.asm_update.specs.Move.{Move, actions_at, writes}
use Rattle.asm_update.specs.State.{State, val}
use Rattle.asm_update.specs.State as state
use Rattle.asm_update.specs.declared.action.Action.{Action}
use Rattle.asm_update.specs.declared.action.Instruction.{Instruction}
use Rattle.asm_update.specs.declared.clash.Clash.{Clash}
use Rattle.asm_update.proofs.FireLemmas.{stored, stored_or, stored_reads, get-overwrite, same_state, in_locations}
use Rattle.asm_update.proofs.FireLemmas.{is_in, fired_updates, fired_clash, fire_clash, val-fired, val-unwritten}
use Rattle.asm_aggregate.specs.Compose.{composition, composed_at, before, gives, in_turn, placed, IsSequence, NeverFires}
use Rattle.asm_aggregate.proofs.Bundles.{no_actions}
use Rattle.asm_aggregate.proofs.Composed.{composed_is_sequence, refused_is_clash}
use Rattle.asm_aggregate.proofs.Grouped.{actions_at-append, unwritten}
use Rattle.asm_element.specs.Ascending.{both_T, not_among}

found_all : (P : Value → Type 0) (es : List (Place × Value)) (q : Place) (v : Value) →
    All P (map (λ (e : Place × Value). e.1) es) → finite.find location_cmp q es ≡ Some v → P v
found_all P [] q v all h = cc
found_all P (e ∷ es) q v all h =
    by_test (eq_by_cmp location_cmp q e.0) h
    (found_all P es q v (All-tail P e.1 (map (λ (e : Place × Value). e.1) es) all)) where
      by_test : (b : Bool) → cond b (Some e.1) (finite.find location_cmp q es) ≡ Some v →
          (finite.find location_cmp q es ≡ Some v → P v) → P v
      by_test true h later = subst P (same_Some _ _ h) (All-head P e.1 (map (λ (e : Place × Value). e.1) es) all)
      by_test false h later = later h

-- a state that keeps no undef is told by its values
abbrev pub HoldsStored : State → Type 0
HoldsStored A = (q : Place) → finite.get A q ≡ stored (val A q)

pub proper_stored : (A : State) → state.IsProper A → HoldsStored A
proper_stored A proper q = by_cases (finite.get A q) refl where
  by_cases : (o : Option Value) → finite.get A q ≡ o → o ≡ stored (unwrap_or o value.undef)
  by_cases None e = refl
  by_cases (Some v) e =
      ap (λ b. cond b None (Some v))
      (sym (found_all (λ w. value.is_undef w ≡ false) (finite.entries A) q v proper.no_undef
      (sym (finite.get-entries A q) ∙ e)))

-- a proper state has proper values
pub proper_value : (A : State) (q : Place) → state.IsProper A → value.IsProper (val A q)
proper_value A q proper = by_cases (finite.get A q) refl where
  by_cases : (o : Option Value) → finite.get A q ≡ o → value.IsProper (unwrap_or o value.undef)
  by_cases None e = tt
  by_cases (Some v) e = found_all value.IsProper (finite.entries A) q v proper.values (sym (finite.get-entries A q) ∙ e)

pub gives_some : (part : Part) (v : Value) (G : List Action) → G ≢ [] → gives part v G ≡ res part v G
gives_some part v [] ne = absurd (ne refl)
gives_some part v (x ∷ xs) ne = refl

-- what a move gives at a location, which it leaves as it is where it doesn't write it
abbrev pub given : Part → State → Move → Place → GroupResult
given part A M l = gives part (val A l) (actions_at M l)

module _ (part : Part) where
  pub given_written : (A : State) (M : Move) (l : Place) → writes M l ≡ true →
      given part A M l ≡ result_at part (val A) M l
  given_written A M l w =
      gives_some part (val A l) (actions_at M l) (λ none. absurd (false≢true (sym (no_actions M l none) ∙ w)))

  pub given_unwritten : (A : State) (M : Move) (l : Place) → writes M l ≡ false → given part A M l ≡ Ok (val A l)
  given_unwritten A M l w = ap (gives part (val A l)) (unwritten M l w)

  pub given_fired : (A B : State) (M : Move) (l : Place) → fire part A M ≡ Ok B → given part A M l ≡ Ok (val B l)
  given_fired A B M l h = by_test (writes M l) refl where
    by_test : (b : Bool) → writes M l ≡ b → given part A M l ≡ Ok (val B l)
    by_test true w = given_written A M l w ∙ val-fired part A B M l h w
    by_test false w = given_unwritten A M l w ∙ ap (λ v. Ok v) (sym (val-unwritten part A B M l h w))

  pub fired_stored : (A B : State) (M : Move) → HoldsStored A → fire part A M ≡ Ok B → HoldsStored B
  fired_stored A B M holds h q =
      let had = fired_updates part A M B h in
      let is : finite.get B q ≡ stored_or (finite.get had.0 q) (finite.get A q) =
      ap (λ (S : State). finite.get S q) (sym had.2) ∙ get-overwrite A had.0 q in
      is ∙ by_cases (finite.get had.0 q) ∙ ap (λ o. stored (unwrap_or o value.undef)) (sym is) where
        by_cases : (o : Option Value) →
            stored_or o (finite.get A q) ≡ stored (unwrap_or (stored_or o (finite.get A q)) value.undef)
        by_cases (Some v) = ap stored (sym (stored_reads v))
        by_cases None = holds q

  pub clash_given : (A : State) (M : Move) (c : Clash) → IsLeastClash part (val A) M c → given part A M c.at ≡ Err c.cause
  clash_given A M c is = given_written A M c.at is.written ∙ is.cause

  below_given : (A : State) (M : Move) (c : Clash) (l : Place) → IsLeastClash part (val A) M c →
      location_cmp l c.at ≡ Less → IsOk (given part A M l)
  below_given A M c l is lt = by_test (writes M l) refl where
    by_test : (b : Bool) → writes M l ≡ b → IsOk (given part A M l)
    by_test true w = subst IsOk (sym (given_written A M l w)) (is.least l lt w)
    by_test false w = subst IsOk (sym (given_unwritten A M l w)) refl

  -- two moves that give the same at each location of two states fire to the same
  module _ (A B : State) (M N : Move) (same : (l : Place) → given part A M l ≡ given part B N l) where
    same_clash : (c : Clash) → IsLeastClash part (val A) M c → IsLeastClash part (val B) N c
    same_clash c is = record {
      written = there (writes N c.at) refl;
      cause = sym (given_written B N c.at (there (writes N c.at) refl)) ∙ sym (same c.at) ∙ clash_given A M c is;
      least = λ l lt w. subst IsOk (same l ∙ given_written B N l w) (below_given A M c l is lt);
    } where
      there : (b : Bool) → writes N c.at ≡ b → writes N c.at ≡ true
      there true w = w
      there false w =
          let no : Ok (val B c.at) ≡ Err c.cause =
          sym (given_unwritten B N c.at w) ∙ sym (same c.at) ∙ clash_given A M c is in cc

    no_clash_there : (D : State) (c : Clash) → fire part A M ≡ Ok D → fire part B N ≡ Err c → ⊥
    no_clash_there D c h k =
        let no : Ok (val D c.at) ≡ Err c.cause =
        sym (given_fired A D M c.at h) ∙ same c.at ∙ clash_given B N c (fired_clash part B N c k) in cc

    same_states : (D E : State) → HoldsStored A → HoldsStored B → fire part A M ≡ Ok D → fire part B N ≡ Ok E → D ≡ E
    same_states D E a b h k = same_state D E (λ q.
        fired_stored A D M a h q ∙ ap stored (ok_is _ _ (sym (given_fired A D M q h) ∙ same q ∙ given_fired B E N q k))
        ∙ sym (fired_stored B E N b k q))

    pub same_fire : HoldsStored A → HoldsStored B → fire part A M ≡ fire part B N
    same_fire a b = by_answers (fire part A M) (fire part B N) refl refl where
      by_answers : (r s : Result State Clash) → fire part A M ≡ r → fire part B N ≡ s → r ≡ s
      by_answers (Ok D) (Ok E) h k = ap (λ S. Ok S) (same_states D E a b h k)
      by_answers (Ok D) (Err c) h k = absurd (no_clash_there D c h k)
      by_answers (Err c) s h k = sym (fire_clash part B N c (same_clash c (fired_clash part A M c h))) ∙ k

abbrev pub Apart : List Place → Type 0
Apart [] = Unit {0}
Apart (l ∷ ls) = (is_in ls l ≡ false) × Apart ls

pub all_apart : {X : Type 0} (es : List (Place × X)) → T (finite.is_sorted location_cmp es) →
    Apart (map (λ (e : Place × X). e.0) es)
all_apart [] h = tt
all_apart (e ∷ es) h = let parts = both_T _ _ h in (not_among location_cmp e.0 es parts.0, all_apart es parts.1)

pub actions_placed : (l q : Place) (actions : List Action) (b : Bool) → eq_by_cmp location_cmp l q ≡ b →
    actions_at (placed l actions) q ≡ cond b actions []
actions_placed l q [] true e = refl
actions_placed l q [] false e = refl
actions_placed l q (x ∷ xs) true e =
    ap (λ b. map (λ (i : Instruction). i.action)
    (cond b (record { at = l; action = x } ∷ filter (λ (i : Instruction). eq_by_cmp location_cmp i.at q) (placed l xs))
    (filter (λ (i : Instruction). eq_by_cmp location_cmp i.at q) (placed l xs)))) e
    ∙ ap (λ ys. x ∷ ys) (actions_placed l q xs true e)
actions_placed l q (x ∷ xs) false e =
    ap (λ b. map (λ (i : Instruction). i.action)
    (cond b (record { at = l; action = x } ∷ filter (λ (i : Instruction). eq_by_cmp location_cmp i.at q) (placed l xs))
    (filter (λ (i : Instruction). eq_by_cmp location_cmp i.at q) (placed l xs)))) e ∙ actions_placed l q xs false e

module _ (out : Place → Joined) where
  abbrev pub outs : List Place → List (Place × Joined)
  outs ls = map (λ l. (l, out l)) ls

  abbrev pub IsAt : List Place → Move → Place → Type 0
  IsAt ls C q = (is_in ls q ≡ true → out q ≡ Ok (actions_at C q)) × (is_in ls q ≡ false → actions_at C q ≡ [])

  -- where no location refuses, each has its list
  pub in_turn_lists : (ls : List Place) (C : Move) (q : Place) → Apart ls → in_turn (outs ls) ≡ Ok C → IsAt ls C q
  in_turn_lists [] C q h k = (λ e. cc, λ _. ap (λ D. actions_at D q) (sym (ok_is _ _ k)))
  in_turn_lists (l ∷ ls) C q h k =
      by_answers (out l) (in_turn (outs ls)) refl refl k (λ D. in_turn_lists ls D q h.1) where
        by_test : (xs : List Action) (D : Move) → out l ≡ Ok xs → placed l xs ++ D ≡ C → IsAt ls D q → (b : Bool) →
            eq_by_cmp location_cmp q l ≡ b →
            ((b || is_in ls q) ≡ true → out q ≡ Ok (actions_at C q)) × ((b || is_in ls q) ≡ false → actions_at C q ≡ [])
        by_test xs D e is at true t =
            let there : q ≡ l = same_location q l t in
            let none : actions_at D q ≡ [] = at.1 (ap (is_in ls) there ∙ h.0) in
            let list : actions_at C q ≡ xs =
            ap (λ E. actions_at E q) (sym is) ∙ actions_at-append (placed l xs) D q
            ∙ (λ i. actions_placed l q xs true (flipped location_cmp_total l q ∙ t) i ++ none i) ∙ append-nil xs in
            (λ _. ap out there ∙ e ∙ ap (λ ys. Ok ys) (sym list), λ no. cc)
        by_test xs D e is at false t =
            let list : actions_at C q ≡ actions_at D q =
            ap (λ E. actions_at E q) (sym is) ∙ actions_at-append (placed l xs) D q
            ∙ ap (λ ys. ys ++ actions_at D q) (actions_placed l q xs false (flipped location_cmp_total l q ∙ t)) in
            (λ i. at.0 i ∙ ap (λ ys. Ok ys) (sym list), λ i. list ∙ at.1 i)

        by_answers : (o : Joined) (r : Result Move (Place × NoJoin)) → out l ≡ o → in_turn (outs ls) ≡ r →
            in_turn ((l, o) ∷ outs ls) ≡ Ok C → ((D : Move) → in_turn (outs ls) ≡ Ok D → IsAt ls D q) →
            IsAt (l ∷ ls) C q
        by_answers (Ok xs) (Ok D) e f k later =
            let is : placed l xs ++ D ≡ C = ok_is _ _ (ap (before (placed l xs)) (sym f) ∙ k) in
            by_test xs D e is (later D f) (eq_by_cmp location_cmp q l) refl
        by_answers (Ok xs) (Err r) e f k later = let no : Err r ≡ Ok C = ap (before (placed l xs)) (sym f) ∙ k in cc
        by_answers (Err r) s e f k later = cc

  -- the refusal is that of its location
  pub in_turn_refusal : (ls : List Place) (k : Place) (refusal : NoJoin) → in_turn (outs ls) ≡ Err (k, refusal) →
      (is_in ls k ≡ true) × (out k ≡ Err refusal)
  in_turn_refusal [] k refusal h = cc
  in_turn_refusal (l ∷ ls) k refusal h =
      by_answers (out l) (in_turn (outs ls)) refl refl h (in_turn_refusal ls k refusal) where
        here : (r : NoJoin) → out l ≡ Err r → (l ≡ k) × (r ≡ refusal) →
            (is_in (l ∷ ls) k ≡ true) × (out k ≡ Err refusal)
        here r e is = (
          ap (λ p. eq_by_cmp location_cmp k p || is_in ls k) is.0
              ∙ ap (λ b. b || is_in ls k) (itself location_cmp_total k),
          ap out (sym is.0) ∙ e ∙ ap (λ s. Err s) is.1,
        )

        by_answers : (o : Joined) (r : Result Move (Place × NoJoin)) → out l ≡ o → in_turn (outs ls) ≡ r →
            in_turn ((l, o) ∷ outs ls) ≡ Err (k, refusal) →
            (in_turn (outs ls) ≡ Err (k, refusal) → (is_in ls k ≡ true) × (out k ≡ Err refusal)) →
            (is_in (l ∷ ls) k ≡ true) × (out k ≡ Err refusal)
        by_answers (Ok xs) (Ok D) e f h later =
            let no : ◌≡◌ {A = Result Move (Place × NoJoin)} (Ok (placed l xs ++ D)) (Err (k, refusal)) =
            ap (before (placed l xs)) (sym f) ∙ h in cc
        by_answers (Ok xs) (Err r) e f h later =
            let had = later (f ∙ ap (λ s. Err s) (err_is _ _ (ap (before (placed l xs)) (sym f) ∙ h))) in
            (or_right _ _ had.0, had.1)
        by_answers (Err r) s e f h later = let is = err_is _ _ h in here r e (ap (λ p. p.0) is, ap (λ p. p.1) is)

-- a proper move has proper actions
pub proper_actions : (M : Move) (l : Place) → All IsProperInstruction M → AllProper (actions_at M l)
proper_actions [] l h = All-nil IsProper
proper_actions (x ∷ M) l h =
    by_test (eq_by_cmp location_cmp x.at l) (proper_actions M l (All-tail IsProperInstruction x M h)) where
      by_test : (b : Bool) → AllProper (actions_at M l) →
          AllProper
          (map (λ (i : Instruction). i.action)
          (cond b (x ∷ filter (λ (i : Instruction). eq_by_cmp location_cmp i.at l) M)
          (filter (λ (i : Instruction). eq_by_cmp location_cmp i.at l) M)))
      by_test true later = All-cons IsProper x.action (actions_at M l) (All-head IsProperInstruction x M h).1 later
      by_test false later = later

module _ {a : Meaning} (laws : AggregatorLaws a) (M N : Move) (proper : All IsProperInstruction M)
    (proper' : All IsProperInstruction N) where
  pub some_action : (l : Place) → writes (M ++ N) l ≡ true → actions_at M l ++ actions_at N l ≢ []
  some_action l w none = false≢true (sym (no_actions (M ++ N) l (actions_at-append M N l ∙ none)) ∙ w)

  abbrev at_locations : List Place
  at_locations = locations (M ++ N)

  locations_apart : Apart at_locations
  locations_apart = all_apart (finite.entries (written (M ++ N))) (finite.entries_sorted (written (M ++ N)))

  -- the two in turn at a location
  gives_sequence : (A B : State) (C : Move) → state.IsProper A → fire a.part A M ≡ Ok B → composition a M N ≡ Ok C →
      (l : Place) → given a.part A C l ≡ given a.part B N l
  gives_sequence A B C pA fired is l = by_test (writes (M ++ N) l) refl where
    at : IsAt (composed_at a M N) at_locations C l
    at = in_turn_lists (composed_at a M N) at_locations C l locations_apart is

    by_test : (b : Bool) → writes (M ++ N) l ≡ b → given a.part A C l ≡ given a.part B N l
    by_test true w =
        composed_is_sequence laws (val A l) (val B l) (actions_at M l) (actions_at N l) (actions_at C l)
        (proper_value A l pA)
        (proper_actions M l proper) (proper_actions N l proper') (some_action l w) (at.0 (in_locations (M ++ N) l ∙ w))
        (given_fired a.part A B M l fired)
    by_test false w =
        let parts = neither (writes M l) (writes N l)
        (sym (list_any-append (λ (i : Instruction). eq_by_cmp location_cmp i.at l) M N) ∙ w) in
        ap (gives a.part (val A l)) (at.1 (in_locations (M ++ N) l ∙ w))
        ∙ ap (λ v. Ok v) (sym (val-unwritten a.part A B M l fired parts.0)) ∙ sym (given_unwritten a.part B N l parts.1)

  -- firing the composition is firing the two in turn
  pub composition_is_sequence : (C : Move) → composition a M N ≡ Ok C → IsSequence a.part M N C
  composition_is_sequence C is A pA fires = by_answer (fire a.part A M) refl fires where
    by_answer : (r : Result State Clash) → fire a.part A M ≡ r → IsOk r → fire a.part A C ≡ then_fire a.part r N
    by_answer (Ok B) h f =
        let holds = proper_stored A pA in
        same_fire a.part A B C N (gives_sequence A B C pA h is) holds (fired_stored a.part A B M holds h)
    by_answer (Err c) h f = cc

  -- where a location refuses, the two in turn never fire
  pub refusal_never_fires : (l : Place) (refusal : NoJoin) → composition a M N ≡ Err (l, refusal) →
      NeverFires a.part M N
  refusal_never_fires l refusal is A pA = by_answer (fire a.part A M) refl where
    at : (is_in at_locations l ≡ true) × (composed_at a M N l ≡ Err refusal)
    at = in_turn_refusal (composed_at a M N) at_locations l refusal is

    by_second : (B : State) (r : Result State Clash) → fire a.part A M ≡ Ok B → fire a.part B N ≡ r → IsErr r
    by_second B (Ok D) h k =
        absurd (refused_is_clash laws (val A l) (val B l) (val D l) (actions_at M l) (actions_at N l) refusal
        (proper_value A l pA)
        (proper_actions M l proper) (proper_actions N l proper')
        (some_action l (sym (in_locations (M ++ N) l) ∙ at.0)) at.1
        (given_fired a.part A B M l h) (given_fired a.part B D N l k))
    by_second B (Err c) h k = refl

    by_answer : (r : Result State Clash) → fire a.part A M ≡ r → IsErr (then_fire a.part r N)
    by_answer (Ok B) h = by_second B (fire a.part B N) h refl
    by_answer (Err c) h = refl
