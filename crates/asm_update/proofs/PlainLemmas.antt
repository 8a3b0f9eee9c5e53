-- Firing a move of regular updates: where it is consistent, the writes in the order of the list.
use Rattle.std.proofs.Common.{◌≡◌, Bool, true, false, cond, not, ◌||◌, List, [], ◌∷◌, map, Option, refl, sym, ap, subst, ◌∙◌}
use Rattle.std.specs.Prelude.{Ok, Err, IsOk, filter}
use Rattle.std.specs.List.{list_any, list_all, filter_map, cons_option}
use Rattle.std.specs.declared.cmp.Ordering.TheVariants.{Less}
use Rattle.std.specs.Ordering.{eq_by_cmp, is_gt, ordering_reverse}
use Rattle.std.specs.FinMap as finite
use Rattle.std.proofs.lemmas.Bool.{false≢true}
use Rattle.asm_element.specs.declared.value.Value.{Value}
use Rattle.asm_element.specs.Place.{Place, location_cmp, location_cmp_total}
use Rattle.asm_element.specs.Tests.{both, neither, flipped, true_from_not}
use Rattle.asm_element.specs.Value.{value_eq}
use Rattle.asm_element.proofs.Same.{same_value}
use Rattle.asm_update.specs.Action.{regular_value, is_regular, is_partial}
use Rattle.asm_update.specs.Move.{Move, actions_at, writes, regular_values, are_different, has_two, IsLeast}
use Rattle.asm_update.specs.State.{State, val, write}
use Rattle.asm_update.specs.Fire.{Part, GroupResult, result_at, group_result, first, fire}
use Rattle.asm_update.specs.declared.action.Action.{Action}
use Rattle.asm_update.specs.declared.action.Action.TheVariants.{Regular}
use Rattle.asm_update.specs.declared.action.Instruction.{Instruction}
use Rattle.asm_update.specs.declared.clash.Cause.TheVariants.{Two}
use Rattle.asm_update.proofs.FireLemmas.{stored, get-write, fires_to, fire_clash}

-- the state after one instruction, of which a partial one writes nothing
abbrev pub write_action : State → Place → Action → State
write_action A l (Regular v) = write A l v
write_action A l _ = A

-- the state after the writes of a list, in its order
abbrev pub write_in_order : State → Move → State
write_in_order A [] = A
write_in_order A (m ∷ M) = write_in_order (write_action A m.at m.action) M

-- what is held after the values in turn
abbrev last_stored : Option Value → List Value → Option Value
last_stored x [] = x
last_stored x (v ∷ vs) = last_stored (stored v) vs

module _ (q : Place) where
  -- the actions at q, if the first instruction is there or not
  abbrev actions_by : Bool → Instruction → Move → List Action
  actions_by b m M = map (λ i. i.action) (cond b (m ∷ filter (λ i. eq_by_cmp location_cmp i.at q) M) (filter (λ i. eq_by_cmp location_cmp i.at q) M))

  one_action : (b : Bool) (A : State) (m : Instruction) (M : Move) → eq_by_cmp location_cmp m.at q ≡ b → (a : Action) →
      last_stored (finite.get (write_action A m.at a) q) (regular_values M q) ≡ last_stored (finite.get A q) (filter_map regular_value (cond b (a ∷ actions_at M q) (actions_at M q)))
  one_action true A m M is (Regular v) = ap (λ x. last_stored x (regular_values M q)) (get-write A m.at v q ∙ ap (λ b. cond b (stored v) (finite.get A q)) (flipped location_cmp_total q m.at ∙ is))
  one_action false A m M is (Regular v) = ap (λ x. last_stored x (regular_values M q)) (get-write A m.at v q ∙ ap (λ b. cond b (stored v) (finite.get A q)) (flipped location_cmp_total q m.at ∙ is))
  one_action true A m M is _ = refl
  one_action false A m M is _ = refl

  actions_of : (b : Bool) (m : Instruction) (M : Move) → actions_by b m M ≡ cond b (m.action ∷ actions_at M q) (actions_at M q)
  actions_of true m M = refl
  actions_of false m M = refl

  get-write_in_order : (A : State) (M : Move) → finite.get (write_in_order A M) q ≡ last_stored (finite.get A q) (regular_values M q)
  get-write_in_order A [] = refl
  get-write_in_order A (m ∷ M) =
      get-write_in_order (write_action A m.at m.action) M ∙ one_action (eq_by_cmp location_cmp m.at q) A m M refl m.action
      ∙ ap (λ G. last_stored (finite.get A q) (filter_map regular_value G)) (sym (actions_of (eq_by_cmp location_cmp m.at q) m M))

  -- in a list of regular updates no action is partial, and a location that is written has a value
  abbrev IsRegularMove : Move → Type 0
  IsRegularMove M = list_all (λ i. is_regular i.action) M ≡ true

  not_partial : (a : Action) → is_regular a ≡ true → is_partial a ≡ false
  not_partial (Regular v) h = refl
  not_partial _ h = cc

  no_partials : (M : Move) → IsRegularMove M → filter is_partial (actions_at M q) ≡ []
  no_partials [] h = refl
  no_partials (m ∷ M) h = let parts = both (is_regular m.action) (list_all (λ i. is_regular i.action) M) h in by_test (eq_by_cmp location_cmp m.at q) (no_partials M parts.1) (not_partial m.action parts.0) where
    by_test : (b : Bool) → filter is_partial (actions_at M q) ≡ [] → is_partial m.action ≡ false → filter is_partial (actions_by b m M) ≡ []
    by_test true later whole = ap (λ c. cond c (m.action ∷ filter is_partial (actions_at M q)) (filter is_partial (actions_at M q))) whole ∙ later
    by_test false later whole = later

  abbrev has_some : List Value → Bool
  has_some [] = false
  has_some (v ∷ vs) = true

  has_value : (a : Action) (vs : List Value) → is_regular a ≡ true → has_some (cons_option (regular_value a) vs) ≡ true
  has_value (Regular v) vs h = refl
  has_value _ vs h = cc

  writes_value : (M : Move) → IsRegularMove M → has_some (regular_values M q) ≡ writes M q
  writes_value [] h = refl
  writes_value (m ∷ M) h = let parts = both (is_regular m.action) (list_all (λ i. is_regular i.action) M) h in by_test (eq_by_cmp location_cmp m.at q) (writes_value M parts.1) (has_value m.action (regular_values M q) parts.0) where
    by_test : (b : Bool) → has_some (regular_values M q) ≡ writes M q → has_some (cons_option (regular_value m.action) (regular_values M q)) ≡ true → has_some (filter_map regular_value (actions_by b m M)) ≡ (b || writes M q)
    by_test true later here = here
    by_test false later here = later

-- values that don't differ leave the first
alike_stored : (v : Value) (vs : List Value) → list_any (λ w. not (value_eq v w)) vs ≡ false → last_stored (stored v) vs ≡ stored v
alike_stored v [] h = refl
alike_stored v (w ∷ vs) h =
    let parts = neither (not (value_eq v w)) (list_any (λ w. not (value_eq v w)) vs) h in
    ap (λ u. last_stored (stored u) vs) (sym (same_value v w (true_from_not _ _ refl parts.0))) ∙ alike_stored v vs parts.1

module _ (part : Part) (A : State) (M : Move) (regular : list_all (λ i. is_regular i.action) M ≡ true) where
  abbrev outcome_by : Place → List Value → List Action → GroupResult
  outcome_by l vs ps = cond (are_different vs) (Err Two) (group_result part (val A l) (first vs) ps)

  outcome_is : (l : Place) (vs : List Value) → regular_values M l ≡ vs → result_at part (val A) M l ≡ outcome_by l vs []
  outcome_is l vs e = ap (λ us. outcome_by l us (filter is_partial (actions_at M l))) e ∙ ap (outcome_by l vs) (no_partials l M regular)

  agreed : (l : Place) (vs : List Value) → regular_values M l ≡ vs → has_some l vs ≡ true → are_different vs ≡ false → (v : Value) × (result_at part (val A) M l ≡ Ok v) × (finite.get (write_in_order A M) l ≡ stored v)
  agreed l [] e some alike = cc
  agreed l (v ∷ vs) e some alike = (
    v,
    outcome_is l (v ∷ vs) e ∙ ap (λ b. cond b (Err Two) (Ok v)) alike,
    get-write_in_order l A M ∙ ap (last_stored (finite.get A l)) e ∙ alike_stored v vs alike,
  )

  silent : (l : Place) (vs : List Value) → regular_values M l ≡ vs → has_some l vs ≡ false → finite.get (write_in_order A M) l ≡ finite.get A l
  silent l [] e none = get-write_in_order l A M ∙ ap (last_stored (finite.get A l)) e
  silent l (v ∷ vs) e none = cc

  -- a consistent list of regular updates: the writes in their order
  pub plain_fires : ((l : Place) → has_two M l ≡ false) → fire part A M ≡ Ok (write_in_order A M)
  plain_fires alike = fires_to part A M (write_in_order A M)
      (λ l w. agreed l (regular_values M l) refl (writes_value l M regular ∙ w) (alike l))
      (λ l w. silent l (regular_values M l) refl (writes_value l M regular ∙ w))

  different_some : (l : Place) (vs : List Value) → are_different vs ≡ true → has_some l vs ≡ true
  different_some l [] h = cc
  different_some l (v ∷ vs) h = refl

  no_two : (l k : Place) → IsLeast (has_two M) l → location_cmp k l ≡ Less → (b : Bool) → has_two M k ≡ b → b ≡ false
  no_two l k least lt true e = absurd (false≢true (sym (least.least k e) ∙ ap is_gt (location_cmp_total.antisymm l k) ∙ ap (λ o. is_gt (ordering_reverse o)) lt))
  no_two l k least lt false e = refl

  -- and one that isn't: the clash at the least location with two values
  pub plain_clashes : (l : Place) → IsLeast (has_two M) l → fire part A M ≡ Err (record { at = l; cause = Two })
  plain_clashes l least = fire_clash part A M (record { at = l; cause = Two }) (record {
    written = sym (writes_value l M regular) ∙ different_some l (regular_values M l) least.passes;
    cause = outcome_is l (regular_values M l) refl ∙ ap (λ b. cond b (Err Two) (group_result part (val A l) (first (regular_values M l)) [])) least.passes;
    least = λ k lt w.
        let got = agreed k (regular_values M k) refl (writes_value k M regular ∙ w) (no_two l k least lt (has_two M k) refl) in
        subst IsOk (sym got.1) refl;
  })
