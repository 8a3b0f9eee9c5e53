-- The bundle of a list of actions, and of one action more.
use Rattle.std.proofs.Common.{◌≡◌, append-nil, Bool, true, false, cond, not, ◌||◌, List, [], ◌∷◌, ◌++◌, map, refl, sym}
use Rattle.std.proofs.Common.{ap, ◌∙◌}
use Rattle.std.specs.Prelude.{Option, None, Some, IsSome, filter}
use Rattle.std.specs.Ordering.{eq_by_cmp}
use Rattle.std.proofs.lemmas.Bool.{false≢true}
use Rattle.std.proofs.lemmas.Option.{same_Some}
use Rattle.asm_element.specs.Place.{Place, location_cmp}
use Rattle.std.specs.List.{filter_map}
use Rattle.std.proofs.lemmas.List.Elements.{filter-append, filter_map-append}
use Rattle.std.proofs.lemmas.List.Folds.{list_any-append}
use Rattle.asm_element.specs.Tests.{or_false, or_true}
use Rattle.asm_element.specs.Value.{value_eq}
use Rattle.asm_element.specs.declared.value.Value.{Value}
use Rattle.asm_update.specs.Action.{is_partial, regular_value}
use Rattle.asm_update.specs.Fire.{first}
use Rattle.asm_update.specs.Move.{Move, actions_at, are_different, writes}
use Rattle.asm_update.specs.declared.action.Action.{Action}
use Rattle.asm_update.specs.declared.action.Action.TheVariants.{Regular}
use Rattle.asm_update.specs.declared.action.Instruction.{Instruction}
use Rattle.asm_update.proofs.ActionLemmas.{IsRegular, IsPartial, kinds, partial_none}
use Rattle.asm_aggregate.specs.Bundle.{Bundle, bundle_of, IsWritten}

abbrev pub parts : Option Value → Bool → List Action → Bundle
parts r d ps = record { regular = r; differ = d; partials = ps }

abbrev pub bundle_from : List Value → List Action → Bundle
bundle_from vs ps = parts (first vs) (are_different vs) ps

-- a regular update more
one_regular : (G : List Action) (v : Value) →
    bundle_of (G ++ Regular v ∷ []) ≡ bundle_from (filter_map regular_value G ++ v ∷ []) (filter is_partial G)
one_regular G v =
    λ i. bundle_from (filter_map-append regular_value G (Regular v ∷ []) i)
    ((filter-append is_partial G (Regular v ∷ []) ∙ append-nil (filter is_partial G)) i)

module _ (G : List Action) (v : Value) (r : Option Value) (d : Bool) (ps : List Action)
    (h : parts r d ps ≡ bundle_of G) where
  pub first_regular : r ≡ None → parts (Some v) d ps ≡ bundle_of (G ++ Regular v ∷ [])
  first_regular none = by_cases (filter_map regular_value G) h ∙ sym (one_regular G v) where
    by_cases : (vs : List Value) → parts r d ps ≡ bundle_from vs (filter is_partial G) →
        parts (Some v) d ps ≡ bundle_from (vs ++ v ∷ []) (filter is_partial G)
    by_cases [] e = λ i. parts (Some v) (e i).differ (e i).partials
    by_cases (u ∷ us) e = let no : Some u ≡ None = sym (λ i. (e i).regular) ∙ none in cc

  differ_more : (w : Value) (us : List Value) (b : Bool) → value_eq w v ≡ b →
      are_different (w ∷ (us ++ v ∷ [])) ≡ (are_different (w ∷ us) || not b)
  differ_more w us b e =
      list_any-append (λ x. not (value_eq w x)) us (v ∷ []) ∙ (λ j. are_different (w ∷ us) || (not (e j) || false))
      ∙ ap (λ c. are_different (w ∷ us) || c) (or_false (not b))

  pub equal_regular : (u : Value) → r ≡ Some u → value_eq u v ≡ true → parts r d ps ≡ bundle_of (G ++ Regular v ∷ [])
  equal_regular u some same = by_cases (filter_map regular_value G) h ∙ sym (one_regular G v) where
    by_cases : (vs : List Value) → parts r d ps ≡ bundle_from vs (filter is_partial G) →
        parts r d ps ≡ bundle_from (vs ++ v ∷ []) (filter is_partial G)
    by_cases [] e = let no : None ≡ Some u = sym (λ i. (e i).regular) ∙ some in cc
    by_cases (w ∷ us) e =
        let is : w ≡ u = same_Some _ _ (sym (λ i. (e i).regular) ∙ some) in
        e ∙ (λ i. parts (Some w) (sym (differ_more w us true (ap (λ x. value_eq x v) is ∙ same) ∙ or_false _) i)
        (filter is_partial G))

  pub other_regular : (u : Value) → r ≡ Some u → value_eq u v ≡ false →
      parts r true ps ≡ bundle_of (G ++ Regular v ∷ [])
  other_regular u some other = by_cases (filter_map regular_value G) h ∙ sym (one_regular G v) where
    by_cases : (vs : List Value) → parts r d ps ≡ bundle_from vs (filter is_partial G) →
        parts r true ps ≡ bundle_from (vs ++ v ∷ []) (filter is_partial G)
    by_cases [] e = let no : None ≡ Some u = sym (λ i. (e i).regular) ∙ some in cc
    by_cases (w ∷ us) e =
        let is : w ≡ u = same_Some _ _ (sym (λ i. (e i).regular) ∙ some) in
        λ i. parts (e i).regular (sym (differ_more w us false (ap (λ x. value_eq x v) is ∙ other) ∙ or_true _) i)
        (e i).partials

partial_value : (x : Action) → is_partial x ≡ true → filter_map regular_value (x ∷ []) ≡ []
partial_value x h = rw (partial_none x h) refl

partial_kept : (x : Action) → is_partial x ≡ true → filter is_partial (x ∷ []) ≡ x ∷ []
partial_kept x h = rw h refl

-- a partial update more
pub one_partial : (G : List Action) (x : Action) (r : Option Value) (d : Bool) (ps : List Action) →
    parts r d ps ≡ bundle_of G → is_partial x ≡ true → parts r d (ps ++ x ∷ []) ≡ bundle_of (G ++ x ∷ [])
one_partial G x r d ps h part =
    (λ i. parts (h i).regular (h i).differ ((h i).partials ++ x ∷ []))
    ∙ sym (λ i. bundle_from
    ((filter_map-append regular_value G (x ∷ [])
    ∙ ap (λ ys. filter_map regular_value G ++ ys) (partial_value x part) ∙ append-nil _) i)
    ((filter-append is_partial G (x ∷ []) ∙ ap (λ ys. filter is_partial G ++ ys) (partial_kept x part)) i))

pub partial_unless : (x : Action) → ((v : Value) → x ≡ Regular v → ⊥) → is_partial x ≡ true
partial_unless x h = elim (kinds x) [ IsRegular v e ↦ absurd (h v e) | IsPartial p n ↦ p ]

-- what is written has an action
pub nothing : (xs : List Action) → filter_map regular_value xs ≡ [] → filter is_partial xs ≡ [] → xs ≡ []
nothing [] h k = refl
nothing (x ∷ xs) h k = elim (kinds x) [
  | IsRegular v e ↦ let some = rw e at h in cc
  | IsPartial p n ↦ let some = rw p at k in cc
]

pub no_actions : (M : Move) (l : Place) → actions_at M l ≡ [] → writes M l ≡ false
no_actions [] l h = refl
no_actions (x ∷ xs) l h = by_test (eq_by_cmp location_cmp x.at l) (no_actions xs l) h where
  by_test : (b : Bool) → (actions_at xs l ≡ [] → writes xs l ≡ false) →
      map (λ (i : Instruction). i.action)
      (cond b (x ∷ filter (λ (i : Instruction). eq_by_cmp location_cmp i.at l) xs)
      (filter (λ (i : Instruction). eq_by_cmp location_cmp i.at l) xs)) ≡ [] → (b || writes xs l) ≡ false
  by_test true later h = cc
  by_test false later h = later h

pub written_bundle : (M : Move) (l : Place) → writes M l ≡ true → IsWritten (bundle_of (actions_at M l))
written_bundle M l w none = by_values (filter_map regular_value (actions_at M l)) refl where
  by_values : (vs : List Value) → filter_map regular_value (actions_at M l) ≡ vs → IsSome (first vs)
  by_values [] e = absurd (false≢true (sym (no_actions M l (nothing (actions_at M l) e none)) ∙ w))
  by_values (v ∷ vs) e = refl
