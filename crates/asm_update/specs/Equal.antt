-- `==` of actions, instructions, lists of them and states decides whether they are the same.
use Rattle.std.specs.Prelude.{◌≡◌, ◌&&◌, ◌==◌, ℕ, zero, suc, pos, Bool, true, List, unwrap_or, refl}
use Rattle.std.proofs.Common.{sym, ap, ◌∙◌}
use Rattle.std.specs.Cmp.{IsEquivalence, decided, unsigned_Decides}
use Rattle.std.specs.Cmp.Lexicographic.{pointwise}
use Rattle.std.specs.Ordering.{on, eq_by_cmp}
use Rattle.std.specs.FinMap as map
use Rattle.asm_element.specs.Element.{number_in}
use Rattle.asm_element.specs.Items.{IsIdentity}
use Rattle.asm_element.specs.Place.{Place, location_cmp}
use Rattle.asm_element.specs.Same.{location_eq-same, value_eq-same, pointwise-IsIdentity}
use Rattle.asm_element.specs.Tests.{both, and_from}
use Rattle.asm_element.specs.Value.{value_eq}
use Rattle.asm_element.specs.declared.value.Value.{Value}
use Rattle.asm_update.specs.Action.{kind_number, amount_of, content_of, action_eq, instruction_eq}
use Rattle.asm_element.specs.declared.value.Value.TheVariants.{Plain}
use Rattle.asm_update.specs.State.{State}
use Rattle.asm_update.specs.declared.action.Action.{Action}
use Rattle.asm_update.specs.declared.action.Action.TheVariants.{Regular, SetAdd, SetRemove, BagAdd, BagRemove, Increment}
use Rattle.asm_update.specs.declared.action.Instruction.{Instruction}

-- the action of this kind, amount and content
abbrev action_of : ℕ → ℕ → Value → Action
action_of (suc zero) n (Plain e) = SetAdd e
action_of (suc (suc zero)) n (Plain e) = SetRemove e
action_of (suc (suc (suc zero))) n (Plain e) = BagAdd e n
action_of (suc (suc (suc (suc zero)))) n (Plain e) = BagRemove e n
action_of (suc (suc (suc (suc (suc zero))))) n (Plain e) = Increment (unwrap_or (number_in e) (pos 0))
action_of _ n v = Regular v

action_of-parts : (a : Action) → action_of (kind_number a) (amount_of a) (content_of a) ≡ a
action_of-parts (Regular v) = refl
action_of-parts (SetAdd e) = refl
action_of-parts (SetRemove e) = refl
action_of-parts (BagAdd e n) = refl
action_of-parts (BagRemove e n) = refl
action_of-parts (Increment n) = refl

same_action : (a b : Action) → action_eq a b ≡ true → a ≡ b
same_action a b h =
    let parts = both (kind_number a == kind_number b) _ h in
    let others = both (amount_of a == amount_of b) _ parts.1 in
    let kind = (unsigned_Decides (kind_number a) (kind_number b)).0 parts.0 in
    let amount = (unsigned_Decides (amount_of a) (amount_of b)).0 others.0 in
    let content = (value_eq-same (content_of a) (content_of b)).0 others.1 in
    sym (action_of-parts a) ∙ (λ i. action_of (kind i) (amount i) (content i)) ∙ action_of-parts b

action_itself : (a : Action) → action_eq a a ≡ true
action_itself a =
    let amount = (unsigned_Decides (amount_of a) (amount_of a)).1 refl in
    let content = (value_eq-same (content_of a) (content_of a)).1 refl in
    and_from _ _ ((unsigned_Decides (kind_number a) (kind_number a)).1 refl) (and_from _ _ amount content)

pub action_eq-same : IsIdentity action_eq
action_eq-same a b = (same_action a b, λ e. ap (action_eq a) (sym e) ∙ action_itself a)

pub action_eq-equiv : IsEquivalence action_eq
action_eq-equiv = decided action_eq action_eq-same

pub instruction_eq-same : IsIdentity instruction_eq
instruction_eq-same i k = (
  λ h.
      let parts = both (eq_by_cmp location_cmp i.at k.at) (action_eq i.action k.action) h in
      let at = (location_eq-same i.at k.at).0 parts.0 in
      let action = same_action i.action k.action parts.1 in
      λ j. record { at = at j; action = action j },
  λ e.
      (λ j. (location_eq-same i.at k.at).1 (λ n. (e n).at) j && action_eq i.action k.action)
      ∙ (action_eq-same i.action k.action).1 (λ n. (e n).action),
)

pub instruction_eq-equiv : IsEquivalence instruction_eq
instruction_eq-equiv = decided instruction_eq instruction_eq-same

-- whether two moves have equal instructions, one by one
abbrev pub move_eq : List Instruction → List Instruction → Bool
move_eq = pointwise instruction_eq

pub move_eq-same : IsIdentity move_eq
move_eq-same = pointwise-IsIdentity instruction_eq instruction_eq-same

pub move_eq-equiv : IsEquivalence move_eq
move_eq-equiv = decided move_eq move_eq-same

-- whether two locations with their values are equal
abbrev pub entry_eq : Place × Value → Place × Value → Bool
entry_eq p q = eq_by_cmp location_cmp p.0 q.0 && value_eq p.1 q.1

-- whether two states have equal entries, in order
abbrev pub state_eq : State → State → Bool
state_eq = on map.entries (pointwise entry_eq)

entry_eq-same : IsIdentity entry_eq
entry_eq-same p q = (
  λ h.
      let parts = both (eq_by_cmp location_cmp p.0 q.0) (value_eq p.1 q.1) h in
      λ i. ((location_eq-same p.0 q.0).0 parts.0 i, (value_eq-same p.1 q.1).0 parts.1 i),
  λ e. and_from _ _ ((location_eq-same p.0 q.0).1 (λ n. (e n).0)) ((value_eq-same p.1 q.1).1 (λ n. (e n).1)),
)

pub state_eq-same : IsIdentity state_eq
state_eq-same A B = (
  λ h. map.same_entries_map A B ((pointwise-IsIdentity entry_eq entry_eq-same (map.entries A) (map.entries B)).0 h),
  λ e. (pointwise-IsIdentity entry_eq entry_eq-same (map.entries A) (map.entries B)).1 (ap map.entries e),
)

pub state_eq-equiv : IsEquivalence state_eq
state_eq-equiv = decided state_eq state_eq-same
