-- The regular values of a move at a location, one instruction at a time.
use Rattle.std.proofs.Common.{◌≡◌, true, cond, List, [], ◌∷◌, Option, Some, None, Bor, refl, ap}
use Rattle.std.specs.Prelude as list
use Rattle.std.specs.List.{filter_map, cons_option}
use Rattle.std.specs.Ordering.{eq_by_cmp}
use Rattle.asm_element.specs.Place.{Place, location_cmp}
use Rattle.asm_element.specs.declared.value.Value.{Value}
use Rattle.asm_update.specs.Action.{regular_value}
use Rattle.asm_update.specs.Move.{Move, regular_values}
use Rattle.asm_update.specs.declared.action.Action.{Action}
use Rattle.asm_update.specs.declared.action.Action.TheVariants.{Regular}
use Rattle.asm_update.specs.declared.action.Instruction.{Instruction}

-- the value that an option refers to, as a list
abbrev pub listed : Option (Bor Value) → List Value
listed None = []
listed (Some v) = v.now ∷ []

pub regular_values-cons : (m : Instruction) (M : Move) (l : Place) → eq_by_cmp location_cmp m.at l ≡ true → regular_values (m ∷ M) l ≡ cons_option (regular_value m.action) (regular_values M l)
regular_values-cons m M l here =
    ap (λ b. filter_map regular_value (list.map (λ i. i.action) (cond b (m ∷ list.filter (λ i. eq_by_cmp location_cmp i.at l) M) (list.filter (λ i. eq_by_cmp location_cmp i.at l) M)))) here

pub no_value : (a : Action) → ((v : Value) → a ≡ Regular v → ⊥) → regular_value a ≡ None
no_value (Regular v) h = absurd (h v refl)
no_value _ h = refl
