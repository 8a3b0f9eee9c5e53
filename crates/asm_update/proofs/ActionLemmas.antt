-- An action is a regular update or a partial one.
use Rattle.std.specs.Prelude.{◌≡◌, true, false, None, refl}
use Rattle.std.proofs.Common.{ap}
use Rattle.asm_element.specs.declared.value.Value.{Value}
use Rattle.asm_update.specs.Action.{is_partial, regular_value}
use Rattle.asm_update.specs.declared.action.Action.{Action}
use Rattle.asm_update.specs.declared.action.Action.TheVariants.{Regular, SetAdd, SetRemove, BagAdd, BagRemove, Increment}

-- it writes a value, or it is of a family and writes none
pub data Kinds (a : Action) : Type 0 where
  IsRegular : (v : Value) → a ≡ Regular v → Kinds a
  IsPartial : is_partial a ≡ true → regular_value a ≡ None → Kinds a

pub kinds : (a : Action) → Kinds a
kinds (Regular v) = IsRegular v refl
kinds (SetAdd e) = IsPartial refl refl
kinds (SetRemove e) = IsPartial refl refl
kinds (BagAdd e n) = IsPartial refl refl
kinds (BagRemove e n) = IsPartial refl refl
kinds (Increment n) = IsPartial refl refl

pub partial_none : (a : Action) → is_partial a ≡ true → regular_value a ≡ None
partial_none a h = elim (kinds a) [
  | IsRegular v e ↦ let none : is_partial a ≡ false = ap is_partial e in cc
  | IsPartial p n ↦ n
]
