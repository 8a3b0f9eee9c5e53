-- A move in ascending order of its locations, and the stretch of its instructions at one of them.
use Rattle.std.specs.Prelude.{◌≡◌, Bool, true, false, List, [], ◌∷◌, ◌++◌, map, drop, ℕ}
use Rattle.std.specs.Borrow.{Bor}
use Rattle.std.specs.List.{AllByRecursion}
use Rattle.std.specs.Ordering.{eq_by_cmp, is_lt}
use Rattle.asm_element.specs.Place.{Place, location_cmp}
use Rattle.asm_update.specs.Move.{Move, actions_at}
use Rattle.asm_update.specs.declared.action.Instruction.{Instruction}

-- the instructions that are referred to
abbrev pub referred : List (Bor Instruction) → Move
referred rs = map (λ r. r.now) rs

-- the instructions that are left of a walk which is through with so many
abbrev pub left_in : List (Bor Instruction) → ℕ → Move
left_in rs done = referred (drop done rs)

-- no location is below an earlier one
abbrev pub IsAscending : Move → Type 0
IsAscending [] = Unit {0}
IsAscending (x ∷ xs) = AllByRecursion (λ y. is_lt (location_cmp y.at x.at) ≡ false) xs × IsAscending xs

-- the move ascends, and does at each location what the other one does
pub record IsArranged (M arranged : Move) : Type 0 where
  pub same : (l : Place) → actions_at arranged l ≡ actions_at M l
  pub ascending : IsAscending arranged

-- whether the first instruction is at the location
abbrev pub starts_at : Place → Move → Bool
starts_at l [] = false
starts_at l (x ∷ xs) = eq_by_cmp location_cmp x.at l

-- the instructions at the location with which the move starts, and the later ones
pub record IsParted (M stretch later : Move) (l : Place) : Type 0 where
  pub starts : starts_at l M ≡ true
  pub whole : M ≡ stretch ++ later
  pub here : AllByRecursion (λ i. eq_by_cmp location_cmp i.at l ≡ true) stretch
  pub ends : starts_at l later ≡ false
