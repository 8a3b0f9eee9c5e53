-- A state that follows a move: what its entries are afterwards.
use Rattle.std.specs.Prelude.{◌≡◌, ℕ, ◌+◌, Option, Some, None, Ok, Err, if◌then◌else◌}
use Rattle.std.specs.FinMap as map
use Rattle.std.specs.Option.{option_map}
use Rattle.asm_element.specs.Place.{Place}
use Rattle.asm_element.specs.Value.{is_undef}
use Rattle.asm_element.specs.declared.value.Value.{Value}
use Rattle.asm_update.specs.Move.{Move}
use Rattle.asm_update.specs.State.{Updates}
use Rattle.asm_update.specs.Fire.{Part, aggregated}
use Rattle.asm_update.specs.declared.clash.Clash.{Clash}
use Rattle.asm_state.specs.declared.entries.WrittenValue.{WrittenValue}
use Rattle.asm_state.specs.View.{StateView, value_at}

-- the entry of a location to which the move with this number writes the value
abbrev pub written_by : ℕ → Value → WrittenValue
written_by n v = record { value = if is_undef v then None else Some v; writer = n }

-- the first, if there is one, else the second
abbrev pub over : {X : Type 0} → Option X → Option X → Option X
over (Some w) x = Some w
over None x = x

-- the entry of a location after its update in the move with this number, or unchanged
abbrev pub entry_after : ℕ → Option Value → Option WrittenValue → Option WrittenValue
entry_after n update old = over (option_map (written_by n) update) old

-- the new state is the old one after the move: it has followed one more, and opened as it did; where the
-- move has an update set, each location has its update, and where it clashes, no entry changes
pub record IsFollowed (part : Part) (old : StateView) (M : Move) (new : StateView) : Type 0 where
  pub number : new.number ≡ old.number + 1
  pub base : new.base ≡ old.base
  pub fired : (U : Updates) → aggregated part (value_at old) M ≡ Ok U →
      (l : Place) → map.get new.entries l ≡ entry_after (old.number + 1) (map.get U l) (map.get old.entries l)
  pub clashed : (c : Clash) → aggregated part (value_at old) M ≡ Err c → new.entries ≡ old.entries
