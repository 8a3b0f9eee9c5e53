-- What a closed storage retains.
use Rattle.std.specs.Prelude.{◌≡◌, ℕ, List}
use Rattle.asm_update.specs.Fire.{state_of}
use Rattle.asm_update.specs.State.{State}
use Rattle.asm_storage.specs.History.{fired_moves}
use Rattle.asm_storage.specs.declared.history.History.{History}
use Rattle.asm_journal.specs.Reading.{ReadsAs}
use Rattle.asm_slots.specs.Standard.{part}

-- the bytes read as a journal whose moves leave this state
pub record Leaves (bytes : List ℕ) (S : State) : Type 0 where
  pub history : History
  pub reads : ReadsAs bytes history
  pub left : S ≡ state_of part history.init (fired_moves history.events)
