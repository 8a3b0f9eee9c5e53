-- The opening state: no location was written.
use Rattle.std.proofs.Common.{[], false, Option, ap, refl}
use Rattle.std.specs.Option.{option_map_or}
use Rattle.std.specs.FinMap as finite
use Rattle.asm_element.specs.Place.{location_cmp}
use Rattle.asm_update.specs.State.{State, val}
use Rattle.asm_update.specs.Fire.{Part}
use Rattle.asm_state.specs.declared.entries.WrittenValue.{WrittenValue}
use Rattle.asm_state.specs.View.{Entries, StateView, value_over, writer_of, holds_undef, is_unwritten, AreSettled}
use Rattle.asm_state.specs.FollowsFrom.{FollowsFrom}

abbrev nothing : Entries
nothing = finite.empty

abbrev pub opening : State → StateView
opening init = record { number = 0; base = init; entries = nothing }

pub opening_stands : (init : State) (part : Part) → FollowsFrom part init (opening init) []
opening_stands init part = record {
  number = refl;
  values = λ q. ap (value_over (val init q)) (finite.get-empty location_cmp q);
  writers = λ q. ap writer_of (finite.get-empty location_cmp q);
}

pub opening_settled : AreSettled nothing
opening_settled = record {
  no_undef = λ q. ap (λ (x : Option WrittenValue). option_map_or holds_undef x false) (finite.get-empty location_cmp q);
  all_written = λ q. ap (λ (x : Option WrittenValue). option_map_or is_unwritten x false) (finite.get-empty location_cmp q);
}
