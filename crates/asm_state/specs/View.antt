-- What contracts see of a state with the numbers of its writers.
use Rattle.std.specs.Prelude.{◌≡◌, ℕ, Bool, false, ◌==◌, Option, Some, None, unwrap_or, refl}
use Rattle.std.specs.Option.{option_map_or}
use Rattle.std.specs.Coded.{Coded, code_by, coded×, coded_ℕ}
use Rattle.std.specs.FinMap as map
use Rattle.asm_element.specs.Place.{Place, location_cmp}
use Rattle.asm_element.specs.Value.{undef, is_undef}
use Rattle.asm_element.specs.declared.value.Value.{Value}
use Rattle.asm_update.specs.State.{State, val}
use Rattle.asm_state.specs.declared.entries.WrittenValue.{WrittenValue}

-- what locations hold that moves wrote, and which move wrote each last
abbrev pub Entries : Type 0
Entries = map.FinMap location_cmp WrittenValue

-- how many moves it has followed, the state that it opened with, and what the locations hold that a move wrote
pub record StateView : Type 0 where
  pub number : ℕ
  pub base : State
  pub entries : Entries

-- it is stored as a tuple
abbrev pub view_code : Coded State → Coded Entries → Coded StateView
view_code b e =
    code_by (ℕ × (State × Entries)) (coded× coded_ℕ (coded× b e)) (λ s. (s.number, (s.base, s.entries)))
    (λ p. record { number = p.0; base = p.1.0; entries = p.1.1 }) (λ _. refl)

-- the value of a location that opened with this one: that of its entry, which is undef where it has none
abbrev pub value_over : Value → Option WrittenValue → Value
value_over opening None = opening
value_over opening (Some w) = unwrap_or w.value undef

-- the value of an entry; where there is none, or it has none, undef
abbrev pub value_of : Option WrittenValue → Value
value_of x = value_over undef x

-- the number of the move that wrote an entry; 0 where there is none
abbrev pub writer_of : Option WrittenValue → ℕ
writer_of None = 0
writer_of (Some w) = w.writer

-- the value at a location: what the last move wrote there, else that of the opening state
abbrev pub value_at : StateView → Place → Value
value_at s l = value_over (val s.base l) (map.get s.entries l)

-- the number of the move that wrote a location last
abbrev pub writer_at : StateView → Place → ℕ
writer_at s l = writer_of (map.get s.entries l)

-- whether an entry keeps undef as a value of its own
abbrev pub holds_undef : WrittenValue → Bool
holds_undef w = option_map_or is_undef w.value false

-- whether no move wrote an entry
abbrev pub is_unwritten : WrittenValue → Bool
is_unwritten w = w.writer == 0

-- each entry is settled: none keeps undef as a value, and a move wrote each
pub record AreSettled (es : Entries) : Type 0 where
  pub no_undef : (l : Place) → option_map_or holds_undef (map.get es l) false ≡ false
  pub all_written : (l : Place) → option_map_or is_unwritten (map.get es l) false ≡ false
