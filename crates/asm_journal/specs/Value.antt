-- The JSON of values, and of states: pairs of a location and its value.
use Rattle.std.specs.Prelude.{◌≡◌, List, codes}
use Rattle.std.specs.Map.{keys_of}
use Rattle.serde_json.specs.Data.{Data}
use Rattle.asm_element.specs.Place as place
use Rattle.asm_element.specs.Place.{Place}
use Rattle.asm_element.specs.declared.value.Value.{Value}
use Rattle.asm_element.specs.declared.value.Value.TheVariants as values
use Rattle.asm_update.specs.State as state
use Rattle.asm_update.specs.State.{State, write_all}
use Rattle.asm_journal.specs.Shape.{AreDistinct, IsMadeForm, pair_of, one_of}
use Rattle.asm_journal.specs.Element.{element_json_of, location_json_of, IsElementForm, IsLocationForm}
use Rattle.asm_journal.specs.Set.{set_json_of, bag_json_of, IsSetForm, IsBagForm}

-- the JSON of a value: an element, {"set":[ELEMENT, ..]} or {"bag":[[ELEMENT,COUNT], ..]}
abbrev pub value_json_of : Value → Data
value_json_of (values.Plain x) = element_json_of x
value_json_of (values.Set s) = set_json_of s
value_json_of (values.Bag b) = bag_json_of b

-- an element, or an object whose only member is a set or a bag
abbrev pub IsValueForm : Value → Data → Type 0
IsValueForm (values.Plain x) d = IsElementForm x d
IsValueForm (values.Set s) d = (items : Data) × (d ≡ one_of (codes "set") items) × IsSetForm s items
IsValueForm (values.Bag b) d = (items : Data) × (d ≡ one_of (codes "bag") items) × IsBagForm b items

-- the JSON of a location with its value: [LOC,VALUE]
abbrev pub pair_json_of : Place × Value → Data
pair_json_of p = pair_of (location_json_of p.0) (value_json_of p.1)

-- a location and its value
abbrev pub IsPairForm : Place × Value → Data → Type 0
IsPairForm p d = (at value : Data) × (d ≡ pair_of at value) × IsLocationForm p.0 at × IsValueForm p.1 value

-- no location is there twice, and the state has these values at their locations; undef is no value
abbrev pub IsStateOf : State → List (Place × Value) → Type 0
IsStateOf A ps = AreDistinct place.location_cmp (keys_of ps) × (A ≡ write_all state.empty ps)

-- [PAIR, ..], in any order
abbrev pub IsStateForm : State → Data → Type 0
IsStateForm = IsMadeForm IsPairForm IsStateOf
