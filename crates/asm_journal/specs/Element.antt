-- The JSON of whole numbers, elements and locations.
use Rattle.std.specs.Prelude.{◌≡◌, ℤ, FitsSigned, map, codes}
use Rattle.std.specs.Int.{w64}
use Rattle.serde_json.specs.Data.{Data, null, boolean, number, string, array, Items, no_items, item}
use Rattle.serde_json.specs.Find.{of_integer}
use Rattle.serde_json.specs.View.{items_of}
use Rattle.asm_element.specs.Datum as datum
use Rattle.asm_element.specs.Datum.{Datum, Sequence}
use Rattle.asm_element.specs.View.{datum as datum_of}
use Rattle.asm_element.specs.Element as element
use Rattle.asm_element.specs.Place as place
use Rattle.asm_element.specs.Place.{Place}
use Rattle.asm_element.specs.declared.element.Element.{Element}
use Rattle.asm_journal.specs.Shape.{one_of}

-- a whole number, which may be below 0
abbrev pub integer_json_of : ℤ → Data
integer_json_of z = number (of_integer z)

-- a whole number in the range of i64
abbrev pub IsIntegerForm : ℤ → Data → Type 0
IsIntegerForm z d = FitsSigned w64 z × (d ≡ integer_json_of z)

-- the JSON of an element: null, true, false, a whole number, a string, {"list":[ELEMENT, ..]}
abbrev mutual
  pub datum_json_of : Datum → Data
  datum_json_of datum.undef = null
  datum_json_of (datum.truth b) = boolean b
  datum_json_of (datum.number z) = integer_json_of z
  datum_json_of (datum.text s) = string s
  datum_json_of (datum.list ds) = one_of (codes "list") (array (items_json_of ds))

  pub items_json_of : Sequence → Items
  items_json_of datum.nothing = no_items
  items_json_of (datum.item d ds) = item (datum_json_of d) (items_json_of ds)

-- the JSON of an element
abbrev pub element_json_of : Element → Data
element_json_of x = datum_json_of (datum_of x)

-- the JSON of an element that a program can hold
abbrev pub IsElementForm : Element → Data → Type 0
IsElementForm x d = element.IsProper x × (d ≡ element_json_of x)

-- the JSON of a location: an array of the name and then the arguments
abbrev pub location_json_of : Place → Data
location_json_of p = array (item (string p.name) (items_of (map element_json_of p.args)))

-- the JSON of a location that a program can hold
abbrev pub IsLocationForm : Place → Data → Type 0
IsLocationForm p d = place.IsProper p × (d ≡ location_json_of p)
