-- The JSON of sets and bags: written in ascending order, and read in any order. No element is there twice.
use Rattle.std.specs.Prelude.{◌≡◌, ℕ, List, [], ◌∷◌, map, codes}
use Rattle.std.specs.Map.{keys_of}
use Rattle.serde_json.specs.Data.{Data, array, Items}
use Rattle.serde_json.specs.View.{items_of}
use Rattle.asm_element.specs.Element as element
use Rattle.asm_element.specs.Set as set
use Rattle.asm_element.specs.Bag as bag
use Rattle.asm_element.specs.declared.element.Element.{Element}
use Rattle.asm_journal.specs.Shape.{AreDistinct, IsMadeForm, list_of, pair_of, one_of, number_json_of}
use Rattle.asm_journal.specs.Element.{element_json_of, IsElementForm}

-- {"set":[ELEMENT, ..]}
abbrev pub set_json_of : set.ElementSet → Data
set_json_of s = one_of (codes "set") (list_of (map element_json_of (set.elements s)))

-- [ELEMENT,COUNT]
abbrev pub count_json_of : Element × ℕ → Data
count_json_of p = pair_of (element_json_of p.0) (number_json_of p.1)

-- {"bag":[[ELEMENT,COUNT], ..]}
abbrev pub bag_json_of : bag.ElementBag → Data
bag_json_of b = one_of (codes "bag") (list_of (map count_json_of (bag.entries b)))

-- the set of these elements
abbrev pub IsSetOf : set.ElementSet → List Element → Type 0
IsSetOf s es = AreDistinct element.element_cmp es × (s ≡ set.from_list es)

-- [ELEMENT, ..]
abbrev pub IsSetForm : set.ElementSet → Data → Type 0
IsSetForm = IsMadeForm IsElementForm IsSetOf

-- a count or an amount: a whole number from 1 to 4,294,967,295
abbrev pub IsAmountForm : ℕ → Data → Type 0
IsAmountForm n d = bag.IsCount n × (d ≡ number_json_of n)

-- two items: an element, and its count or an amount of it
abbrev pub IsCounted : Element × ℕ → Items → Type 0
IsCounted p ds =
    (e n : Data) × (ds ≡ items_of (e ∷ n ∷ [])) × IsElementForm p.0 e × IsAmountForm p.1 n

-- [ELEMENT,COUNT]
abbrev pub IsCountForm : Element × ℕ → Data → Type 0
IsCountForm p d = (ds : Items) × (d ≡ array ds) × IsCounted p ds

-- the bag with these counts
abbrev pub bag_of : List (Element × ℕ) → bag.ElementBag
bag_of [] = bag.empty
bag_of (p ∷ ps) = bag.set_count (bag_of ps) p.0 p.1

-- the bag of these elements, each with its count
abbrev pub IsBagOf : bag.ElementBag → List (Element × ℕ) → Type 0
IsBagOf b ps = AreDistinct element.element_cmp (keys_of ps) × (b ≡ bag_of ps)

-- [[ELEMENT,COUNT], ..]
abbrev pub IsBagForm : bag.ElementBag → Data → Type 0
IsBagForm = IsMadeForm IsCountForm IsBagOf
