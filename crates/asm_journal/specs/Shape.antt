-- The shapes of arrays and objects, what reading answers, what a text begins with, and the versions of a journal: version 2
-- has lists, and version 1 has none.
use Rattle.std.specs.Prelude.{◌≡◌, ◌<◌, ◌^◌, ℕ, List, [], ◌∷◌, Option, Some, None, Bool, false, ◌++◌, ◌⊎◌, ◌||◌, codes}
use Rattle.std.specs.List.{IsDistinct}
use Rattle.std.specs.Str.{bytes_eq}
use Rattle.std.specs.Ordering.{eq_by_cmp}
use Rattle.std.specs.declared.cmp.Ordering.{Ordering}
use Rattle.serde_json.specs.Data.{Data, null, boolean, number, string, array, object, unsigned}
use Rattle.serde_json.specs.Data.{Items, no_items, item, Members, no_members, member}
use Rattle.serde_json.specs.View.{items_of}
use Rattle.serde_json.specs.Written.{compact_text, items_text}

-- what reading answers: an x with this form, or None where no x has it
abbrev pub IsParsed : {X J : Type 0} → (X → J → Type 0) → J → Option X → Type 0
IsParsed IsForm d (Some x) = IsForm x d
IsParsed {X} IsForm d None = (x : X) → ¬ IsForm x d

-- as many items as values, and each item is the form of the value in its place
abbrev pub AreForms : {X : Type 0} → (X → Data → Type 0) → List X → Items → Type 0
AreForms IsForm [] no_items = Unit {0}
AreForms IsForm [] (item d ds) = ⊥
AreForms IsForm (x ∷ xs) no_items = ⊥
AreForms IsForm (x ∷ xs) (item d ds) = IsForm x d × AreForms IsForm xs ds

-- an array of the values' forms, in their order
abbrev pub IsListForm : {X : Type 0} → (X → Data → Type 0) → List X → Data → Type 0
IsListForm IsForm xs d = (ds : Items) × (d ≡ array ds) × AreForms IsForm xs ds

-- no two keys of the list are equal
abbrev pub AreDistinct : {K : Type 0} → (K → K → Ordering) → List K → Type 0
AreDistinct cmp = IsDistinct (eq_by_cmp cmp)

-- an array of the forms of the values that y is made of
abbrev pub IsMadeForm : {X Y : Type 0} → (X → Data → Type 0) → (Y → List X → Type 0) → Y → Data → Type 0
IsMadeForm {X} IsForm IsMadeOf y d = (xs : List X) × IsListForm IsForm xs d × IsMadeOf y xs

-- one item alone, the form of x
abbrev pub IsOnly : {X : Type 0} → (X → Data → Type 0) → X → Items → Type 0
IsOnly IsForm x ds = (d : Data) × (ds ≡ items_of (d ∷ [])) × IsForm x d

-- the array of these values
abbrev pub list_of : List Data → Data
list_of ds = array (items_of ds)

-- the array of two values
abbrev pub pair_of : Data → Data → Data
pair_of a b = list_of (a ∷ b ∷ [])

-- the object with this member alone
abbrev pub one_of : List ℕ → Data → Data
one_of key d = object (member key d no_members)

-- the object with these two members alone
abbrev pub two_of : List ℕ → Data → List ℕ → Data → Data
two_of k a l b = object (member k a (member l b no_members))

-- the object with these three members alone
abbrev pub three_of : List ℕ → Data → List ℕ → Data → List ℕ → Data → Data
three_of k a l b m c = object (member k a (member l b (member m c no_members)))

-- a whole number
abbrev pub number_json_of : ℕ → Data
number_json_of n = number (unsigned n)

-- a whole number from 0 to 4,294,967,295
abbrev pub IsNumberForm : ℕ → Data → Type 0
IsNumberForm n d = (n < 2 ^ 32) × (d ≡ number_json_of n)

-- the text is the compact text of JSON of this value, and then the rest
abbrev pub BeginsAs : {X : Type 0} → (X → Data → Type 0) → List ℕ → X → List ℕ → Type 0
BeginsAs IsForm text x rest = (d : Data) × (text ≡ compact_text d ++ rest) × IsForm x d

-- the text is the compact text of items of an array, with the closing bracket, and then the rest; `later`: items come before
abbrev pub BeginsItems : {X : Type 0} → Bool → (X → Items → Type 0) → List ℕ → X → List ℕ → Type 0
BeginsItems later AreItems text x rest = (ds : Items) × (text ≡ items_text later ds ++ rest) × AreItems x ds

-- journals of this version are read
abbrev pub IsVersion : ℕ → Type 0
IsVersion v = (v ≡ 1) ⊎ (v ≡ 2)

-- Whether an object with the key "list" is anywhere in the value. Of the objects of headers and events none but a
-- list has this key: their own keys are "agent", "agents", "bag", "call", "capacity", "clash", "events", "fire",
-- "fired", "init", "number", "read", "reads", "reply", "set", "stale", "values" and "version". So a header or an
-- event has a list in it exactly where this answers true, and a further key "list" is a wrong shape in each version.
abbrev mutual
  pub has_list : Data → Bool
  has_list null = false
  has_list (boolean b) = false
  has_list (number n) = false
  has_list (string s) = false
  has_list (array ds) = items_have_list ds
  has_list (object ms) = members_have_list ms

  pub items_have_list : Items → Bool
  items_have_list no_items = false
  items_have_list (item d ds) = has_list d || items_have_list ds

  pub members_have_list : Members → Bool
  members_have_list no_members = false
  members_have_list (member k d ms) = bytes_eq k (codes "list") || (has_list d || members_have_list ms)

-- a journal of this version may have the value
abbrev pub IsOfVersion : ℕ → Data → Type 0
IsOfVersion v d = v ≡ 1 → has_list d ≡ false
