-- Elements, locations, sets and bags: what reading finds, and that JSON is the form of at most one.
use Rattle.std.proofs.Common.{◌≡◌, List, [], ◌∷◌, map, Option, Some, None, sym, subst, codes, ◌<◌, ◌≤◌, ℕ, ℤ, pos, negsuc, false, length, Result, Ok, Err, refl, ap, ap₂, ◌∙◌, arith}
use Rattle.serde_json.specs.Data.{Data, Items, no_items, item, null, boolean, number, string, array, object, Num, unsigned, negative, float, Members, no_members, member}
use Rattle.asm_journal.specs.Shape.{IsParsed, AreForms, IsListForm, IsMadeForm, one_of, list_of}
use Rattle.asm_journal.proofs.Arrays.{IsOnce, list_once, same_item, forms_back, same_array, same_items, same_number}
use Rattle.std.specs.Prelude.{◌↔◌, IfOk, IsTrue, option_map}
use Rattle.std.specs.Result.{result_ok}
use Rattle.std.specs.declared.alloc.AllocError.{AllocError}
use Rattle.std.specs.List.{AllByRecursion}
use Rattle.std.proofs.lemmas.Bool.{true_from_ne_false}
use Rattle.std.proofs.lemmas.List.Elements.{All-from_recursion, recursion_from_All}
use Rattle.serde_json.specs.Find.{of_integer}
use Rattle.serde_json.specs.View.{view, items_of}
use Rattle.serde_json.specs.declared.value.Value.{Value as Json}
use Rattle.asm_element.proofs.Lists.{proper_datum, proper_element}
use Rattle.asm_element.specs.Datum as datum
use Rattle.asm_element.specs.Datum.{Datum, Sequence, AreProperItems, IsProperList}
use Rattle.asm_element.specs.View.{datum as datum_of, element as element_of, element-datum, datum-element, sequence, elements as elements_of, sequence-elements, len-sequence}
use Rattle.asm_element.specs.Element as element
use Rattle.asm_element.specs.Limits.{items_limit, depth_limit}
use Rattle.asm_element.specs.Place.{Place, is_name}
use Rattle.asm_element.specs.declared.element.Element.{Element}
use Rattle.asm_element.specs.declared.element.Element.TheVariants as elements
use Rattle.asm_element.specs.declared.elem_list.ListError.{ListError}
use Rattle.asm_element.specs.declared.elem_list.ListError.TheVariants.{ManyItems, TooDeep}
use Rattle.asm_element.specs.declared.location.LocationError.{LocationError}
use Rattle.asm_element.specs.declared.location.LocationError.TheVariants.{BadName, ManyArgs}
use Rattle.asm_journal.specs.Element.{datum_json_of, items_json_of, element_json_of, location_json_of, IsIntegerForm, IsElementForm, IsLocationForm}
use Rattle.asm_journal.proofs.Parsed.{true_and_false}
use Rattle.asm_element.specs.Set as set
use Rattle.asm_journal.specs.declared.form.set.Counted.{Counted}
use Rattle.asm_journal.specs.Set.{IsSetForm, IsAmountForm, IsCounted, IsCountForm, IsBagForm, bag_of}

pub made_read : {X Y : Type 0} (F : X → Data → Type 0) (M : Y → List X → Type 0) → IsOnce F → (d : Data) (xs : List X) (o : Option Y) → IsListForm F xs d → IsParsed M xs o → IsParsed (IsMadeForm F M) d o
made_read F M once d xs (Some y) form made = (xs, form, made)
made_read F M once d xs None form made = λ y h. made y (subst (M y) (list_once F once h.0 xs d h.1 form) h.2)

-- ---- lists of structs, as lists of what they are seen as

forms_to : {S X : Type 0} (f : S → X) (F : X → Data → Type 0) (ss : List S) (ds : Items) → AreForms (λ s. F (f s)) ss ds → AreForms F (map f ss) ds
forms_to f F [] no_items h = tt
forms_to f F [] (item d ds) h = absurd h
forms_to f F (s ∷ ss) no_items h = absurd h
forms_to f F (s ∷ ss) (item d ds) h = (h.0, forms_to f F ss ds h.1)

forms_from : {S X : Type 0} (f : S → X) (g : X → S) (F : X → Data → Type 0) → ((x : X) → f (g x) ≡ x) → (xs : List X) (ds : Items) → AreForms F xs ds → AreForms (λ s. F (f s)) (map g xs) ds
forms_from f g F back [] no_items h = tt
forms_from f g F back [] (item d ds) h = absurd h
forms_from f g F back (x ∷ xs) no_items h = absurd h
forms_from f g F back (x ∷ xs) (item d ds) h = (subst (λ y. F y d) (sym (back x)) h.0, forms_from f g F back xs ds h.1)

pub list_seen : {S X : Type 0} (f : S → X) (F : X → Data → Type 0) (ss : List S) (d : Data) → IsListForm (λ s. F (f s)) ss d → IsListForm F (map f ss) d
list_seen f F ss d h = (h.0, h.1, forms_to f F ss h.0 h.2)

pub no_list_seen : {S X : Type 0} (f : S → X) (g : X → S) (F : X → Data → Type 0) → ((x : X) → f (g x) ≡ x) → (d : Data) → ((ss : List S) → IsListForm (λ s. F (f s)) ss d → ⊥) → (xs : List X) → IsListForm F xs d → ⊥
no_list_seen f g F back d none xs h = none (map g xs) (h.0, h.1, forms_from f g F back xs h.0 h.2)

-- ---- one at most

-- a number as an integer
abbrev integer_from : Num → ℤ
integer_from (unsigned n) = pos n
integer_from (negative z) = z
integer_from (float f) = pos 0

integer_back : (z : ℤ) → integer_from (of_integer z) ≡ z
integer_back (pos n) = refl
integer_back (negsuc n) = refl

-- JSON as an element
abbrev mutual
  datum_from : Data → Datum
  datum_from null = datum.undef
  datum_from (boolean b) = datum.truth b
  datum_from (number n) = datum.number (integer_from n)
  datum_from (string s) = datum.text s
  datum_from (array ds) = datum.undef
  datum_from (object ms) = members_from ms

  members_from : Members → Datum
  members_from no_members = datum.undef
  members_from (member k d ms) = datum.list (sequence_from d)

  sequence_from : Data → Sequence
  sequence_from null = datum.nothing
  sequence_from (boolean b) = datum.nothing
  sequence_from (number n) = datum.nothing
  sequence_from (string s) = datum.nothing
  sequence_from (array ds) = items_from ds
  sequence_from (object ms) = datum.nothing

  items_from : Items → Sequence
  items_from no_items = datum.nothing
  items_from (item d ds) = datum.item (datum_from d) (items_from ds)

mutual
  datum_back : (d : Datum) → datum_from (datum_json_of d) ≡ d
  datum_back datum.undef = refl
  datum_back (datum.truth b) = refl
  datum_back (datum.number z) = ap datum.number (integer_back z)
  datum_back (datum.text s) = refl
  datum_back (datum.list ds) = ap datum.list (items_back ds)

  items_back : (ds : Sequence) → items_from (items_json_of ds) ≡ ds
  items_back datum.nothing = refl
  items_back (datum.item d ds) = ap₂ datum.item (datum_back d) (items_back ds)

element_json_once : (x y : Element) → element_json_of x ≡ element_json_of y → x ≡ y
element_json_once x y e =
    let same = sym (datum_back (datum_of x)) ∙ ap datum_from e ∙ datum_back (datum_of y) in
    sym (element-datum x) ∙ ap element_of same ∙ element-datum y

items_json_once : (ds es : Sequence) → items_json_of ds ≡ items_json_of es → ds ≡ es
items_json_once ds es e = sym (items_back ds) ∙ ap items_from e ∙ items_back es

elements_json_once : (xs ys : List Element) → items_of (map element_json_of xs) ≡ items_of (map element_json_of ys) → xs ≡ ys
elements_json_once [] [] e = refl
elements_json_once [] (y ∷ ys) e = absurd cc
elements_json_once (x ∷ xs) [] e = absurd cc
elements_json_once (x ∷ xs) (y ∷ ys) e = let parts = same_item _ _ _ _ e in ap₂ (λ a b. a ∷ b) (element_json_once x y parts.0) (elements_json_once xs ys parts.1)

location_parts : (m n : List ℕ) (ds es : Items) → array (item (string m) ds) ≡ array (item (string n) es) → (m ≡ n) × (ds ≡ es)
location_parts m n ds es e = (cc, cc)

location_json_once : (p q : Place) → location_json_of p ≡ location_json_of q → p ≡ q
location_json_once p q e =
    let parts = location_parts p.name q.name _ _ e in
    ap₂ (λ n l. record { name = n; args = l }) parts.0 (elements_json_once p.args q.args parts.1)

pub integer_once : IsOnce IsIntegerForm
integer_once y z d h k = sym (integer_back y) ∙ ap integer_of (sym h.1 ∙ k.1) ∙ integer_back z where
  integer_of : Data → ℤ
  integer_of (number n) = integer_from n
  integer_of _ = pos 0

pub element_once : IsOnce IsElementForm
element_once x y d h k = element_json_once x y (sym h.1 ∙ k.1)

pub location_once : IsOnce IsLocationForm
location_once p q d h k = location_json_once p q (sym h.1 ∙ k.1)

-- ---- reading a location

-- the forms of elements, and that they are proper
forms_are : (xs : List Element) (ds : Items) → AreForms IsElementForm xs ds → (ds ≡ items_of (map element_json_of xs)) × AllByRecursion element.IsProper xs
forms_are [] no_items h = (refl, tt)
forms_are [] (item d ds) h = absurd h
forms_are (x ∷ xs) no_items h = absurd h
forms_are (x ∷ xs) (item d ds) h = let rest = forms_are xs ds h.1 in (ap₂ item h.0.1 rest.0, (h.0.0, rest.1))

pub forms_of : (xs : List Element) → AllByRecursion element.IsProper xs → AreForms IsElementForm xs (items_of (map element_json_of xs))
forms_of xs h = forms_back IsElementForm element_json_of (λ x proper. (proper, refl)) xs h

at_most : (n m : ℕ) → (m < n → ⊥) → n ≤ m
at_most n m h = omega (arith, h)

abbrev read_place : List ℕ → List Element → Place
read_place name args = record { name = name; args = args }

pub location_read : (d : Data) (name : List ℕ) (ds : Items) (args : List Element) (n : ℕ) (r : Result Place LocationError)
    → n ≡ length args → d ≡ array (item (string name) ds) → AreForms IsElementForm args ds
    → IfOk r (λ l. l ≡ record { name = name; args = args })
    → ((r ≡ Err BadName) ↔ (is_name name ≡ false)) → ((r ≡ Err ManyArgs) ↔ (IsTrue (is_name name) × (8 < n)))
    → IsParsed IsLocationForm d (result_ok r)
location_read d name ds args n (Ok l) count is forms ok bad many =
    let parts = forms_are args ds forms in
    let named = true_from_ne_false (is_name name) (λ e. let wrong = bad.1 e in absurd cc) in
    let few : length args ≤ 8 = subst (λ k. k ≤ 8) count (at_most n 8 (λ over. let wrong = many.1 (named, over) in absurd cc)) in
    let whole = is ∙ ap (λ es. array (item (string name) es)) parts.0 in
    subst (λ p. IsLocationForm p d) (sym ok) ((named, few, All-from_recursion element.IsProper args parts.1), whole)
location_read d name ds args n (Err BadName) count is forms ok bad many = λ p h.
    let parts = forms_are args ds forms in
    let same = location_json_once p (read_place name args) (sym h.1 ∙ is ∙ ap (λ es. array (item (string name) es)) parts.0) in
    true_and_false (is_name name) (subst (λ q. IsTrue (is_name q.name)) same h.0.0) (bad.0 refl)
location_read d name ds args n (Err ManyArgs) count is forms ok bad many = λ p h.
    let parts = forms_are args ds forms in
    let same = location_json_once p (read_place name args) (sym h.1 ∙ is ∙ ap (λ es. array (item (string name) es)) parts.0) in
    let few : length args ≤ 8 = subst (λ q. length q.args ≤ 8) same h.0.1 in
    let many_of = (many.0 refl).1 in
    omega arith

-- arguments that are no elements
pub no_location : (d : Data) (name : List ℕ) (ds : Items) → d ≡ array (item (string name) ds) → ((args : List Element) → AreForms IsElementForm args ds → ⊥) → (p : Place) → IsLocationForm p d → ⊥
no_location d name ds is none p h =
    let parts = location_parts p.name name _ ds (sym h.1 ∙ is) in
    none p.args (subst (AreForms IsElementForm p.args) parts.1 (forms_of p.args (recursion_from_All element.IsProper p.args h.0.2)))

-- ---- reading a list

-- the items' forms are those of the list
sequence_json : (xs : List Element) → items_of (map element_json_of xs) ≡ items_json_of (sequence xs)
sequence_json [] = refl
sequence_json (x ∷ xs) = ap (λ ds. item (element_json_of x) ds) (sequence_json xs)

proper_items : (xs : List Element) → AllByRecursion element.IsProper xs → AreProperItems (sequence xs)
proper_items [] h = tt
proper_items (x ∷ xs) h = (proper_datum x h.0, proper_items xs h.1)

abbrev pub list_json : Items → Data
list_json ds = one_of (codes "list") (array ds)

same_list_json : (ds es : Items) → list_json ds ≡ list_json es → ds ≡ es
same_list_json ds es e = cc

unlike : (d e : Data) (ms : Members) → d ≡ object ms → d ≡ e → ((ns : Members) → e ≡ object ns → ⊥) → ⊥
unlike d e ms is same other = other ms (sym same ∙ is)

-- no other element has the JSON of a list
list_is : (x : Element) (ds : Items) → list_json ds ≡ element_json_of x → (es : Sequence) × (x ≡ elements.List es) × (ds ≡ items_json_of es)
list_is elements.Undef ds e = absurd cc
list_is (elements.Bool b) ds e = absurd cc
list_is (elements.Num z) ds e = absurd cc
list_is (elements.Text s) ds e = absurd cc
list_is (elements.List es) ds e = (es, refl, same_list_json _ _ e)

-- the elements make a list, or no list
pub list_read : (ds : Items) (found : List Element) (n : ℕ) (r : Result Sequence ListError)
    → n ≡ length found → AreForms IsElementForm found ds → IfOk r (λ l. l ≡ sequence found)
    → ((r ≡ Err ManyItems) ↔ (items_limit < n)) → ((r ≡ Err TooDeep) ↔ ((n ≤ items_limit) × (depth_limit < datum.depth (datum.list (sequence found)))))
    → IsParsed IsElementForm (list_json ds) (option_map elements.List (result_ok r))
list_read ds found n (Ok l) count forms ok many deep =
    let parts = forms_are found ds forms in
    let few : n ≤ items_limit = at_most n items_limit (λ over. let wrong = many.1 over in absurd cc) in
    let flat : datum.depth (datum.list (sequence found)) ≤ depth_limit = at_most _ depth_limit (λ over. let wrong = deep.1 (few, over) in absurd cc) in
    let proper : IsProperList (sequence found) = (omega (arith, few, count, len-sequence found), (flat, proper_items found parts.1)) in
    subst (λ es. IsElementForm (elements.List es) (list_json ds)) (sym ok)
    (proper, ap list_json (parts.0 ∙ sequence_json found))
list_read ds found n (Err ManyItems) count forms ok many deep = λ x h.
    let parts = forms_are found ds forms in
    let list = list_is x ds h.1 in
    let same = items_json_once _ _ (sym (sequence_json found) ∙ sym parts.0 ∙ list.2) in
    let proper : IsProperList list.0 = subst element.IsProper list.1 h.0 in
    let over = many.0 refl in
    omega (arith, over, count, len-sequence found, ap datum.len same, proper.0)
list_read ds found n (Err TooDeep) count forms ok many deep = λ x h.
    let parts = forms_are found ds forms in
    let list = list_is x ds h.1 in
    let same = items_json_once _ _ (sym (sequence_json found) ∙ sym parts.0 ∙ list.2) in
    let proper : IsProperList list.0 = subst element.IsProper list.1 h.0 in
    let over = (deep.0 refl).1 in
    omega (arith, over, ap (λ es. datum.depth (datum.list es)) same, proper.1.0)

-- items that are no elements
pub no_list : (ds : Items) → ((xs : List Element) → AreForms IsElementForm xs ds → ⊥) → (x : Element) → IsElementForm x (list_json ds) → ⊥
no_list ds none x h =
    let list = list_is x ds h.1 in
    let proper : IsProperList list.0 = subst element.IsProper list.1 h.0 in
    none (elements_of list.0) (subst (AreForms IsElementForm (elements_of list.0)) (sym list.2) (forms_of_items list.0 proper.1.1)) where
      forms_of_items : (es : Sequence) → AreProperItems es → AreForms IsElementForm (elements_of es) (items_json_of es)
      forms_of_items datum.nothing h = tt
      forms_of_items (datum.item d es) h = ((proper_element d h.0, ap datum_json_of (sym (datum-element d))), forms_of_items es h.1)

-- what is written of a list
pub list_written : (r : Result Json AllocError) (items : List Json) (d : Data) (es : Sequence) (x : Element) → x ≡ elements.List es
    → map view items ≡ map element_json_of (elements_of es) → d ≡ list_of (map view items)
    → IfOk r (λ o. view o ≡ one_of (codes "list") d) → IfOk r (λ o. view o ≡ element_json_of x)
list_written (Ok o) items d es x is same whole h =
    let parts : items_of (map view items) ≡ items_json_of es =
    ap items_of same ∙ sequence_json (elements_of es) ∙ ap items_json_of (sequence-elements es) in
    h ∙ ap (one_of (codes "list")) whole ∙ ap list_json parts ∙ ap element_json_of (sym is)
list_written (Err e) items d es x is same whole h = tt

-- the JSON of a list, by that of its elements
pub list_is_spelt : (es : List Element) (list : Sequence) (x : Element) → x ≡ elements.List list → es ≡ elements_of list
    → list_json (items_of (map element_json_of es)) ≡ element_json_of x
list_is_spelt es list x is same =
    ap (λ xs. list_json (items_of (map element_json_of xs))) same
    ∙ ap list_json (sequence_json (elements_of list) ∙ ap items_json_of (sequence-elements list)) ∙ ap element_json_of (sym is)

pub counted_once : (p q : Element × ℕ) (ds : Items) → IsCounted p ds → IsCounted q ds → p ≡ q
counted_once p q ds h k =
    let parts = same_items _ _ _ _ (sym h.2 ∙ k.2) in
    let element = element_once p.0 q.0 k.0 (subst (IsElementForm p.0) parts.0 h.3) k.3 in
    let count = same_number p.1 q.1 (sym (subst (IsAmountForm p.1) parts.1 h.4).1 ∙ k.4.1) in
    ap₂ (λ e n. (e, n)) element count

pub count_once : IsOnce IsCountForm
count_once p q d h k = counted_once p q k.0 (subst (IsCounted p) (same_array _ _ (sym h.1 ∙ k.1)) h.2) k.2

pub set_once : IsOnce IsSetForm
set_once s t d h k =
    let same = list_once IsElementForm element_once h.0 k.0 d h.1 k.1 in
    h.2.1 ∙ ap set.from_list same ∙ sym k.2.1

pub bag_once : IsOnce IsBagForm
bag_once b c d h k =
    let same = list_once IsCountForm count_once h.0 k.0 d h.1 k.1 in
    h.2.1 ∙ ap bag_of same ∙ sym k.2.1

-- ---- counts that are read, as pairs

abbrev pub count_of : Counted → Element × ℕ
count_of = λ c. (c.0, c.1)

abbrev pub counts_of : List Counted → List (Element × ℕ)
counts_of = map count_of

abbrev pub IsCountedForm : Counted → Data → Type 0
IsCountedForm = λ c. IsCountForm (c.0, c.1)

pub no_counts : (d : Data) → ((cs : List Counted) → IsListForm IsCountedForm cs d → ⊥) → (ps : List (Element × ℕ)) → IsListForm IsCountForm ps d → ⊥
no_counts = no_list_seen count_of (λ p. record { 0 = p.0; 1 = p.1 }) IsCountForm (λ p. refl)
