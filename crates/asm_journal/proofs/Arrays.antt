-- Arrays and objects: their items, lists of forms, members one at a time, and values of another shape.
use Rattle.std.proofs.Common.{◌≡◌, ◌≢◌, ◌<◌, ℕ, zero, suc, List, [], ◌∷◌, ◌++◌, length, get_or, map, Some, refl, sym, ap, ap₂, subst, ◌∙◌, append-nil, append_assoc, arith, Bool, true, false, Option, None, true≢false}
use Rattle.std.specs.List.{AllByRecursion}
use Rattle.std.proofs.lemmas.List.{map-append}
use Rattle.serde_json.specs.Data.{Data, null, boolean, number, string, array, object, unsigned, Items, no_items, item, Members, member}
use Rattle.serde_json.specs.Find.{as_array, as_str}
use Rattle.serde_json.specs.View.{view, items_of, items_view}
use Rattle.serde_json.specs.declared.value.Value.{Value}
use Rattle.asm_journal.specs.Shape.{AreForms, IsListForm, pair_of, one_of}
use Rattle.std.specs.Prelude.{◌==◌, IfNone, IsTrue}
use Rattle.asm_element.specs.Place.{Place}
use Rattle.asm_journal.specs.Element.{IsLocationForm}
use Rattle.asm_journal.specs.Instruction.{instruction_of}
use borrow.Author.Tests.{true-eqb, false-eqb}

pub array_is : (d : Data) (ds : Items) → Some ds ≡ as_array d → d ≡ array ds
array_is null ds e = absurd cc
array_is (boolean b) ds e = absurd cc
array_is (number n) ds e = absurd cc
array_is (string s) ds e = absurd cc
array_is (array es) ds e = cc
array_is (object ms) ds e = absurd cc

pub string_is : (d : Data) (s : List ℕ) → Some s ≡ as_str d → d ≡ string s
string_is null s e = absurd cc
string_is (boolean b) s e = absurd cc
string_is (number n) s e = absurd cc
string_is (string t) s e = cc
string_is (array es) s e = absurd cc
string_is (object ms) s e = absurd cc

-- ---- values with one shape have equal parts

pub same_array : (ds es : Items) → array ds ≡ array es → ds ≡ es
same_array ds es e = cc

pub same_pair : (a b x y : Data) → pair_of a b ≡ pair_of x y → (a ≡ x) × (b ≡ y)
same_pair a b x y e = (cc, cc)

pub same_items : (a b x y : Data) → items_of (a ∷ b ∷ []) ≡ items_of (x ∷ y ∷ []) → (a ≡ x) × (b ≡ y)
same_items a b x y e = (cc, cc)

pub same_item : (d c : Data) (ds cs : Items) → item d ds ≡ item c cs → (d ≡ c) × (ds ≡ cs)
same_item d c ds cs e = (cc, cc)

pub same_text : (s t : List ℕ) → string s ≡ string t → s ≡ t
same_text s t e = cc

pub same_number : (m n : ℕ) → number (unsigned m) ≡ number (unsigned n) → m ≡ n
same_number m n e = cc

pub same_one : (key : List ℕ) (a b : Data) → one_of key a ≡ one_of key b → a ≡ b
same_one key a b e = cc

pub same_key : (k l : List ℕ) (a b : Data) → one_of k a ≡ one_of l b → k ≡ l
same_key k l a b e = cc

-- ---- one value at a time

-- one more item, and its form
pub AreForms-push : {X : Type 0} (F : X → Data → Type 0) (xs : List X) (x : X) (vs : List Value) (v : Value) → AreForms F xs (items_view vs) → F x (view v) → AreForms F (xs ++ x ∷ []) (items_view (vs ++ v ∷ []))
AreForms-push F [] x [] v h k = (k, tt)
AreForms-push F [] x (w ∷ vs) v h k = absurd h
AreForms-push F (y ∷ xs) x [] v h k = absurd h
AreForms-push F (y ∷ xs) x (w ∷ vs) v h k = (h.0, AreForms-push F xs x vs v h.1 k)

-- an item that is the form of nothing
pub no_forms : {X : Type 0} (F : X → Data → Type 0) (vs : List Value) (i : ℕ) (d : Value) → i < length vs → ((x : X) → F x (view (get_or vs i d)) → ⊥) → (xs : List X) → AreForms F xs (items_view vs) → ⊥
no_forms F [] i d h none xs k = absurd (omega arith)
no_forms F (v ∷ vs) i d h none [] k = k
no_forms F (v ∷ vs) zero d h none (x ∷ xs) k = none x k.0
no_forms F (v ∷ vs) (suc i) d h none (x ∷ xs) k = no_forms F vs i d (omega arith) none xs k.1

-- what is written of values are their forms
pub forms_back : {X : Type 0} {P : X → Type 0} (F : X → Data → Type 0) (f : X → Data) → ((x : X) → P x → F x (f x))
    → (xs : List X) → AllByRecursion P xs → AreForms F xs (items_of (map f xs))
forms_back F f back [] h = tt
forms_back F f back (x ∷ xs) h = (back x h.0, forms_back F f back xs h.1)

-- what is written, and what is left, is all
abbrev pub AreWritten : {X : Type 0} → (X → Data) → List Value → List X → List X → Type 0
AreWritten f list left all = map view list ++ map f left ≡ map f all

pub written_more : {X : Type 0} (f : X → Data) (list new : List Value) (v : Value) (x : X) (left rest all : List X) → AreWritten f list left all → left ≡ x ∷ rest → new ≡ list ++ v ∷ [] → view v ≡ f x → AreWritten f new rest all
written_more f list new v x left rest all so_far step pushed is =
    ap (λ vs. map view vs ++ map f rest) pushed ∙ ap (λ ds. ds ++ map f rest) (map-append view list (v ∷ []) ∙ ap (λ d. map view list ++ d ∷ []) is)
    ∙ append_assoc (map view list) (f x ∷ []) (map f rest) ∙ ap (λ l. map view list ++ map f l) (sym step) ∙ so_far

pub written_all : {X : Type 0} (f : X → Data) (list : List Value) (left all : List X) → AreWritten f list left all → left ≡ [] → map view list ≡ map f all
written_all f list left all so_far none = sym (append-nil (map view list)) ∙ ap (λ l. map view list ++ map f l) (sym none) ∙ so_far

-- ---- a value is the form of one x at most

abbrev pub IsOnce : {X J : Type 0} → (X → J → Type 0) → Type 0
IsOnce {X} {J} F = (x y : X) (d : J) → F x d → F y d → x ≡ y

forms_once : {X : Type 0} (F : X → Data → Type 0) → IsOnce F → IsOnce (AreForms F)
forms_once F once [] [] ds h k = refl
forms_once F once [] (y ∷ ys) no_items h k = absurd k
forms_once F once [] (y ∷ ys) (item d ds) h k = absurd h
forms_once F once (x ∷ xs) [] no_items h k = absurd h
forms_once F once (x ∷ xs) [] (item d ds) h k = absurd k
forms_once F once (x ∷ xs) (y ∷ ys) no_items h k = absurd h
forms_once F once (x ∷ xs) (y ∷ ys) (item d ds) h k = ap₂ (λ a b. a ∷ b) (once x y d h.0 k.0) (forms_once F once xs ys ds h.1 k.1)

pub list_once : {X : Type 0} (F : X → Data → Type 0) → IsOnce F → IsOnce (IsListForm F)
list_once F once xs ys d h k = forms_once F once xs ys k.0 (subst (AreForms F xs) (same_array _ _ (sym h.1 ∙ k.1)) h.2) k.2

-- ---- two items alone

pub no_third : (xs ys zs : List Value) (a b : Value) → xs ≡ a ∷ ys → ys ≡ b ∷ zs → zs ≢ []
    → (c d : Data) → items_view xs ≡ items_of (c ∷ d ∷ []) → ⊥
no_third xs ys [] a b first second more c d e = more refl
no_third xs ys (z ∷ zs) a b first second more c d e =
    let whole : xs ≡ a ∷ b ∷ z ∷ zs = first ∙ ap (λ t. a ∷ t) second in
    absurd (too_many (view a) (view b) (view z) (items_view zs) c d (sym (ap items_view whole) ∙ e))
  where
    too_many : (k l m : Data) (ms : Items) (c d : Data) → item k (item l (item m ms)) ≡ items_of (c ∷ d ∷ []) → ⊥
    too_many k l m ms c d e = cc

-- a clause of no answer holds where its claim does
pub none_gives : {T : Type 0} (o : Option T) (P : Type 0) → P → IfNone o P
none_gives None P p = p
none_gives (Some x) P p = tt

no_value : {X : Type 0} (o : Option X) (x : X) → None ≡ o → o ≡ Some x → ⊥
no_value o x none some = cc

pub no_array : (d : Data) (ds : Items) → None ≡ as_array d → d ≡ array ds → ⊥
no_array d ds none is = no_value (as_array d) ds none (ap as_array is)

pub no_text : (d : Data) (s : List ℕ) → None ≡ as_str d → d ≡ string s → ⊥
no_text d s none is = no_value (as_str d) s none (ap as_str is)

too_few : (d : Data) (ds : Items) → no_items ≡ item d ds → ⊥
too_few d ds e = cc

items_none : (vs : List Value) → length vs ≡ 0 → items_view vs ≡ no_items
items_none [] none = refl
items_none (v ∷ vs) none = absurd (omega arith)

no_item : (vs : List Value) (d : Data) (ds : Items) → length vs ≡ 0 → items_view vs ≡ item d ds → ⊥
no_item vs d ds none is = too_few d ds (sym (items_none vs none) ∙ is)

item_is : (vs rest : List Value) (v : Value) (d : Data) (ds : Items) → vs ≡ v ∷ rest → items_view vs ≡ item d ds
    → (view v ≡ d) × (items_view rest ≡ ds)
item_is vs rest v d ds cons is = same_item (view v) d (items_view rest) ds (sym (ap items_view cons) ∙ is)

-- the items of an array
items_are : (d : Data) (vs : List Value) (ds : Items) → Some (items_view vs) ≡ as_array d → d ≡ array ds → items_view vs ≡ ds
items_are d vs ds some is = same_array (items_view vs) ds (sym (array_is d (items_view vs) some) ∙ is)

-- ---- two items alone

pub no_first : (vs : List Value) → length vs ≡ 0 → (a b : Data) → items_view vs ≡ items_of (a ∷ b ∷ []) → ⊥
no_first vs none a b is = no_item vs a _ none is

pub no_second : (vs rest : List Value) (v : Value) → vs ≡ v ∷ rest → length rest ≡ 0
    → (a b : Data) → items_view vs ≡ items_of (a ∷ b ∷ []) → ⊥
no_second vs rest v first none a b is = no_item rest b _ none (item_is vs rest v a _ first is).1

pub just_two : (vs rest left : List Value) (v w : Value) (b : Bool) → vs ≡ v ∷ rest → rest ≡ w ∷ left
    → b ≡ (length left == 0) → b ≡ true → items_view vs ≡ items_of (view v ∷ view w ∷ [])
just_two vs rest left v w b first second end is =
    ap items_view first ∙ ap (λ t. item (view v) (items_view t)) second
    ∙ ap (λ t. item (view v) (item (view w) t)) (items_none left (true-eqb (length left) 0 (sym is ∙ end)))

pub more_than_two : (vs rest left : List Value) (v w : Value) (b : Bool) → vs ≡ v ∷ rest → rest ≡ w ∷ left
    → b ≡ (length left == 0) → b ≡ false → (c d : Data) → items_view vs ≡ items_of (c ∷ d ∷ []) → ⊥
more_than_two vs rest left v w b first second end is =
    no_third vs rest left v w first second (λ e. false-eqb (length left) 0 (sym is ∙ end) (ap length e))

-- ---- no location

pub no_array_located : (d : Data) → None ≡ as_array d → (p : Place) → IsLocationForm p d → ⊥
no_array_located d none p h = no_array d _ none h.1

pub no_items_located : (d : Data) (vs : List Value) → Some (items_view vs) ≡ as_array d → length vs ≡ 0
    → (p : Place) → IsLocationForm p d → ⊥
no_items_located d vs some none p h = no_item vs _ _ none (items_are d vs _ some h.1)

pub no_name_located : (d : Data) (vs rest : List Value) (v : Value) → Some (items_view vs) ≡ as_array d → vs ≡ v ∷ rest
    → None ≡ as_str (view v) → (p : Place) → IsLocationForm p d → ⊥
no_name_located d vs rest v some cons none p h =
    no_text (view v) p.name none (item_is vs rest v _ _ cons (items_are d vs _ some h.1)).0

-- ---- no instruction: no array, fewer than two items, no text before them

pub no_array_parts : (d : Data) → None ≡ as_array d → (word : List ℕ) (at : Data) (operands : Items)
    → d ≡ instruction_of word at operands → ⊥
no_array_parts d none word at operands is = no_array d _ none is

pub no_word_parts : (d : Data) (vs : List Value) → Some (items_view vs) ≡ as_array d → length vs ≡ 0
    → (word : List ℕ) (at : Data) (operands : Items) → d ≡ instruction_of word at operands → ⊥
no_word_parts d vs some none word at operands is = no_item vs _ _ none (items_are d vs _ some is)

pub no_location_parts : (d : Data) (vs rest : List Value) (v : Value) → Some (items_view vs) ≡ as_array d → vs ≡ v ∷ rest
    → length rest ≡ 0 → (word : List ℕ) (at : Data) (operands : Items) → d ≡ instruction_of word at operands → ⊥
no_location_parts d vs rest v some cons none word at operands is =
    no_item rest at operands none (item_is vs rest v _ _ cons (items_are d vs _ some is)).1

pub no_text_parts : (d : Data) (vs rest : List Value) (v : Value) → Some (items_view vs) ≡ as_array d → vs ≡ v ∷ rest
    → None ≡ as_str (view v) → (word : List ℕ) (at : Data) (operands : Items) → d ≡ instruction_of word at operands → ⊥
no_text_parts d vs rest v some cons none word at operands is =
    no_text (view v) word none (item_is vs rest v _ _ cons (items_are d vs _ some is)).0

-- an array that begins with a text and another item
pub parts_are : (d : Data) (vs rest left : List Value) (v w : Value) (word : List ℕ) → Some (items_view vs) ≡ as_array d
    → vs ≡ v ∷ rest → rest ≡ w ∷ left → Some word ≡ as_str (view v) → d ≡ instruction_of word (view w) (items_view left)
parts_are d vs rest left v w word some first second text =
    array_is d (items_view vs) some ∙ ap array (ap items_view first
    ∙ ap (λ t. item t (items_view rest)) (string_is (view v) word text)
    ∙ ap (λ t. item (string word) (items_view t)) second)

same_object : (ms ns : Members) → object ms ≡ object ns → ms ≡ ns
same_object ms ns e = cc

same_rest : (ms ns : Members) (k : List ℕ) (a b : Data) → member k a ms ≡ member k b ns → ms ≡ ns
same_rest ms ns k a b e = cc

pub same_members : (d : Data) (ms ns : Members) → d ≡ object ms → d ≡ object ns → ms ≡ ns
same_members d ms ns e f = same_object ms ns (sym e ∙ f)

pub behind : (all ms ns : Members) (k : List ℕ) (a b : Data) → all ≡ member k a ms → all ≡ member k b ns → ms ≡ ns
behind all ms ns k a b e f = same_rest ms ns k a b (sym e ∙ f)

pub in_all : (d : Data) (ms ns : Members) → d ≡ object ms → ms ≡ ns → d ≡ object ns
in_all d ms ns e f = e ∙ ap object f

pub one_more : (all ms ns : Members) (k : List ℕ) (a : Data) → all ≡ member k a ms → ms ≡ ns → all ≡ member k a ns
one_more all ms ns k a e f = e ∙ ap (member k a) f

pub not_end : {P : Type 0} (b : Bool) → (P → IsTrue b) → b ≡ false → P → ⊥
not_end b end e p = true≢false (sym (end p) ∙ e)
