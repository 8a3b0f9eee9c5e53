-- Compact texts, spelled in their order: the items of an array that are left, and objects with their keys.
use Rattle.std.proofs.Common.{◌≡◌, ℕ, ℤ, pos, negsuc, List, [], ◌∷◌, ◌++◌, Bool, true, false, map, refl, sym, ap, ◌∙◌, append_assoc}
use Rattle.std.specs.Fmt.{signed_decimal}
use Rattle.std.specs.List.{list_all}
use Rattle.std.proofs.lemmas.List.Sums.{AllPass-from_list_all}
use Rattle.json.specs.Print.{escape, quoted}
use Rattle.json.specs.Run.{is_plain}
use Rattle.json.proofs.Printed.Plain.{escape_on_plain}
use Rattle.serde_json.specs.Data.{Data, string, array, Items, item, Members, member, no_members}
use Rattle.serde_json.specs.View.{items_of}
use Rattle.serde_json.specs.Find.{of_integer}
use Rattle.serde_json.specs.Written.{number_text, comma_if, compact_text, items_text, members_text}
use Rattle.asm_journal.specs.Shape.{list_of, one_of, two_of, three_of}

-- ---- one after the other

pub two_pieces : (t u v a b : List ℕ) → u ≡ t ++ a → v ≡ u ++ b → v ≡ t ++ (a ++ b)
two_pieces t u v a b e f = f ∙ ap (λ l. l ++ b) e ∙ append_assoc t a b

pub three_pieces : (t u v w a b c : List ℕ) → u ≡ t ++ a → v ≡ u ++ b → w ≡ v ++ c → w ≡ t ++ (a ++ (b ++ c))
three_pieces t u v w a b c e f g = two_pieces t u w a (b ++ c) e (two_pieces u v w b c f g)

-- ---- the items that are left

-- the text, with the items that are left and the bracket, is all; `later`: items come before
abbrev pub IsSpelt : {X : Type 0} → (X → Data) → List ℕ → Bool → List X → List ℕ → Type 0
IsSpelt f text later left all = text ++ items_text later (items_of (map f left)) ≡ all

pub spelt_more : {X : Type 0} (f : X → Data) (text new all : List ℕ) (later : Bool) (x : X) (left rest : List X)
    → IsSpelt f text later left all → left ≡ x ∷ rest → new ≡ text ++ (comma_if later ++ compact_text (f x))
    → IsSpelt f new true rest all
spelt_more f text new all later x left rest so_far step pushed =
    let more = items_text true (items_of (map f rest)) in
    ap (λ t. t ++ more) pushed
    ∙ append_assoc text (comma_if later ++ compact_text (f x)) more
    ∙ ap (λ l. text ++ l) (append_assoc (comma_if later) (compact_text (f x)) more)
    ∙ ap (λ xs. text ++ items_text later (items_of (map f xs))) (sym step)
    ∙ so_far

pub spelt_all : {X : Type 0} (f : X → Data) (text new all : List ℕ) (later : Bool) (left : List X)
    → IsSpelt f text later left all → left ≡ [] → new ≡ text ++ 93 ∷ [] → new ≡ all
spelt_all f text new all later left so_far none pushed =
    pushed ∙ ap (λ xs. text ++ items_text later (items_of (map f xs))) (sym none) ∙ so_far

-- ---- texts in quotes, and whole numbers

pub quoted_plain : (s : List ℕ) → list_all is_plain s ≡ true → 34 ∷ (s ++ 34 ∷ []) ≡ quoted s
quoted_plain s own =
    let plain = AllPass-from_list_all is_plain s own in
    ap (λ l. 34 ∷ (l ++ 34 ∷ [])) (sym (escape_on_plain true s (λ i from below. plain i 0 below)))

pub integer_text : (z : ℤ) → signed_decimal z ≡ number_text (of_integer z)
integer_text (pos n) = refl
integer_text (negsuc n) = refl

-- ---- items and members, from the last to the first

pub item_more : (t u : List ℕ) (later : Bool) (d : Data) (ds : Items) → u ≡ t ++ (comma_if later ++ compact_text d)
    → u ++ items_text true ds ≡ t ++ items_text later (item d ds)
item_more t u later d ds e =
    ap (λ l. l ++ items_text true ds) e
    ∙ append_assoc t (comma_if later ++ compact_text d) (items_text true ds)
    ∙ ap (λ l. t ++ l) (append_assoc (comma_if later) (compact_text d) (items_text true ds))

pub member_more : (t u : List ℕ) (later : Bool) (k : List ℕ) (d : Data) (ms : Members)
    → u ≡ t ++ (comma_if later ++ (quoted k ++ 58 ∷ compact_text d))
    → u ++ members_text true ms ≡ t ++ members_text later (member k d ms)
member_more t u later k d ms e =
    let more = members_text true ms in
    ap (λ l. l ++ more) e
    ∙ append_assoc t (comma_if later ++ (quoted k ++ 58 ∷ compact_text d)) more
    ∙ ap (λ l. t ++ l) (append_assoc (comma_if later) (quoted k ++ 58 ∷ compact_text d) more
    ∙ ap (λ l. comma_if later ++ l) (append_assoc (quoted k) (58 ∷ compact_text d) more))

-- what begins with a bracket
pub opened : (t u : List ℕ) (c : ℕ) (rest : List ℕ) → u ≡ t ++ c ∷ [] → u ++ rest ≡ t ++ c ∷ rest
opened t u c rest e = ap (λ l. l ++ rest) e ∙ append_assoc t (c ∷ []) rest

-- a value behind its key
pub keyed : (t u v : List ℕ) (later : Bool) (k : List ℕ) (d : Data) → u ≡ t ++ (comma_if later ++ (quoted k ++ 58 ∷ []))
    → v ≡ u ++ compact_text d → v ≡ t ++ (comma_if later ++ (quoted k ++ 58 ∷ compact_text d))
keyed t u v later k d e f =
    f ∙ ap (λ l. l ++ compact_text d) e
    ∙ append_assoc t (comma_if later ++ (quoted k ++ 58 ∷ [])) (compact_text d)
    ∙ ap (λ l. t ++ l) (append_assoc (comma_if later) (quoted k ++ 58 ∷ []) (compact_text d)
    ∙ ap (λ l. comma_if later ++ l) (append_assoc (quoted k) (58 ∷ []) (compact_text d)))

-- an object of one member
pub one_member : (t u v w : List ℕ) (k : List ℕ) (d : Data) → u ≡ t ++ 123 ∷ []
    → v ≡ u ++ (comma_if false ++ (quoted k ++ 58 ∷ compact_text d)) → w ≡ v ++ 125 ∷ [] → w ≡ t ++ compact_text (one_of k d)
one_member t u v w k d e f g = g ∙ member_more u v false k d no_members f ∙ opened t u 123 (members_text false (member k d no_members)) e

-- an object of two members
pub two_members : (t u v w x : List ℕ) (k : List ℕ) (a : Data) (l : List ℕ) (b : Data) → u ≡ t ++ 123 ∷ []
    → v ≡ u ++ (comma_if false ++ (quoted k ++ 58 ∷ compact_text a)) → w ≡ v ++ (comma_if true ++ (quoted l ++ 58 ∷ compact_text b))
    → x ≡ w ++ 125 ∷ [] → x ≡ t ++ compact_text (two_of k a l b)
two_members t u v w x k a l b e f g h =
    let last = member l b no_members in
    h ∙ member_more v w true l b no_members g ∙ member_more u v false k a last f ∙ opened t u 123 (members_text false (member k a last)) e

-- an object of three members
pub three_members : (t u v w x y : List ℕ) (k : List ℕ) (a : Data) (l : List ℕ) (b : Data) (m : List ℕ) (c : Data) → u ≡ t ++ 123 ∷ []
    → v ≡ u ++ (comma_if false ++ (quoted k ++ 58 ∷ compact_text a)) → w ≡ v ++ (comma_if true ++ (quoted l ++ 58 ∷ compact_text b))
    → x ≡ w ++ (comma_if true ++ (quoted m ++ 58 ∷ compact_text c)) → y ≡ x ++ 125 ∷ [] → y ≡ t ++ compact_text (three_of k a l b m c)
three_members t u v w x y k a l b m c e f g h i =
    let last = member m c no_members in
    i ∙ member_more w x true m c no_members h ∙ member_more v w true l b last g
    ∙ member_more u v false k a (member l b last) f ∙ opened t u 123 (members_text false (member k a (member l b last))) e

-- an array whose items are left behind the bracket
pub array_of_left : {X : Type 0} (f : X → Data) (t u w : List ℕ) (xs : List X) → u ≡ t ++ 91 ∷ []
    → w ≡ u ++ items_text false (items_of (map f xs)) → w ≡ t ++ compact_text (list_of (map f xs))
array_of_left f t u w xs e g = g ∙ opened t u 91 (items_text false (items_of (map f xs))) e

pub map_twice : {X Y Z : Type 0} (f : Y → Z) (g : X → Y) (xs : List X) → map (λ x. f (g x)) xs ≡ map f (map g xs)
map_twice f g [] = refl
map_twice f g (x ∷ xs) = ap (λ ys. f (g x) ∷ ys) (map_twice f g xs)

-- an array of a text and the items behind it
pub array_with_text : (t u v w s : List ℕ) (ds : Items) → u ≡ t ++ 91 ∷ [] → v ≡ u ++ quoted s → w ≡ v ++ items_text true ds
    → w ≡ t ++ compact_text (array (item (string s) ds))
array_with_text t u v w s ds e f g =
    g ∙ item_more u v false (string s) ds f ∙ opened t u 91 (items_text false (item (string s) ds)) e

-- an object of one member, an array
pub one_list : (t u v w k : List ℕ) (ds : Items) → u ≡ t ++ 123 ∷ (quoted k ++ 58 ∷ 91 ∷ []) → v ++ 93 ∷ [] ≡ u ++ items_text false ds
    → w ≡ v ++ 93 ∷ 125 ∷ [] → w ≡ t ++ compact_text (one_of k (array ds))
one_list t u v w k ds e f g =
    let rest = items_text false ds ++ 125 ∷ [] in
    g ∙ sym (append_assoc v (93 ∷ []) (125 ∷ [])) ∙ ap (λ l. l ++ 125 ∷ []) f
    ∙ append_assoc u (items_text false ds) (125 ∷ []) ∙ ap (λ l. l ++ rest) e
    ∙ append_assoc t (123 ∷ (quoted k ++ 58 ∷ 91 ∷ [])) rest
    ∙ ap (λ l. t ++ 123 ∷ l) (append_assoc (quoted k) (58 ∷ 91 ∷ []) rest)
