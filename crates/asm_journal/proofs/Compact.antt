-- What a compact text is made of, and what it begins with: a word, digits, and a text in quotes.
use Rattle.std.proofs.Common.{◌≡◌, ◌<◌, ℕ, List, [], ◌∷◌, ◌++◌, length, true, false, refl, sym, ap, ◌∙◌, append_assoc, append-nil, arith, codes, ◌≤◌, ◌^◌, ◌+◌, ◌-◌, ◌*◌, ◌/◌, ◌%◌, ap₂, decimal}
use Rattle.std.specs.Prelude.{drop, Bool, Option, Some, None, IfSome, All, MatchOption, take, nat_eq}
use Rattle.std.proofs.lemmas.List.{length-append, take-append-drop}
use Rattle.json.specs.Print.{quoted, escape_byte, escape}
use Rattle.serde_json.specs.Data.{Data, string, array, Items, no_items, item}
use Rattle.serde_json.specs.View.{items_of}
use Rattle.serde_json.specs.Written.{compact_text, items_text}
use Rattle.asm_journal.specs.Shape.{AreForms, IsListForm, IsOnly, one_of, BeginsAs, BeginsItems}
use Rattle.std.specs.Borrow.{Bor}
use Rattle.std.specs.Char.{is_ascii_digit}
use Rattle.std.specs.Cmp.Lexicographic.{same_text, pointwise}
use Rattle.std.proofs.lemmas.Bool.Decides.{nat_tests}
use Rattle.std.proofs.lemmas.Fmt.{decimal_step, decimal_digit}
use Rattle.json.specs.Run.{is_plain}
use Rattle.json.proofs.Printed.Plain.{escape_on_plain}

-- ---- items one after another

-- a comma and the text of each value
abbrev pub lead : List Data → List ℕ
lead [] = []
lead (d ∷ ds) = 44 ∷ (compact_text d ++ lead ds)

lead-push : (ds : List Data) (d : Data) → lead (ds ++ d ∷ []) ≡ lead ds ++ 44 ∷ compact_text d
lead-push [] d = ap (λ l. 44 ∷ l) (append-nil (compact_text d))
lead-push (e ∷ ds) d =
    ap (λ l. 44 ∷ (compact_text e ++ l)) (lead-push ds d)
    ∙ ap (λ l. 44 ∷ l) (sym (append_assoc (compact_text e) (lead ds) (44 ∷ compact_text d)))

lead_closed : (ds : List Data) (rest : List ℕ) → lead ds ++ 93 ∷ rest ≡ items_text true (items_of ds) ++ rest
lead_closed [] rest = refl
lead_closed (d ∷ ds) rest =
    ap (λ l. 44 ∷ l) (append_assoc (compact_text d) (lead ds) (93 ∷ rest)
    ∙ ap (λ l. compact_text d ++ l) (lead_closed ds rest)
    ∙ sym (append_assoc (compact_text d) (items_text true (items_of ds)) rest))

forms-push : {X : Type 0} (F : X → Data → Type 0) (xs : List X) (x : X) (ds : List Data) (d : Data) → AreForms F xs (items_of ds)
    → F x d → AreForms F (xs ++ x ∷ []) (items_of (ds ++ d ∷ []))
forms-push F [] x [] d h k = (k, tt)
forms-push F [] x (e ∷ ds) d h k = absurd h
forms-push F (y ∷ xs) x [] d h k = absurd h
forms-push F (y ∷ xs) x (e ∷ ds) d h k = (h.0, forms-push F xs x ds d h.1 k)

-- these items were read behind a comma, and behind a further one stands the rest
pub record AreRead {X : Type 0} (F : X → Data → Type 0) (text : List ℕ) (found : List X) (rest : List ℕ) : Type 0 where
  pub done : List Data
  pub whole : 44 ∷ text ≡ lead done ++ 44 ∷ rest
  pub forms : AreForms F found (items_of done)

module _ {X : Type 0} (F : X → Data → Type 0) (text : List ℕ) where
  pub none_read : (found : List X) → found ≡ [] → AreRead F text found text
  none_read found none = record { done = []; whole = refl; forms = rw none tt }

  with_next : (found : List X) (x : X) (rest left : List ℕ) (r : AreRead F text found rest) (b : BeginsAs F rest x left)
      → 44 ∷ text ≡ lead (r.done ++ b.0 ∷ []) ++ left
  with_next found x rest left r b =
      r.whole ∙ ap (λ l. lead r.done ++ 44 ∷ l) b.1 ∙ sym (append_assoc (lead r.done) (44 ∷ compact_text b.0) left)
      ∙ ap (λ l. l ++ left) (sym (lead-push r.done b.0))

  pub one_more : (found new : List X) (x : X) (rest left more : List ℕ) → AreRead F text found rest → BeginsAs F rest x left
      → left ≡ 44 ∷ more → new ≡ found ++ x ∷ [] → AreRead F text new more
  one_more found new x rest left more r b e is =
      record {
        done = r.done ++ b.0 ∷ [];
        whole = with_next found x rest left r b ∙ ap (λ l. lead (r.done ++ b.0 ∷ []) ++ l) e;
        forms = rw is (forms-push F found x r.done b.0 r.forms b.2);
      }

  pub last_one : (found new : List X) (x : X) (rest left more : List ℕ) → AreRead F text found rest → BeginsAs F rest x left
      → left ≡ 93 ∷ more → new ≡ found ++ x ∷ [] → BeginsItems true (AreForms F) (44 ∷ text) new more
  last_one found new x rest left more r b e is = (
    items_of (r.done ++ b.0 ∷ []),
    with_next found x rest left r b ∙ ap (λ l. lead (r.done ++ b.0 ∷ []) ++ l) e ∙ lead_closed (r.done ++ b.0 ∷ []) more,
    rw is (forms-push F found x r.done b.0 r.forms b.2),
  )

pub shorter : {X : Type 0} (F : X → Data → Type 0) (text left more : List ℕ) (x : X) (c : ℕ) → BeginsAs F text x left → left ≡ c ∷ more
    → length more < length text
shorter F text left more x c b e = omega (arith, ap length b.1, length-append (compact_text b.0) left, ap length e)

abbrev head_of : List ℕ → ℕ
head_of [] = 0
head_of (x ∷ xs) = x

from_later : {X : Type 0} (F : X → Items → Type 0) (text rest : List ℕ) (x : X) (ds : Items) → 44 ∷ text ≡ items_text true ds ++ rest
    → F x ds → BeginsItems false F text x rest
from_later F text rest x no_items e h = let same : 44 ≡ 93 = ap head_of e in absurd (omega (arith, same))
from_later F text rest x (item d ds) e h = (item d ds, ap (drop 1) e, h)

-- items behind a comma are the first ones
pub not_later : {X : Type 0} (F : X → Items → Type 0) (text rest : List ℕ) (x : X) → BeginsItems true F (44 ∷ text) x rest
    → BeginsItems false F text x rest
not_later F text rest x b = from_later F text rest x b.0 b.1 b.2

pub no_items_begin : {X : Type 0} (F : X → Data → Type 0) (later : Bool) (text rest : List ℕ) (xs : List X) → text ≡ 93 ∷ rest → xs ≡ []
    → BeginsItems later (AreForms F) text xs rest
no_items_begin F true text rest xs e none = (no_items, e, rw none tt)
no_items_begin F false text rest xs e none = (no_items, e, rw none tt)

pub some_to : {X : Type 0} {P Q : X → Type 0} → ((x : X) → P x → Q x) → (r : Option X) → IfSome r P → IfSome r Q
some_to to None h = tt
some_to to (Some x) h = to x h

-- ---- arrays

pub array_begins : {X : Type 0} (F : X → Data → Type 0) (text inside rest : List ℕ) (xs : List X) → text ≡ 91 ∷ inside
    → BeginsItems false (AreForms F) inside xs rest → BeginsAs (IsListForm F) text xs rest
array_begins F text inside rest xs e b = (array b.0, e ∙ ap (λ l. 91 ∷ l) b.1, (b.0, refl, b.2))

pub only_begins : {X : Type 0} (F : X → Data → Type 0) (text left rest : List ℕ) (x : X) → BeginsAs F text x left → left ≡ 93 ∷ rest
    → BeginsItems true (IsOnly F) (44 ∷ text) x rest
only_begins F text left rest x b e = (
  items_of (b.0 ∷ []),
  ap (λ l. 44 ∷ l) (b.1 ∙ ap (λ l. compact_text b.0 ++ l) e ∙ sym (append_assoc (compact_text b.0) (93 ∷ []) rest)),
  (b.0, refl, b.2),
)

-- an array that begins with a text
pub named_array : (text inside left rest s : List ℕ) (ds : Items) → text ≡ 91 ∷ inside → inside ≡ quoted s ++ left
    → left ≡ items_text true ds ++ rest → text ≡ compact_text (array (item (string s) ds)) ++ rest
named_array text inside left rest s ds e h k =
    e ∙ ap (λ l. 91 ∷ l) (h ∙ ap (λ l. quoted s ++ l) k ∙ sym (append_assoc (quoted s) (items_text true ds) rest))

-- ---- objects of one member

pub one_text : (key : List ℕ) (d : Data) (rest : List ℕ)
    → 123 ∷ (quoted key ++ 58 ∷ (compact_text d ++ 125 ∷ rest)) ≡ compact_text (one_of key d) ++ rest
one_text key d rest =
    ap (λ l. 123 ∷ l) (sym (append_assoc (quoted key) (58 ∷ (compact_text d ++ 125 ∷ [])) rest
    ∙ ap (λ l. quoted key ++ 58 ∷ l) (append_assoc (compact_text d) (125 ∷ []) rest)))

pub list_text : (text inside rest : List ℕ) (ds : Items) → text ≡ codes "{\"list\":[" ++ inside
    → inside ≡ items_text false ds ++ 125 ∷ rest → text ≡ compact_text (one_of (codes "list") (array ds)) ++ rest
unfolding escape_byte
list_text text inside rest ds e h = e ∙ ap (λ l. codes "{\"list\":[" ++ l) h ∙ one_text (codes "list") (array ds) rest

behind_is : (text word rest : List ℕ) → pointwise nat_eq (take (length word) text) word ≡ true → rest ≡ drop (length word) text
    → text ≡ word ++ rest
behind_is text word rest e is =
    sym (take-append-drop (length word) text) ∙ ap₂ (λ a b. a ++ b) (same_text _ word (sym e)) (sym is)

pub stripped : (text word : List ℕ) (r : Option (Bor (List ℕ)))
    → MatchOption r (pointwise nat_eq (take (length word) text) word ≡ false)
    (λ x. (pointwise nat_eq (take (length word) text) word ≡ true) × (x.now ≡ drop (length word) text)
    × (length x.now + length word ≡ length text))
    → IfSome r (λ rest. text ≡ word ++ rest.now)
stripped text word None h = tt
stripped text word (Some x) h = behind_is text word x.now h.0 h.1

-- one more digit
pub one_digit : (n c : ℕ) (text rest : List ℕ) → 1 ≤ n → n < 900000000000000000 → is_ascii_digit c ≡ true
    → text ≡ decimal n ++ c ∷ rest → text ≡ decimal (n * 10 + (c - 48)) ++ rest
one_digit n c text rest some small digit e =
    let low : 48 ≤ c = grind (arith, nat_tests) in
    let high : c ≤ 57 = grind (arith, nat_tests) in
    let m : ℕ = n * 10 + (c - 48) in
    let front : m / 10 ≡ n = omega (arith, low, high) in
    let end : 48 + m % 10 ≡ c = omega (arith, low, high) in
    let step : decimal m ≡ decimal n ++ c ∷ [] =
    decimal_step m (omega (arith, some)) (omega (arith, small, high)) ∙ (λ i. decimal (front i) ++ (end i ∷ [])) in
    e ∙ sym (append_assoc (decimal n) (c ∷ []) rest) ∙ ap (λ l. l ++ rest) (sym step)

-- a text in quotes of which nothing is escaped
pub quoted_front : (text inside front rest s : List ℕ) → text ≡ 34 ∷ inside → inside ≡ front ++ 34 ∷ rest
    → All (λ b. is_plain b ≡ true) front → s ≡ front → text ≡ quoted s ++ rest
quoted_front text inside front rest s e k plain is =
    let own : escape front ≡ front = escape_on_plain true front (λ i from below. plain i 0 below) in
    e ∙ ap (λ l. 34 ∷ l) (k ∙ sym (append_assoc front (34 ∷ []) rest)
    ∙ ap (λ l. (l ++ 34 ∷ []) ++ rest) (sym (ap escape is ∙ own)))

digit_range : (c : ℕ) → is_ascii_digit c ≡ true → (48 ≤ c) × (c ≤ 57)
digit_range c digit = (grind (arith, nat_tests), grind (arith, nat_tests))

pub zero_digit : (c : ℕ) (text rest : List ℕ) → c ≡ 48 → text ≡ c ∷ rest → text ≡ decimal 0 ++ rest
zero_digit c text rest is e =
    e ∙ ap (λ x. x ∷ rest) is ∙ ap (λ l. l ++ rest) (sym (decimal_digit 0 (omega arith)))

-- a first digit that is no zero
pub record IsFirst (c : ℕ) (text rest : List ℕ) : Type 0 where
  pub some : 1 ≤ c - 48
  pub small : c - 48 < 2 ^ 63
  pub whole : text ≡ decimal (c - 48) ++ rest

pub first_digit : (c : ℕ) (text rest : List ℕ) → is_ascii_digit c ≡ true → (c ≡ 48 → ⊥) → text ≡ c ∷ rest → IsFirst c text rest
first_digit c text rest digit other e =
    let range = digit_range c digit in
    let some : 1 ≤ c - 48 = omega (arith, range, other) in
    let small : c - 48 < 2 ^ 63 = omega (arith, range) in
    let below : c - 48 < 10 = omega (arith, range) in
    let back : 48 + (c - 48) ≡ c = omega (arith, range) in
    record {
      some = some;
      small = small;
      whole = e ∙ ap (λ l. l ++ rest) (sym (decimal_digit (c - 48) below ∙ ap (λ x. x ∷ []) back));
    }

pub next_small : (n c : ℕ) → n < 900000000000000000 → is_ascii_digit c ≡ true → n * 10 + (c - 48) < 2 ^ 63
next_small n c small digit = let range = digit_range c digit in omega (arith, small, range)
