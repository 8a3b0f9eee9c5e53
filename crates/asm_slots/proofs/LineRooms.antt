-- How many bytes spelled values have, and what is left of those that there are.
use Rattle.std.proofs.Common.{◌≡◌, ◌∙◌, ◌≤◌, ◌<◌, ◌+◌, ◌*◌, ◌^◌, ◌++◌, ◌∷◌, [], ℕ, suc, ℤ, pos, negsuc, List, Bool, true, false, map, length, ap, is_some, ap₂, subst, refl, arith, codes, Option, Some, None, Result, Ok, Err, length-append}
use Rattle.std.specs.Prelude.{cond, nat_lt, max, IfOk, IfSome, MatchResult}
use Rattle.std.specs.declared.alloc.AllocError.{AllocError}
use Rattle.std.proofs.lemmas.Bool.{false≢true}
use Rattle.std.specs.Int.{w64}
use Rattle.std.specs.Prelude.{FitsSigned}
use Rattle.std.proofs.lemmas.Fmt.{length-decimal-le}
use Rattle.json.specs.Print.{escape, escape_byte, escape_letter, quoted}
use Rattle.serde_json.specs.Data.{Data}
use Rattle.serde_json.specs.View.{items_of}
use Rattle.serde_json.specs.Written.{compact_text, items_text}
use Rattle.asm_element.specs.Place.{Place}
use Rattle.asm_element.specs.declared.element.Element.{Element}
use Rattle.asm_element.specs.declared.value.Value.{Value}
use Rattle.asm_state.specs.declared.named.Named.{Named}
use Rattle.asm_update.specs.Fire.{Old}
use Rattle.asm_update.specs.Move.{Move}
use Rattle.asm_update.specs.declared.action.Action.{Action}
use Rattle.asm_update.specs.declared.action.Action.TheVariants.{Regular, SetAdd, SetRemove, BagAdd, BagRemove, Increment}
use Rattle.asm_update.specs.declared.action.Instruction.{Instruction}
use Rattle.asm_journal.specs.Element.{element_json_of, integer_json_of, location_json_of}
use Rattle.asm_journal.specs.Event.{named_json_of}
use Rattle.asm_journal.specs.Instruction.{instruction_json_of, operands_of, word_of}
use Rattle.asm_journal.specs.Shape.{list_of, number_json_of, one_of, pair_of}
use Rattle.asm_journal.specs.Value.{value_json_of}
use Rattle.asm_slots.specs.LongLines.{IsLeft, IsLongFire, LongOr, answer_for_room, counted_limit, longest, spelled, spelled_list, spelled_values}

-- ---- what is left

-- taken more than was to be taken
pub more : (o : Option ℕ) (a b l k : ℕ) → IfSome o (λ r. a + r ≤ l) → b + l ≤ a + k → IfSome o (λ r. b + r ≤ k)
more None a b l k h e = tt
more (Some r) a b l k h e = omega (arith, h, e)

-- taken so many that all are within them
pub within : (o : Option ℕ) (a b l k : ℕ) → IsLeft l a o → b + l ≤ a + k → IfSome o (λ r. b + r ≤ k)
within None a b l k h e = tt
within (Some r) a b l k h e = omega (arith, h, e)

-- what has room isn't too long
pub room_found : (o : Option ℕ) (all left : ℕ) → is_some o ≡ true → IfSome o (λ r. all + r ≤ left) → all ≤ left
room_found (Some r) all left some h = omega (arith, h)
room_found None all left some h = absurd (false≢true some)

pub not_longer : (all left : ℕ) → all ≤ left → ¬ (left < all)
not_longer all left h long = omega (arith, h, long)

-- ---- texts and numbers

picked : (a b : Bool) (xs ys zs : List ℕ) → length xs ≤ 6 → length ys ≤ 6 → length zs ≤ 6 → length (cond a xs (cond b ys zs)) ≤ 6
picked true b xs ys zs p q r = p
picked false true xs ys zs p q r = q
picked false false xs ys zs p q r = r

byte_short : (x : ℕ) → length (escape_byte x) ≤ 6
unfolding escape_byte
byte_short x = picked (nat_lt 0 (escape_letter x)) (nat_lt x 32) _ _ _ (omega arith) (omega arith) (omega arith)

escape_short : (s : List ℕ) → length (escape s) ≤ length s * 6
escape_short [] = omega arith
escape_short (x ∷ xs) = omega (arith, length-append (escape_byte x) (escape xs), byte_short x, escape_short xs)

pub quoted_short : (s : List ℕ) → length (quoted s) ≤ length s * 6 + 2
quoted_short s = omega (arith, length-append (escape s) (34 ∷ []), escape_short s)

pub number_short : (n : ℕ) → n < 2 ^ 32 → spelled (number_json_of n) ≤ 10
number_short n small = length-decimal-le 10 n (omega arith) (omega arith) (omega arith)

pub integer_short : (z : ℤ) → FitsSigned w64 z → spelled (integer_json_of z) ≤ 20
integer_short (pos n) fits = length-decimal-le 20 n (omega arith) (omega (arith, fits)) (omega (arith, fits))
integer_short (negsuc n) fits =
    let digits = length-decimal-le 19 (suc n) (omega arith) (omega (arith, fits)) (omega (arith, fits)) in omega (arith, digits)

-- ---- lists

pub items_after : (ds : List Data) → length (items_text true (items_of ds)) ≡ spelled_list ds + 1
items_after [] = refl
items_after (d ∷ ds) = omega (arith, length-append (compact_text d) (items_text true (items_of ds)), items_after ds)

items_first : (ds : List Data) → length (items_text false (items_of ds)) ≤ spelled_list ds + 1
items_first [] = omega arith
items_first (d ∷ ds) = omega (arith, length-append (compact_text d) (items_text true (items_of ds)), items_after ds)

pub list_short : (ds : List Data) → spelled (list_of ds) ≤ spelled_list ds + 2
list_short ds = omega (arith, items_first ds)

pub place_is : (p : Place) → spelled (location_json_of p) ≡ length (quoted p.name) + spelled_list (map element_json_of p.args) + 2
place_is p =
    let rest = items_text true (items_of (map element_json_of p.args)) in
    omega (arith, length-append (quoted p.name) rest, items_after (map element_json_of p.args))

pub one_short : (key : List ℕ) (ds : List Data) → spelled (one_of key (list_of ds)) ≤ spelled_list ds + (length key * 6 + 7)
one_short key ds =
    let list = compact_text (list_of ds) in
    omega (arith, length-append (quoted key) (58 ∷ (list ++ 125 ∷ [])), length-append list (125 ∷ []), quoted_short key, list_short ds)

pub pair_is : (a b : Data) → spelled (pair_of a b) ≡ spelled a + spelled b + 3
pair_is a b = omega (arith, length-append (compact_text a) (items_text true (items_of (b ∷ []))), items_after (b ∷ []))

-- ---- loops

-- one more is taken, within a bound
pub room_step : (all left start old x y now new : ℕ) → all + left ≤ start + old → old ≡ x + new → x ≡ y → y + now ≤ left → all + now ≤ start + new
room_step all left start old x y now new h step same taken = omega (arith, h, step, same, taken)

pub list_room : (list whole items left mid start : ℕ) → items + left ≤ mid → list ≡ whole → list ≤ items + 31 → start ≡ 31 + mid → whole + left ≤ start
list_room list whole items left mid start all same short first = omega (arith, all, same, short, first)

-- one more is taken, exactly
pub left_step : (all left start old x y now new : ℕ) → all + left ≡ start + old → old ≡ x + new → x ≡ y → left ≡ y + now → all + now ≡ start + new
left_step all left start old x y now new h step same taken = omega (arith, h, step, same, taken)

-- one more can't be taken
pub left_none : (all left start old x y new : ℕ) → all + left ≡ start + old → old ≡ x + new → x ≡ y → left < y → start < all
left_none all left start old x y new h step same few = omega (arith, h, step, same, few)

pub room_end : (all left start old : ℕ) → all + left ≤ start + old → old ≡ 0 → all + left ≤ start
room_end all left start old h none = omega (arith, h, none)

pub left_end : (all left start old : ℕ) → all + left ≡ start + old → old ≡ 0 → start ≡ all + left
left_end all left start old h none = omega (arith, h, none)

-- ---- what is left, in steps

-- after two pieces
pub left_twice : (o : Option ℕ) (a b start mid : ℕ) → start ≡ a + mid → IsLeft mid b o → IsLeft start (a + b) o
left_twice None a b start mid first h = omega (arith, first, h)
left_twice (Some r) a b start mid first h = omega (arith, first, h)

-- after a comma and a piece
pub left_swap : (o : Option ℕ) (n start mid : ℕ) → start ≡ 1 + mid → IsLeft mid n o → IsLeft start (n + 1) o
left_swap None n start mid first h = omega (arith, first, h)
left_swap (Some r) n start mid first h = omega (arith, first, h)

pub left_some : (o : Option ℕ) (r n start : ℕ) → o ≡ Some r → IsLeft start n o → start ≡ n + r
left_some o r n start is h = subst (IsLeft start n) is h

pub left_gone : (o : Option ℕ) (n start : ℕ) → o ≡ None → IsLeft start n o → start < n
left_gone o n start is h = subst (IsLeft start n) is h

-- two pieces, one after the other
pub left_both : (result : Result (Option ℕ) AllocError) (first : Option ℕ) (rest a b all left : ℕ) → first ≡ Some rest → IsLeft left a first
    → IfOk result (IsLeft rest b) → all ≡ a + b → IfOk result (IsLeft left all)
left_both (Ok None) first rest a b all left is one two same = omega (arith, left_some first rest a left is one, two, same)
left_both (Ok (Some r)) first rest a b all left is one two same = omega (arith, left_some first rest a left is one, two, same)
left_both (Err e) first rest a b all left is one two same = tt

-- no room for the first of two
pub left_first : (first : Option ℕ) (a b all left : ℕ) → first ≡ None → IsLeft left a first → all ≡ a + b → left < all
left_first first a b all left is one same = omega (arith, left_gone first a left is one, same)

-- so many, by another name
pub left_as : (o : Option ℕ) (a b start : ℕ) → a ≡ b → IsLeft start a o → IsLeft start b o
left_as None a b start same h = omega (arith, same, h)
left_as (Some r) a b start same h = omega (arith, same, h)

pub answered : (room : Result (Option ℕ) AllocError) (start taken : ℕ) → IfOk room (IsLeft start taken)
    → MatchResult (answer_for_room room) (λ done. ¬ (start < taken)) (LongOr (start < taken))
answered (Ok (Some rest)) start taken h = λ less. omega (arith, h, less)
answered (Ok None) start taken h = h
answered (Err e) start taken h = tt

-- ---- locations, instructions and reads

pub place_room : (o : Option ℕ) (p : Place) (name : List ℕ) (es : List Element) (left m l : ℕ) → name ≡ p.name → es ≡ p.args → left ≡ 2 + m
    → length (quoted name) + l ≤ m → IfSome o (λ r. spelled_list (map element_json_of es) + r ≤ l) → IfSome o (λ r. spelled (location_json_of p) + r ≤ left)
place_room o p name es left m l same_name same_args two taken h =
    let n : length (quoted name) ≡ length (quoted p.name) = ap (λ s. length (quoted s)) same_name in
    let a : spelled_list (map element_json_of es) ≡ spelled_list (map element_json_of p.args) = ap (λ xs. spelled_list (map element_json_of xs)) same_args in
    more o _ _ l left h (omega (arith, place_is p, n, a, two, taken))

-- how many bytes a location and its value have, each with a comma
abbrev pub seen_size : Place → Value → ℕ
seen_size p v = spelled (location_json_of p) + 1 + (spelled (value_json_of v) + 1)

pub same_seen : (seen : Old) (at p : Place) (v : Value) → at ≡ p → v ≡ seen at → seen_size at v ≡ seen_size p (seen p)
same_seen seen at p v here is = ap₂ seen_size here (is ∙ ap seen here)

pub one_seen : (seen : Old) (p at : Place) → at ≡ p → seen_size p (seen p) ≡ spelled_values seen (at ∷ [])
one_seen seen p at here = omega (arith, same_seen seen at p (seen at) here refl)

pub one_operand : (o : Option ℕ) (a : Action) (d : Data) (left : ℕ) → operands_of a ≡ d ∷ [] → IfSome o (λ r. spelled d + r ≤ left)
    → IfSome o (λ r. spelled_list (operands_of a) + r ≤ left + 2)
one_operand o a d left is h =
    let all : spelled_list (operands_of a) ≡ spelled d + 1 + 0 = ap spelled_list is in
    more o (spelled d) (spelled_list (operands_of a)) left (left + 2) h (omega (arith, all))

pub two_operands : (o : Option ℕ) (a : Action) (d e : Data) (left : ℕ) → operands_of a ≡ d ∷ e ∷ [] → IfSome o (λ r. spelled d + spelled e + r ≤ left)
    → IfSome o (λ r. spelled_list (operands_of a) + r ≤ left + 2)
two_operands o a d e left is h =
    let all : spelled_list (operands_of a) ≡ spelled d + 1 + (spelled e + 1 + 0) = ap spelled_list is in
    more o (spelled d + spelled e) (spelled_list (operands_of a)) left (left + 2) h (omega (arith, all))

pub left_as_seen : (result : Result (Option ℕ) AllocError) (seen : Old) (at : Place) (v : Value) (left : ℕ) → v ≡ seen at → IfOk result (IsLeft left (seen_size at v))
    → IfOk result (IsLeft left (spelled_values seen (at ∷ [])))
left_as_seen (Ok o) seen at v left is h = left_as o _ _ left (omega (arith, same_seen seen at at v refl is)) h
left_as_seen (Err e) seen at v left is h = tt

word_short : (a : Action) → length (quoted (word_of a)) ≤ 56
word_short (Regular v) = omega (arith, quoted_short (codes "put"))
word_short (SetAdd e) = omega (arith, quoted_short (codes "add"))
word_short (SetRemove e) = omega (arith, quoted_short (codes "remove"))
word_short (BagAdd e n) = omega (arith, quoted_short (codes "bagadd"))
word_short (BagRemove e n) = omega (arith, quoted_short (codes "bagremove"))
word_short (Increment n) = omega (arith, quoted_short (codes "inc"))

instruction_is : (i : Instruction) → spelled (instruction_json_of i) ≡ length (quoted (word_of i.action)) + spelled (location_json_of i.at) + spelled_list (operands_of i.action) + 3
instruction_is i =
    let at = compact_text (location_json_of i.at) in
    let rest = items_text true (items_of (operands_of i.action)) in
    omega (arith, length-append (quoted (word_of i.action)) (44 ∷ (at ++ rest)), length-append at rest, items_after (operands_of i.action))

pub instruction_short : (i : Instruction) → spelled (instruction_json_of i) ≤ spelled (location_json_of i.at) + spelled_list (operands_of i.action) + 59
instruction_short i = omega (arith, instruction_is i, word_short i.action)

pub instruction_at : (i : Instruction) → spelled (location_json_of i.at) ≤ spelled (instruction_json_of i)
instruction_at i = omega (arith, instruction_is i)

pub named_at : (r : Named) → spelled (location_json_of r.at) ≤ spelled (named_json_of r)
named_at r = omega (arith, pair_is (location_json_of r.at) (number_json_of r.number))

-- ---- the longest

max_le : (a b k : ℕ) → a ≤ k → b ≤ k → max a b ≤ k
max_le a b k h j = omega (arith, h, j)

longest_short : {X : Type 0} (f g : X → Data) → ((x : X) → spelled (f x) ≤ spelled (g x)) → (xs : List X) → longest (map f xs) ≤ spelled_list (map g xs)
longest_short f g below [] = omega arith
longest_short f g below (x ∷ xs) = max_le (spelled (f x)) (longest (map f xs)) _ (omega (arith, below x)) (omega (arith, longest_short f g below xs))

short_sum : (m x y rest half limit : ℕ) → half + half ≤ limit → x + y + rest ≤ half → m ≤ x + y → limit < m + x + y → ⊥
short_sum m x y rest half limit small h at long = omega (arith, small, h, at, long)

pub fire_short : (reads : List Named) (M : Move) (half rest : ℕ) → half + half ≤ counted_limit
    → spelled_list (map instruction_json_of M) + spelled_list (map named_json_of reads) + rest ≤ half → ¬ IsLongFire reads M
fire_short reads M half rest small h long =
    let a = longest (map (λ (i : Instruction). location_json_of i.at) M) in
    let b = longest (map (λ (r : Named). location_json_of r.at) reads) in
    let x = spelled_list (map instruction_json_of M) in
    let y = spelled_list (map named_json_of reads) in
    let at : max a b ≤ x + y =
    max_le a b (x + y) (omega (arith, longest_short (λ (i : Instruction). location_json_of i.at) instruction_json_of instruction_at M))
    (omega (arith, longest_short (λ (r : Named). location_json_of r.at) named_json_of named_at reads)) in
    short_sum (max a b) x y rest half counted_limit small h at long

-- the size of a fire, in two parts
pub fire_parts : (m a b p q x y : ℕ) → m ≡ max p q → p ≡ a → q ≡ b → max a b + x + y ≡ m + (x + y)
fire_parts m a b p q x y is one two = omega (arith, is ∙ ap₂ max one two)

-- the longest so far, with one more
pub max_step : (all most old x y new next : ℕ) → max most old ≡ all → old ≡ max x new → y ≡ x → next ≡ max most y → max next new ≡ all
max_step all most old x y new next h step same is = omega (arith, h, step, same, is)

pub max_end : (all most old : ℕ) → max most old ≡ all → old ≡ 0 → most ≡ all
max_end all most old h none = omega (arith, h, none)
