-- Values in general: lists anywhere in one, how deep it nests, and that clean ones are read back from their compact text.
use Rattle.std.proofs.Common.{◌≡◌, ◌<◌, ℕ, zero, suc, true, false, List, [], ◌∷◌, ◌++◌, length, get_or, refl, sym, ap, ◌∙◌, ◌≤◌, arith, ◌≢◌, ◌^◌, ◌==◌, ◌&&◌, pos, negsuc, max, Bool, not, Some, IsUtf8, decimal, option_map, option_and_then, ap₂}
use Rattle.std.proofs.Common.{subst, inl, inr, append-nil}
use Rattle.serde_json.specs.Data.{depth, items_depth, Num, unsigned, negative, float, Data, null, boolean, number, string, array, object, Items, no_items, item, Members, no_members, member, put, members_depth}
use Rattle.serde_json.specs.View.{view, items_view}
use Rattle.serde_json.specs.declared.value.Value.{Value as Json}
use Rattle.asm_element.specs.Tests.{neither, or_right}
use Rattle.asm_journal.specs.Shape.{has_list, items_have_list}
use Rattle.std.specs.List.{AllByRecursion}
use Rattle.std.proofs.lemmas.Bool.{and_parts, cases_lt, cases_eq, not-true, eqb-false}
use Rattle.std.proofs.lemmas.List.Elements.{All-append, All-from_recursion}
use Rattle.std.proofs.lemmas.Str.{IsUtf8-append, IsUtf8-from_ascii}
use Rattle.std.proofs.lemmas.List.{get_or_past, get_or_default}
use Rattle.std.proofs.lemmas.Str.Parse.{digit_at}
use Rattle.std.proofs.lemmas.Fmt.{decimal_is_IsNumeral, IsAscii-signed}
use Rattle.json.specs.Token.{Token}
use Rattle.json.specs.Lex.{tokens}
use Rattle.json.specs.Print.{escape_byte, escape, quoted, token_text}
use Rattle.json.specs.Json as json
use Rattle.json.specs.Tree as tree
use Rattle.json.proofs.Printed.Tokens.{tokens-print}
use Rattle.json.proofs.Printed.Trees.{value-json_tokens, ArePrintable-json_tokens}
use Rattle.json.proofs.Printed.Decimals.{IsNumber-decimal, IsNumber-signed_decimal}
use Rattle.json.proofs.Printed.Strings.{escape_byte_plain}
use Rattle.json.proofs.Printed.Utf8.{IsUtf8-are_ascii, IsUtf8-quoted, IsUtf8-boolean}
use Rattle.serde_json.specs.Read.{number_of, of_json, of_items, of_members, max_depth, read}
use Rattle.serde_json.specs.Written.{number_text, outline, items_outline, members_outline, comma_if, compact_text, items_text, members_text}
use Rattle.serde_json.proofs.Numbers.{number_of-decimal, number_of-negative}
use Rattle.serde_json.proofs.Texts.{print-outline}
use Rattle.asm_journal.specs.Reading.{IsJson, HasNoLineFeed}
pub use Rattle.asm_journal.specs.readback.{put_all, IsCleanNumber, IsClean, AreCleanItems, AreCleanMembers}

-- an item with a list
pub item_reports : (vs : List Json) (k : ℕ) (v : Json) → k < length vs → v ≡ get_or vs k v → has_list (view v) ≡ true
    → items_have_list (items_view vs) ≡ true
item_reports vs k v below is has = at vs k below (ap (λ j. has_list (view j)) (sym is) ∙ has) where
  at : (ws : List Json) (k : ℕ) → k < length ws → has_list (view (get_or ws k v)) ≡ true
      → items_have_list (items_view ws) ≡ true
  at [] k below has = absurd (omega (arith, below))
  at (w ∷ ws) zero below has = rw has refl
  at (w ∷ ws) (suc k) below has = or_right _ _ (at ws k (omega (arith, below)) has)

-- one more item without one
pub none_more : (vs : List Json) (v : Json) → items_have_list (items_view vs) ≡ false → has_list (view v) ≡ false
    → items_have_list (items_view (vs ++ v ∷ [])) ≡ false
none_more [] v none this = rw this refl
none_more (w ∷ vs) v none this =
    let parts = neither (has_list (view w)) (items_have_list (items_view vs)) none in
    rw parts.0 (none_more vs v parts.1 this)

-- ---- how deep JSON nests

pub item_is_shallower : (vs : List Json) (k : ℕ) (v : Json) → k < length vs → v ≡ get_or vs k v → depth (view v) ≤ items_depth (items_view vs)
item_is_shallower vs k v below is = omega (arith, item_depth vs k v below, ap (λ j. depth (view j)) is) where
  item_depth : (vs : List Json) (k : ℕ) (v : Json) → k < length vs → depth (view (get_or vs k v)) ≤ items_depth (items_view vs)
  item_depth [] k v below = absurd (omega (arith, below))
  item_depth (w ∷ vs) zero v below = omega arith
  item_depth (w ∷ vs) (suc k) v below = omega (arith, item_depth vs k v (omega (arith, below)))

-- ---- the text is read as the value

reads_number : (n : Num) → IsCleanNumber n → number_of (number_text n) ≡ Some n
reads_number (unsigned n) h = number_of-decimal n h
reads_number (negative (pos n)) h = absurd h
reads_number (negative (negsuc n)) h = number_of-negative n h
reads_number (float x) h = absurd h

mutual
  of_json-outline : (d : Data) → IsClean d → of_json (outline d) ≡ Some d
  of_json-outline null h = refl
  of_json-outline (boolean b) h = refl
  of_json-outline (number n) h = ap (option_map number) (reads_number n h)
  of_json-outline (string s) h = refl
  of_json-outline (array ds) h = ap (option_map array) (of_items-outline ds h)
  of_json-outline (object ms) h = ap (option_map object) (of_members-outline no_members ms h.0 ∙ ap Some h.1)

  of_items-outline : (ds : Items) → AreCleanItems ds → of_items (items_outline ds) ≡ Some ds
  of_items-outline no_items h = refl
  of_items-outline (item d ds) h = rw (of_json-outline d h.0, of_items-outline ds h.1) refl

  of_members-outline : (found ms : Members) → AreCleanMembers ms
      → of_members (members_outline ms) found ≡ Some (put_all found ms)
  of_members-outline found no_members h = refl
  of_members-outline found (member k d ms) h = rw (of_json-outline d h.1) (of_members-outline (put k d found) ms h.2)

has_number : (n : Num) → IsCleanNumber n → tree.HasNumbers (json.number (number_text n))
has_number (unsigned n) h = IsNumber-decimal n h
has_number (negative (pos n)) h = absurd h
has_number (negative (negsuc n)) h = IsNumber-signed_decimal (negsuc n) h
has_number (float x) h = absurd h

mutual
  HasNumbers-outline : (d : Data) → IsClean d → tree.HasNumbers (outline d)
  HasNumbers-outline null h = tt
  HasNumbers-outline (boolean b) h = tt
  HasNumbers-outline (number n) h = has_number n h
  HasNumbers-outline (string s) h = tt
  HasNumbers-outline (array ds) h = ItemsHaveNumbers-outline ds h
  HasNumbers-outline (object ms) h = MembersHaveNumbers-outline ms h.0

  ItemsHaveNumbers-outline : (ds : Items) → AreCleanItems ds → tree.ItemsHaveNumbers (items_outline ds)
  ItemsHaveNumbers-outline no_items h = tt
  ItemsHaveNumbers-outline (item d ds) h = (HasNumbers-outline d h.0, ItemsHaveNumbers-outline ds h.1)

  MembersHaveNumbers-outline : (ms : Members) → AreCleanMembers ms → tree.MembersHaveNumbers (members_outline ms)
  MembersHaveNumbers-outline no_members h = tt
  MembersHaveNumbers-outline (member k d ms) h = (HasNumbers-outline d h.1, MembersHaveNumbers-outline ms h.2)

mutual
  depth-outline : (d : Data) → tree.depth (outline d) ≡ depth d
  depth-outline null = refl
  depth-outline (boolean b) = refl
  depth-outline (number n) = refl
  depth-outline (string s) = refl
  depth-outline (array ds) = ap suc (items_depth-outline ds)
  depth-outline (object ms) = ap suc (members_depth-outline ms)

  items_depth-outline : (ds : Items) → tree.items_depth (items_outline ds) ≡ items_depth ds
  items_depth-outline no_items = refl
  items_depth-outline (item d ds) = ap₂ max (depth-outline d) (items_depth-outline ds)

  members_depth-outline : (ms : Members) → tree.members_depth (members_outline ms) ≡ members_depth ms
  members_depth-outline no_members = refl
  members_depth-outline (member k d ms) = ap₂ max (depth-outline d) (members_depth-outline ms)

pub read-compact_text : (d : Data) → IsClean d → depth d ≤ max_depth → read (compact_text d) ≡ Some d
read-compact_text d h shallow =
    let j = outline d in
    let lexed : tokens (compact_text d) ≡ tree.json_tokens j =
    ap tokens (sym (print-outline d))
    ∙ tokens-print (tree.json_tokens j) (ArePrintable-json_tokens j (HasNumbers-outline d h)) in
    let parsed : json.value max_depth (tree.json_tokens j) ≡ Some (j, []) =
    ap (json.value max_depth) (sym (append-nil (tree.json_tokens j)))
    ∙ value-json_tokens j max_depth [] (omega (arith, depth-outline d)) in
    ap (λ ts. option_and_then of_json (option_and_then (λ r. json.if_last r.0 r.1) (json.value max_depth ts))) lexed
    ∙ ap (λ o. option_and_then of_json (option_and_then (λ r. json.if_last r.0 r.1) o)) parsed
    ∙ of_json-outline d h

-- ---- the text is UTF-8

comma_utf8 : (b : Bool) → IsUtf8 (comma_if b)
comma_utf8 true = IsUtf8-are_ascii (44 ∷ []) refl
comma_utf8 false = IsUtf8-are_ascii [] refl

decimal_ascii : (n : ℕ) → n < 2 ^ 64 → (i : ℕ) → get_or (decimal n) i 0 < 128
decimal_ascii n h i = elim (cases_lt i (length (decimal n))) [
  | inl within ↦ let digit = digit_at (decimal n) i (decimal_is_IsNumeral n h).0.1 within in omega arith
  | inr past ↦ rw (get_or_past (decimal n) i 0 past) (omega arith)
]

number_utf8 : (n : Num) → IsCleanNumber n → IsUtf8 (number_text n)
number_utf8 (unsigned n) h = IsUtf8-from_ascii (decimal n) (λ i. decimal_ascii n h i)
number_utf8 (negative (pos n)) h = absurd h
number_utf8 (negative (negsuc n)) h = IsUtf8-from_ascii _ (IsAscii-signed (negsuc n) h)
number_utf8 (float x) h = absurd h

mutual
  pub IsUtf8-compact_text : (d : Data) → IsClean d → IsUtf8 (compact_text d)
  IsUtf8-compact_text null h = IsUtf8-are_ascii _ refl
  IsUtf8-compact_text (boolean b) h = IsUtf8-boolean b
  IsUtf8-compact_text (number n) h = number_utf8 n h
  IsUtf8-compact_text (string s) h = IsUtf8-quoted s h
  IsUtf8-compact_text (array ds) h = IsUtf8-append (91 ∷ []) _ (IsUtf8-are_ascii (91 ∷ []) refl) (items_utf8 false ds h)
  IsUtf8-compact_text (object ms) h =
      IsUtf8-append (123 ∷ []) _ (IsUtf8-are_ascii (123 ∷ []) refl) (members_utf8 false ms h.0)

  items_utf8 : (later : Bool) (ds : Items) → AreCleanItems ds → IsUtf8 (items_text later ds)
  items_utf8 later no_items h = IsUtf8-are_ascii (93 ∷ []) refl
  items_utf8 later (item d ds) h =
      IsUtf8-append _ _ (comma_utf8 later) (IsUtf8-append _ _ (IsUtf8-compact_text d h.0) (items_utf8 true ds h.1))

  members_utf8 : (later : Bool) (ms : Members) → AreCleanMembers ms → IsUtf8 (members_text later ms)
  members_utf8 later no_members h = IsUtf8-are_ascii (125 ∷ []) refl
  members_utf8 later (member k d ms) h =
      IsUtf8-append _ _ (comma_utf8 later) (IsUtf8-append _ _ (IsUtf8-quoted k h.0)
      (IsUtf8-append (58 ∷ []) _ (IsUtf8-are_ascii (58 ∷ []) refl)
      (IsUtf8-append _ _ (IsUtf8-compact_text d h.1) (members_utf8 true ms h.2))))

-- ---- the text has no line feed

abbrev no_feed : List ℕ → Bool
no_feed [] = true
no_feed (x ∷ xs) = not (x == 10) && no_feed xs

by_recursion : (xs : List ℕ) → no_feed xs ≡ true → AllByRecursion (λ b. b ≢ 10) xs
by_recursion [] e = tt
by_recursion (x ∷ xs) e =
    let p = and_parts (not (x == 10)) (no_feed xs) e in (eqb-false x 10 (not-true _ p.0), by_recursion xs p.1)

tested : (xs : List ℕ) → no_feed xs ≡ true → HasNoLineFeed xs
tested xs e = All-from_recursion (λ b. b ≢ 10) xs (by_recursion xs e)

one : (x : ℕ) → (x ≡ 10 → ⊥) → HasNoLineFeed (x ∷ [])
one x other = All-from_recursion (λ b. b ≢ 10) (x ∷ []) (other, tt)

join : (xs ys : List ℕ) → HasNoLineFeed xs → HasNoLineFeed ys → HasNoLineFeed (xs ++ ys)
join xs ys h k = All-append (λ b. b ≢ 10) xs ys h k

-- the escapes of the bytes below n
abbrev escapes_below : ℕ → Bool
escapes_below zero = true
escapes_below (suc n) = no_feed (escape_byte n) && escapes_below n

escape_below : (n : ℕ) → escapes_below n ≡ true → (x : ℕ) → x < n → no_feed (escape_byte x) ≡ true
escape_below zero e x h = absurd (omega arith)
escape_below (suc n) e x h =
    let p = and_parts (no_feed (escape_byte n)) (escapes_below n) e in
    elim (cases_eq x n) [ inl same ↦ rw same p.0 | inr other ↦ escape_below n p.1 x (omega arith) ]

low_escapes : escapes_below 128 ≡ true
unfolding escape_byte
low_escapes = refl

escape_byte_has_none : (x : ℕ) → HasNoLineFeed (escape_byte x)
escape_byte_has_none x = elim (cases_lt x 128) [
  | inl low ↦ tested _ (escape_below 128 low_escapes x low)
  | inr high ↦
      let plain = escape_byte_plain x (λ e. omega arith) (λ e. omega arith) (omega arith) in
      subst HasNoLineFeed (sym plain) (one x (λ e. omega arith))
]

escape_has_none : (s : List ℕ) → HasNoLineFeed (escape s)
escape_has_none [] = tested [] refl
escape_has_none (x ∷ s) = join (escape_byte x) (escape s) (escape_byte_has_none x) (escape_has_none s)

quoted_has_none : (s : List ℕ) → HasNoLineFeed (quoted s)
quoted_has_none s =
    join (34 ∷ []) _ (tested (34 ∷ []) refl) (join (escape s) (34 ∷ []) (escape_has_none s) (tested (34 ∷ []) refl))

decimal_has_none : (n : ℕ) → n < 2 ^ 64 → HasNoLineFeed (decimal n)
decimal_has_none n h = λ k d below e.
    let digit = digit_at (decimal n) k (decimal_is_IsNumeral n h).0.1 below in
    let same = get_or_default (decimal n) k d 0 below in
    omega arith

number_has_none : (n : Num) → IsCleanNumber n → HasNoLineFeed (number_text n)
number_has_none (unsigned n) h = decimal_has_none n h
number_has_none (negative (pos n)) h = absurd h
number_has_none (negative (negsuc n)) h =
    join (45 ∷ []) (decimal (suc n)) (tested (45 ∷ []) refl) (decimal_has_none (suc n) (omega arith))
number_has_none (float x) h = absurd h

boolean_has_none : (b : Bool) → HasNoLineFeed (token_text (Token.boolean b))
boolean_has_none true = tested (token_text (Token.boolean true)) refl
boolean_has_none false = tested (token_text (Token.boolean false)) refl

comma_has_none : (b : Bool) → HasNoLineFeed (comma_if b)
comma_has_none true = tested (44 ∷ []) refl
comma_has_none false = tested [] refl

mutual
  pub HasNoLineFeed-compact_text : (d : Data) → IsClean d → HasNoLineFeed (compact_text d)
  HasNoLineFeed-compact_text null h = tested (token_text Token.null) refl
  HasNoLineFeed-compact_text (boolean b) h = boolean_has_none b
  HasNoLineFeed-compact_text (number n) h = number_has_none n h
  HasNoLineFeed-compact_text (string s) h = quoted_has_none s
  HasNoLineFeed-compact_text (array ds) h = join (91 ∷ []) _ (tested (91 ∷ []) refl) (items_have_none false ds h)
  HasNoLineFeed-compact_text (object ms) h = join (123 ∷ []) _ (tested (123 ∷ []) refl) (members_have_none false ms h.0)

  items_have_none : (later : Bool) (ds : Items) → AreCleanItems ds → HasNoLineFeed (items_text later ds)
  items_have_none later no_items h = tested (93 ∷ []) refl
  items_have_none later (item d ds) h =
      join (comma_if later) _ (comma_has_none later)
      (join (compact_text d) _ (HasNoLineFeed-compact_text d h.0) (items_have_none true ds h.1))

  members_have_none : (later : Bool) (ms : Members) → AreCleanMembers ms → HasNoLineFeed (members_text later ms)
  members_have_none later no_members h = tested (125 ∷ []) refl
  members_have_none later (member k d ms) h =
      join (comma_if later) _ (comma_has_none later) (join (quoted k) _ (quoted_has_none k)
      (join (58 ∷ []) _ (tested (58 ∷ []) refl)
      (join (compact_text d) _ (HasNoLineFeed-compact_text d h.1) (members_have_none true ms h.2))))

-- the text of a value is one line of JSON
pub IsJson-compact_text : (d : Data) → IsClean d → depth d ≤ max_depth → IsJson (compact_text d) d
IsJson-compact_text d h shallow = (IsUtf8-compact_text d h, read-compact_text d h shallow)
