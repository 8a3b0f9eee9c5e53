-- Values whose compact text is read back: of numbers in 64 bits, texts in UTF-8 and members in order, nesting less deep than
-- JSON may. What is read as a value is such a one.
use Rattle.std.specs.Prelude.{◌≡◌, ◌<◌, ◌^◌, pos, negsuc, IsUtf8, ⊤, FitsSigned, All, IsTrue, nat_le}
use Rattle.serde_json.specs.Data.{Num, unsigned, negative, float, Data, null, boolean, number, string, array, object, Items, no_items, item, Members, no_members, member, put, depth, items_depth, members_depth}
use Rattle.std.proofs.Common.{codes, zero, ◌*◌, ◌≤◌, ◌&&◌, ℕ, suc, max, Bool, ℤ, List, [], ◌∷◌, length, map, true, false, refl, sym, ap, ◌∙◌, true≢false, inl, inr, nat_lt, arith, subst}
use Rattle.std.specs.Int.{w64}
use Rattle.std.specs.List.{AllByRecursion, list_all}
use Rattle.std.proofs.lemmas.Bool.{and_parts, cases_lt, lt-ltb}
use Rattle.std.proofs.lemmas.Bool.Decides.{nat_tests}
use Rattle.std.proofs.lemmas.List.Elements.{recursion_from_All}
use Rattle.json.proofs.Printed.Utf8.{are_ascii, IsUtf8-are_ascii}
use Rattle.serde_json.specs.Find.{of_integer}
use Rattle.serde_json.specs.View.{items_of}
use Rattle.asm_element.specs.Datum as datum
use Rattle.asm_element.specs.Datum.{Datum, Sequence, IsProperDatum, AreProperItems}
use Rattle.asm_element.specs.Element as element
use Rattle.asm_element.specs.Place as place
use Rattle.asm_element.specs.Place.{Place, is_name, is_name_start, is_name_byte}
use Rattle.asm_element.specs.declared.element.Element.{Element}
use Rattle.asm_element.specs.declared.element.Element.TheVariants as elements
use Rattle.asm_journal.specs.Shape.{list_of, pair_of, one_of, two_of, number_json_of, AreForms, IsListForm, IsOnly, IsNumberForm}
use Rattle.asm_journal.specs.Element.{datum_json_of, items_json_of, element_json_of, location_json_of, IsIntegerForm, IsElementForm, IsLocationForm}
use Rattle.asm_element.specs.declared.value.Value.{Value}
use Rattle.asm_element.specs.declared.value.Value.TheVariants as values
use Rattle.asm_update.specs.declared.action.Action.{Action}
use Rattle.asm_update.specs.declared.action.Action.TheVariants.{Regular, SetAdd, SetRemove, BagAdd, BagRemove, Increment}
use Rattle.asm_update.specs.declared.action.Instruction.{Instruction}
use Rattle.asm_element.specs.Set as set
use Rattle.asm_element.specs.Bag as bag
use Rattle.asm_update.specs.Move.{Move}
use Rattle.asm_update.specs.declared.clash.Cause.{Cause}
use Rattle.asm_update.specs.declared.clash.Cause.TheVariants as cause
use Rattle.asm_update.specs.declared.clash.Clash.{Clash}
use Rattle.asm_state.specs.declared.named.Named.{Named}
use Rattle.asm_storage.specs.declared.call.Call.{Call}
use Rattle.asm_storage.specs.declared.call.Call.TheVariants as call
use Rattle.asm_storage.specs.declared.call.Reply.{Reply}
use Rattle.asm_storage.specs.declared.call.Reply.TheVariants as reply
use Rattle.asm_storage.specs.declared.call.Answer.{Answer}
use Rattle.asm_storage.specs.declared.call.Answer.TheVariants as answer
use Rattle.asm_storage.specs.declared.history.Event.{Event}
use Rattle.asm_journal.specs.Set.{IsCounted, IsCountForm, IsSetForm, IsBagForm}
use Rattle.asm_journal.specs.Event.{word_of_cause, IsNamedForm, IsMoveForm, IsCallForm, IsClashForm, IsReplyForm, IsAnswerForm, IsEventForm}
use Rattle.asm_update.specs.State.{State}
use Rattle.asm_journal.specs.Value.{IsValueForm, IsPairForm, IsStateForm}
use Rattle.asm_journal.specs.Instruction.{word_of, AreOperands, IsInstructionForm}

-- the members, put one after another
abbrev pub put_all : Members → Members → Members
put_all found no_members = found
put_all found (member k d ms) = put_all (put k d found) ms

-- a whole number in the range of u64 or of i64
abbrev pub IsCleanNumber : Num → Type 0
IsCleanNumber (unsigned n) = n < 2 ^ 64
IsCleanNumber (negative (pos n)) = ⊥
IsCleanNumber (negative (negsuc n)) = n < 2 ^ 63
IsCleanNumber (float x) = ⊥

-- its numbers are whole, its texts and keys are UTF-8, and its members are in the order in which they are stored
abbrev mutual
  pub IsClean : Data → Type 0
  IsClean null = ⊤
  IsClean (boolean b) = ⊤
  IsClean (number n) = IsCleanNumber n
  IsClean (string s) = IsUtf8 s
  IsClean (array ds) = AreCleanItems ds
  IsClean (object ms) = AreCleanMembers ms × (put_all no_members ms ≡ ms)

  pub AreCleanItems : Items → Type 0
  AreCleanItems no_items = ⊤
  AreCleanItems (item d ds) = IsClean d × AreCleanItems ds

  pub AreCleanMembers : Members → Type 0
  AreCleanMembers no_members = ⊤
  AreCleanMembers (member k d ms) = IsUtf8 k × IsClean d × AreCleanMembers ms

-- clean, and nested at most to this depth
pub record IsCleanTo (n : ℕ) (d : Data) : Type 0 where
  pub clean : IsClean d
  pub shallow : depth d ≤ n

pub record AreItemsCleanTo (n : ℕ) (ds : Items) : Type 0 where
  pub clean : AreCleanItems ds
  pub shallow : items_depth ds ≤ n

pub record AreMembersCleanTo (n : ℕ) (ms : Members) : Type 0 where
  pub clean : AreCleanMembers ms
  pub shallow : members_depth ms ≤ n

pub both_below : (a b n : ℕ) → a ≤ n → b ≤ n → max a b ≤ n
both_below a b n h k = omega (arith, h, k)

-- what is clean to one depth is clean to any greater one
pub deeper : (m n : ℕ) (d : Data) → m ≤ n → IsCleanTo m d → IsCleanTo n d
deeper m n d h g = record { clean = g.clean; shallow = omega (arith, h, g.shallow) }

-- ---- arrays and objects

pub no_item : (n : ℕ) → AreItemsCleanTo n no_items
no_item n = record { clean = tt; shallow = omega arith }

pub more_items : (n : ℕ) (d : Data) (ds : Items) → IsCleanTo n d → AreItemsCleanTo n ds → AreItemsCleanTo n (item d ds)
more_items n d ds g gs = record { clean = (g.clean, gs.clean); shallow = both_below _ _ n g.shallow gs.shallow }

pub array_clean : (n : ℕ) (ds : Items) → AreItemsCleanTo n ds → IsCleanTo (suc n) (array ds)
array_clean n ds gs = record { clean = gs.clean; shallow = omega (arith, gs.shallow) }

pub items_clean : {X : Type 0} {P : X → Type 0} (n : ℕ) (f : X → Data) → ((x : X) → P x → IsCleanTo n (f x)) → (xs : List X)
    → AllByRecursion P xs → AreItemsCleanTo n (items_of (map f xs))
items_clean n f each [] h = no_item n
items_clean n f each (x ∷ xs) h = more_items n (f x) _ (each x h.0) (items_clean n f each xs h.1)

pub all_clean : {X : Type 0} {P : X → Type 0} (n : ℕ) (f : X → Data) → ((x : X) → P x → IsCleanTo n (f x)) → (xs : List X)
    → AllByRecursion P xs → IsCleanTo (suc n) (list_of (map f xs))
all_clean n f each xs h = array_clean n _ (items_clean n f each xs h)

pub pair_clean : (n : ℕ) (a b : Data) → IsCleanTo n a → IsCleanTo n b → IsCleanTo (suc n) (pair_of a b)
pair_clean n a b g h = array_clean n _ (more_items n a _ g (more_items n b _ h (no_item n)))

pub no_member : (n : ℕ) → AreMembersCleanTo n no_members
no_member n = record { clean = tt; shallow = omega arith }

pub more_members : (n : ℕ) (key : List ℕ) (d : Data) (ms : Members) → are_ascii key ≡ true → IsCleanTo n d
    → AreMembersCleanTo n ms → AreMembersCleanTo n (member key d ms)
more_members n key d ms plain g gs =
    record { clean = (IsUtf8-are_ascii key plain, g.clean, gs.clean); shallow = both_below _ _ n g.shallow gs.shallow }

pub object_clean : (n : ℕ) (ms : Members) → AreMembersCleanTo n ms → put_all no_members ms ≡ ms → IsCleanTo (suc n) (object ms)
object_clean n ms gs ordered = record { clean = (gs.clean, ordered); shallow = omega (arith, gs.shallow) }

pub one_clean : (n : ℕ) (key : List ℕ) (d : Data) → are_ascii key ≡ true → IsCleanTo n d → IsCleanTo (suc n) (one_of key d)
one_clean n key d plain g = object_clean n _ (more_members n key d _ plain g (no_member n)) refl

-- ---- elements, locations and values

pub number_clean : (n : ℕ) → n < 2 ^ 64 → IsCleanTo 0 (number_json_of n)
number_clean n h = record { clean = h; shallow = omega arith }

pub small_clean : (n : ℕ) → n < 2 ^ 32 → IsCleanTo 0 (number_json_of n)
small_clean n h = number_clean n (omega (arith, h))

pub string_clean : (s : List ℕ) → IsUtf8 s → IsCleanTo 0 (string s)
string_clean s h = record { clean = h; shallow = omega arith }

pub word_clean : (s : List ℕ) → are_ascii s ≡ true → IsCleanTo 0 (string s)
word_clean s plain = string_clean s (IsUtf8-are_ascii s plain)

pub integer_clean : (z : ℤ) → FitsSigned w64 z → IsCleanTo 0 (number (of_integer z))
integer_clean (pos n) h = record { clean = omega (arith, h); shallow = omega arith }
integer_clean (negsuc n) h = record { clean = omega (arith, h); shallow = omega arith }

pub left_below : (a b n : ℕ) → max a b ≤ n → a ≤ n
left_below a b n h = omega (arith, h)

pub right_below : (a b n : ℕ) → max a b ≤ n → b ≤ n
right_below a b n h = omega (arith, h)

-- an array in an object for each level of lists
mutual
  datum_clean : (n : ℕ) (d : Datum) → datum.depth d ≤ n → IsProperDatum d → IsCleanTo (2 * n) (datum_json_of d)
  datum_clean n datum.undef below h = record { clean = tt; shallow = omega arith }
  datum_clean n (datum.truth b) below h = record { clean = tt; shallow = omega arith }
  datum_clean n (datum.number z) below h = deeper 0 (2 * n) _ (omega arith) (integer_clean z h)
  datum_clean n (datum.text s) below h = deeper 0 (2 * n) _ (omega arith) (string_clean s h)
  datum_clean zero (datum.list ds) below h = absurd (omega (arith, below))
  datum_clean (suc n) (datum.list ds) below h =
      let items = sequence_clean n ds (omega (arith, below)) h.1.1 in
      deeper (suc (suc (2 * n))) (2 * suc n) _ (omega arith)
      (one_clean (suc (2 * n)) (codes "list") _ refl (array_clean (2 * n) _ items))

  sequence_clean : (n : ℕ) (ds : Sequence) → datum.items_depth ds ≤ n → AreProperItems ds → AreItemsCleanTo (2 * n) (items_json_of ds)
  sequence_clean n datum.nothing below h = no_item (2 * n)
  sequence_clean n (datum.item d ds) below h =
      more_items (2 * n) _ _ (datum_clean n d (left_below _ _ n below) h.0) (sequence_clean n ds (right_below _ _ n below) h.1)

pub element_clean : (x : Element) → element.IsProper x → IsCleanTo 16 (element_json_of x)
element_clean elements.Undef h = record { clean = tt; shallow = omega arith }
element_clean (elements.Bool b) h = record { clean = tt; shallow = omega arith }
element_clean (elements.Num z) h = deeper 0 16 _ (omega arith) (integer_clean z h)
element_clean (elements.Text s) h = deeper 0 16 _ (omega arith) (string_clean s h)
element_clean (elements.List ds) h = datum_clean 8 (datum.list ds) h.1.0 h

-- a test that refuses each byte from 128 on takes bytes below 128 alone
pub below_128 : (test : ℕ → Bool) → ((b : ℕ) → 128 ≤ b → test b ≡ false) → (b : ℕ) → test b ≡ true → nat_lt b 128 ≡ true
below_128 test high b e = elim (cases_lt b 128) [
  | inl low ↦ lt-ltb b 128 low
  | inr past ↦ absurd (true≢false (sym e ∙ high b past))
]

pub high_byte : (b : ℕ) → 128 ≤ b → is_name_byte b ≡ false
high_byte b h = grind (arith, nat_tests)

pub high_start : (b : ℕ) → 128 ≤ b → is_name_start b ≡ false
high_start b h = grind (arith, nat_tests)

pub all_low : (bs : List ℕ) → list_all is_name_byte bs ≡ true → are_ascii bs ≡ true
all_low [] e = refl
all_low (b ∷ bs) e =
    let parts = and_parts (is_name_byte b) (list_all is_name_byte bs) e in
    ap (λ x. x && are_ascii bs) (below_128 is_name_byte high_byte b parts.0) ∙ all_low bs parts.1

-- a name is ASCII
pub name_ascii : (bs : List ℕ) → IsTrue (is_name bs) → are_ascii bs ≡ true
name_ascii [] h = absurd cc
name_ascii (b ∷ bs) h =
    let parts = and_parts (nat_le (length (b ∷ bs)) 64) (is_name_start b && list_all is_name_byte bs) h in
    let bytes = and_parts (is_name_start b) (list_all is_name_byte bs) parts.1 in
    ap (λ x. x && are_ascii bs) (below_128 is_name_start high_start b bytes.0) ∙ all_low bs bytes.1

pub elements_clean : (xs : List Element) → All element.IsProper xs → AreItemsCleanTo 16 (items_of (map element_json_of xs))
elements_clean xs h = items_clean 16 element_json_of element_clean xs (recursion_from_All element.IsProper xs h)

pub location_clean : (p : Place) → place.IsProper p → IsCleanTo 17 (location_json_of p)
location_clean p h =
    array_clean 16 _ (more_items 16 _ _ (deeper 0 16 _ (omega arith) (word_clean p.name (name_ascii p.name h.0)))
    (elements_clean p.args h.2))

-- ---- objects of two members

pub two_clean : (n : ℕ) (k l : List ℕ) (a b : Data) → are_ascii k ≡ true → are_ascii l ≡ true
    → put_all no_members (member k a (member l b no_members)) ≡ member k a (member l b no_members)
    → IsCleanTo n a → IsCleanTo n b → IsCleanTo (suc n) (two_of k a l b)
two_clean n k l a b plain clear ordered g h =
    object_clean n _ (more_members n k a _ plain g (more_members n l b _ clear h (no_member n))) ordered

pub number_form_clean : (n : ℕ) (d : Data) → IsNumberForm n d → IsCleanTo 0 d
number_form_clean n d h = subst (IsCleanTo 0) (sym h.1) (small_clean n h.0)

pub integer_form_clean : (z : ℤ) (d : Data) → IsIntegerForm z d → IsCleanTo 0 d
integer_form_clean z d h = subst (IsCleanTo 0) (sym h.1) (integer_clean z h.0)

pub element_form_clean : (x : Element) (d : Data) → IsElementForm x d → IsCleanTo 16 d
element_form_clean x d h = subst (IsCleanTo 16) (sym h.1) (element_clean x h.0)

pub location_form_clean : (p : Place) (d : Data) → IsLocationForm p d → IsCleanTo 17 d
location_form_clean p d h = subst (IsCleanTo 17) (sym h.1) (location_clean p h.0)

forms_clean : {X : Type 0} (n : ℕ) (F : X → Data → Type 0) → ((x : X) (d : Data) → F x d → IsCleanTo n d) → (xs : List X) (ds : Items)
    → AreForms F xs ds → AreItemsCleanTo n ds
forms_clean n F each [] no_items h = no_item n
forms_clean n F each [] (item d ds) h = absurd h
forms_clean n F each (x ∷ xs) no_items h = absurd h
forms_clean n F each (x ∷ xs) (item d ds) h = more_items n d ds (each x d h.0) (forms_clean n F each xs ds h.1)

pub list_form_clean : {X : Type 0} (n : ℕ) (F : X → Data → Type 0) → ((x : X) (d : Data) → F x d → IsCleanTo n d) → (xs : List X)
    (d : Data) → IsListForm F xs d → IsCleanTo (suc n) d
list_form_clean n F each xs d h = subst (IsCleanTo (suc n)) (sym h.1) (array_clean n h.0 (forms_clean n F each xs h.0 h.2))

only_clean : {X : Type 0} (m n : ℕ) (F : X → Data → Type 0) → m ≤ n → ((x : X) (d : Data) → F x d → IsCleanTo m d) → (x : X) (ds : Items)
    → IsOnly F x ds → AreItemsCleanTo n ds
only_clean m n F below each x ds h =
    subst (AreItemsCleanTo n) (sym h.1) (more_items n h.0 _ (deeper m n h.0 below (each x h.0 h.2)) (no_item n))

pub counted_form_clean : (n : ℕ) → 16 ≤ n → (p : Element × ℕ) (ds : Items) → IsCounted p ds → AreItemsCleanTo n ds
counted_form_clean n below p ds h =
    subst (AreItemsCleanTo n) (sym h.2)
    (more_items n h.0 _ (deeper 16 n h.0 below (element_form_clean p.0 h.0 h.3))
    (more_items n h.1 _ (deeper 0 n h.1 (omega arith) (number_form_clean p.1 h.1 (h.4.0.1, h.4.1))) (no_item n)))

pub count_form_clean : (p : Element × ℕ) (d : Data) → IsCountForm p d → IsCleanTo 17 d
count_form_clean p d h = subst (IsCleanTo 17) (sym h.1) (array_clean 16 h.0 (counted_form_clean 16 (omega arith) p h.0 h.2))

pub value_form_clean : (v : Value) (d : Data) → IsValueForm v d → IsCleanTo 19 d
value_form_clean (values.Plain x) d h = deeper 16 19 d (omega arith) (element_form_clean x d h)
value_form_clean (values.Set s) d h =
    subst (IsCleanTo 19) (sym h.1)
    (deeper 18 19 _ (omega arith) (one_clean 17 _ h.0 refl (list_form_clean 16 IsElementForm element_form_clean h.2.0 h.0 h.2.1)))
value_form_clean (values.Bag b) d h =
    subst (IsCleanTo 19) (sym h.1) (one_clean 18 _ h.0 refl (list_form_clean 17 IsCountForm count_form_clean h.2.0 h.0 h.2.1))

operands_clean : (a : Action) (ds : Items) → AreOperands a ds → AreItemsCleanTo 19 ds
operands_clean (Regular v) ds h = only_clean 19 19 IsValueForm (omega arith) value_form_clean v ds h
operands_clean (SetAdd e) ds h = only_clean 16 19 IsElementForm (omega arith) element_form_clean e ds h
operands_clean (SetRemove e) ds h = only_clean 16 19 IsElementForm (omega arith) element_form_clean e ds h
operands_clean (BagAdd e n) ds h = counted_form_clean 19 (omega arith) (e, n) ds h
operands_clean (BagRemove e n) ds h = counted_form_clean 19 (omega arith) (e, n) ds h
operands_clean (Increment n) ds h = only_clean 0 19 IsIntegerForm (omega arith) integer_form_clean n ds h

word_plain : (a : Action) → are_ascii (word_of a) ≡ true
word_plain (Regular v) = refl
word_plain (SetAdd e) = refl
word_plain (SetRemove e) = refl
word_plain (BagAdd e n) = refl
word_plain (BagRemove e n) = refl
word_plain (Increment n) = refl

pub instruction_form_clean : (i : Instruction) (d : Data) → IsInstructionForm i d → IsCleanTo 20 d
instruction_form_clean i d h =
    let plain : are_ascii h.0 ≡ true = ap are_ascii h.5.0 ∙ word_plain i.action in
    subst (IsCleanTo 20) (sym h.3)
    (array_clean 19 _ (more_items 19 _ _ (deeper 0 19 _ (omega arith) (word_clean h.0 plain))
    (more_items 19 h.1 h.2 (deeper 17 19 h.1 (omega arith) (location_form_clean i.at h.1 h.4)) (operands_clean i.action h.2 h.5.1))))

-- ---- sets, bags and moves

pub set_form_clean : (s : set.ElementSet) (d : Data) → IsSetForm s d → IsCleanTo 17 d
set_form_clean s d h = list_form_clean 16 IsElementForm element_form_clean h.0 d h.1

pub bag_form_clean : (b : bag.ElementBag) (d : Data) → IsBagForm b d → IsCleanTo 18 d
bag_form_clean b d h = list_form_clean 17 IsCountForm count_form_clean h.0 d h.1

pub move_form_clean : (M : Move) (d : Data) → IsMoveForm M d → IsCleanTo 21 d
move_form_clean M d h = list_form_clean 20 IsInstructionForm instruction_form_clean h.0 d h.1

-- ---- states

pub pair_form_clean : (p : Place × Value) (d : Data) → IsPairForm p d → IsCleanTo 20 d
pair_form_clean p d h =
    subst (IsCleanTo 20) (sym h.2)
    (pair_clean 19 h.0 h.1 (deeper 17 19 h.0 (omega arith) (location_form_clean p.0 h.0 h.3)) (value_form_clean p.1 h.1 h.4))

pub state_form_clean : (A : State) (d : Data) → IsStateForm A d → IsCleanTo 21 d
state_form_clean A d h = list_form_clean 20 IsPairForm pair_form_clean h.0 d h.1

-- ---- calls, answers and events

pub named_form_clean : (r : Named) (d : Data) → IsNamedForm r d → IsCleanTo 18 d
named_form_clean r d h =
    subst (IsCleanTo 18) (sym h.2)
    (pair_clean 17 h.0 h.1 (location_form_clean r.at h.0 h.3) (deeper 0 17 h.1 (omega arith) (number_form_clean r.number h.1 h.4)))

pub call_form_clean : (c : Call) (d : Data) → IsCallForm c d → IsCleanTo 22 d
call_form_clean (call.Read places) d h =
    subst (IsCleanTo 22) (sym h.1)
    (deeper 19 22 _ (omega arith) (one_clean 18 _ h.0 refl (list_form_clean 17 IsLocationForm location_form_clean places h.0 h.2)))
call_form_clean (call.Fire reads instrs) d h =
    subst (IsCleanTo 22) (sym h.2)
    (two_clean 21 _ _ h.0 h.1 refl refl refl (move_form_clean instrs h.0 h.3)
    (deeper 19 21 h.1 (omega arith) (list_form_clean 18 IsNamedForm named_form_clean reads h.1 h.4)))

cause_clean : (c : Cause) → IsCleanTo 0 (string (word_of_cause c))
cause_clean cause.Two = word_clean _ refl
cause_clean cause.Mixed = word_clean _ refl
cause_clean cause.Kind = word_clean _ refl
cause_clean cause.Both = word_clean _ refl
cause_clean cause.Against = word_clean _ refl
cause_clean cause.Short = word_clean _ refl
cause_clean cause.Large = word_clean _ refl

pub clash_form_clean : (c : Clash) (d : Data) → IsClashForm c d → IsCleanTo 18 d
clash_form_clean c d h =
    subst (IsCleanTo 18) (sym h.2)
    (pair_clean 17 h.0 h.1 (location_form_clean c.at h.0 h.3)
    (deeper 0 17 h.1 (omega arith) (subst (IsCleanTo 0) (sym h.4) (cause_clean c.cause))))

pub reply_form_clean : (r : Reply) (d : Data) → IsReplyForm r d → IsCleanTo 21 d
reply_form_clean (reply.Fired k) d h =
    subst (IsCleanTo 21) (sym h.1) (deeper 1 21 _ (omega arith) (one_clean 0 _ h.0 refl (number_form_clean k h.0 h.2)))
reply_form_clean (reply.Stale l) d h =
    subst (IsCleanTo 21) (sym h.1) (deeper 18 21 _ (omega arith) (one_clean 17 _ h.0 refl (location_form_clean l h.0 h.2)))
reply_form_clean (reply.Clash c) d h =
    subst (IsCleanTo 21) (sym h.1) (deeper 19 21 _ (omega arith) (one_clean 18 _ h.0 refl (clash_form_clean c h.0 h.2)))
reply_form_clean reply.Full d h = subst (IsCleanTo 21) (sym h) (deeper 0 21 _ (omega arith) (word_clean _ refl))

pub answer_form_clean : (a : Answer) (d : Data) → IsAnswerForm a d → IsCleanTo 21 d
answer_form_clean (answer.Read n vs) d h =
    subst (IsCleanTo 21) (sym h.2)
    (two_clean 20 _ _ h.0 h.1 refl refl refl (deeper 0 20 h.0 (omega arith) (number_form_clean n h.0 h.3))
    (list_form_clean 19 IsValueForm value_form_clean vs h.1 h.4))
answer_form_clean (answer.Fire r) d h = reply_form_clean r d h

pub event_form_clean : (e : Event) (d : Data) → IsEventForm e d → IsCleanTo 23 d
event_form_clean e d h =
    subst (IsCleanTo 23) (sym h.3)
    (object_clean 22 _ (more_members 22 _ h.0 _ refl (deeper 0 22 h.0 (omega arith) (number_form_clean e.agent h.0 h.4))
    (more_members 22 _ h.1 _ refl (call_form_clean e.call h.1 h.5)
    (more_members 22 _ h.2 _ refl (deeper 21 22 h.2 (omega arith) (answer_form_clean e.answer h.2 h.6)) (no_member 22)))) refl)
