-- Objects, pairs, counts, instructions, calls, answers and events at the front of a text, and texts that are one of them alone.
use Rattle.std.proofs.Common.{◌≡◌, ℕ, List, [], ◌∷◌, ◌++◌, true, refl, sym, ap, ◌∙◌, append_assoc, codes, arith, ◌<◌, ◌≤◌, ◌^◌, false, true≢false, subst, ◌==◌, length, append-nil}
use Rattle.std.specs.Prelude.{Option, Result, Ok, Some, IfOk}
use Rattle.std.proofs.lemmas.Fmt.{decimal_digit}
use Rattle.json.specs.Print.{quoted, escape_byte}
use Rattle.serde_json.specs.Data.{Data, string, array, object, Members, no_members, member, item}
use Rattle.serde_json.specs.Written.{compact_text, members_text, items_text}
use Rattle.asm_element.specs.Place.{Place}
use Rattle.asm_element.specs.Set as set
use Rattle.asm_element.specs.Bag as bag
use Rattle.asm_element.specs.declared.element.Element.{Element}
use Rattle.asm_element.specs.declared.value.Value.{Value}
use Rattle.asm_element.specs.declared.value.Value.TheVariants as values
use Rattle.asm_update.specs.Move.{Move}
use Rattle.asm_update.specs.State.{State}
use Rattle.asm_update.specs.declared.clash.Cause.{Cause}
use Rattle.asm_update.specs.declared.clash.Clash.{Clash}
use Rattle.asm_state.specs.declared.named.Named.{Named}
use Rattle.asm_storage.specs.declared.call.Call.{Call}
use Rattle.asm_storage.specs.declared.call.Call.TheVariants as call
use Rattle.asm_storage.specs.declared.call.Reply.TheVariants as reply
use Rattle.asm_storage.specs.declared.call.Answer.{Answer}
use Rattle.asm_storage.specs.declared.call.Answer.TheVariants as answer
use Rattle.asm_journal.specs.Shape.{IsParsed, IsListForm, IsMadeForm, IsNumberForm, number_json_of, pair_of, one_of, two_of, BeginsAs, BeginsItems, IsVersion}
use Rattle.asm_journal.specs.Text.{header_with}
use Rattle.asm_journal.specs.Element.{IsLocationForm, IsElementForm}
use Rattle.asm_journal.specs.Set.{IsCounted, IsCountForm, IsSetForm, IsBagForm}
use Rattle.asm_journal.specs.Value.{IsValueForm, IsPairForm, IsStateForm}
use Rattle.asm_journal.specs.Event.{IsNamedForm, IsMoveForm, IsCallForm, IsCauseForm, IsClashForm, IsReplyForm, IsAnswerForm, event_object, IsEventForm, IsEventBelow}
use Rattle.asm_journal.proofs.Compact.{not_later, named_array}
use Rattle.serde_json.specs.View.{items_of}
use Rattle.asm_update.specs.declared.action.Action.{Action}
use Rattle.asm_journal.specs.Instruction.{IsActionForm, instruction_of, IsInstructionForm}
use Rattle.std.proofs.lemmas.Bool.{eqb-true}
use Rattle.serde_json.specs.Read.{max_depth}
use Rattle.asm_storage.specs.History.{EventFits}
use Rattle.asm_storage.specs.declared.history.Event.{Event}
use Rattle.asm_row.specs.Limits.{capacity_limit}
use Rattle.asm_storage.specs.Limits.{agents_limit}
use Rattle.asm_journal.specs.Reading.{IsJson, HasLine, IsHeader}
use Rattle.asm_journal.proofs.Clean.{IsJson-compact_text, HasNoLineFeed-compact_text}
use Rattle.asm_journal.specs.readback.{IsCleanTo, deeper, object_clean, more_members, no_member, event_form_clean, number_form_clean, state_form_clean}

-- ---- keys

set_key : codes "{\"set\":" ≡ 123 ∷ (quoted (codes "set") ++ 58 ∷ [])
unfolding escape_byte
set_key = refl

bag_key : codes "{\"bag\":" ≡ 123 ∷ (quoted (codes "bag") ++ 58 ∷ [])
unfolding escape_byte
bag_key = refl

read_key : codes "{\"read\":" ≡ 123 ∷ (quoted (codes "read") ++ 58 ∷ [])
unfolding escape_byte
read_key = refl

fire_key : codes "{\"fire\":" ≡ 123 ∷ (quoted (codes "fire") ++ 58 ∷ [])
unfolding escape_byte
fire_key = refl

reads_key : codes ",\"reads\":" ≡ 44 ∷ (quoted (codes "reads") ++ 58 ∷ [])
unfolding escape_byte
reads_key = refl

fired_key : codes "{\"fired\":" ≡ 123 ∷ (quoted (codes "fired") ++ 58 ∷ [])
unfolding escape_byte
fired_key = refl

stale_key : codes "{\"stale\":" ≡ 123 ∷ (quoted (codes "stale") ++ 58 ∷ [])
unfolding escape_byte
stale_key = refl

clash_key : codes "{\"clash\":" ≡ 123 ∷ (quoted (codes "clash") ++ 58 ∷ [])
unfolding escape_byte
clash_key = refl

number_key : codes "{\"number\":" ≡ 123 ∷ (quoted (codes "number") ++ 58 ∷ [])
unfolding escape_byte
number_key = refl

values_key : codes ",\"values\":" ≡ 44 ∷ (quoted (codes "values") ++ 58 ∷ [])
unfolding escape_byte
values_key = refl

agent_key : codes "{\"agent\":" ≡ 123 ∷ (quoted (codes "agent") ++ 58 ∷ [])
unfolding escape_byte
agent_key = refl

call_key : codes ",\"call\":" ≡ 44 ∷ (quoted (codes "call") ++ 58 ∷ [])
unfolding escape_byte
call_key = refl

agents_key : codes "{\"agents\":" ≡ 123 ∷ (quoted (codes "agents") ++ 58 ∷ [])
unfolding escape_byte
agents_key = refl

capacity_key : codes ",\"capacity\":" ≡ 44 ∷ (quoted (codes "capacity") ++ 58 ∷ [])
unfolding escape_byte
capacity_key = refl

events_key : codes ",\"events\":" ≡ 44 ∷ (quoted (codes "events") ++ 58 ∷ [])
unfolding escape_byte
events_key = refl

init_key : codes ",\"init\":" ≡ 44 ∷ (quoted (codes "init") ++ 58 ∷ [])
unfolding escape_byte
init_key = refl

version_end : (rest : List ℕ)
    → codes ",\"version\":2}\n" ++ rest ≡ members_text true (member (codes "version") (number_json_of 2) no_members) ++ 10 ∷ rest
unfolding escape_byte
version_end rest = ap (λ w. codes ",\"version\":" ++ ((w ++ 125 ∷ []) ++ 10 ∷ rest)) (sym (decimal_digit 2 (omega arith)))

reply_key : codes ",\"reply\":" ≡ 44 ∷ (quoted (codes "reply") ++ 58 ∷ [])
unfolding escape_byte
reply_key = refl

-- ---- objects

regroup : (c q m w r : List ℕ) → (c ++ (q ++ 58 ∷ [])) ++ (m ++ (w ++ r)) ≡ (c ++ (q ++ 58 ∷ (m ++ w))) ++ r
regroup c q m w r = simp append_assoc

module _ (key word text inside left rest : List ℕ) (d : Data) (ms : Members) where
  object_begins : word ≡ 123 ∷ (quoted key ++ 58 ∷ []) → text ≡ word ++ inside → inside ≡ compact_text d ++ left
      → left ≡ members_text true ms ++ rest → text ≡ compact_text (object (member key d ms)) ++ rest
  object_begins is e h k =
      e ∙ ap (λ w. w ++ inside) is ∙ ap (λ l. 123 ∷ ((quoted key ++ 58 ∷ []) ++ l)) (h ∙ ap (λ l. compact_text d ++ l) k)
      ∙ ap (λ l. 123 ∷ l) (regroup [] (quoted key) (compact_text d) (members_text true ms) rest)

  member_begins : word ≡ 44 ∷ (quoted key ++ 58 ∷ []) → text ≡ word ++ inside → inside ≡ compact_text d ++ left
      → left ≡ members_text true ms ++ rest → text ≡ members_text true (member key d ms) ++ rest
  member_begins is e h k =
      e ∙ ap (λ w. w ++ inside) is ∙ ap (λ l. 44 ∷ ((quoted key ++ 58 ∷ []) ++ l)) (h ∙ ap (λ l. compact_text d ++ l) k)
      ∙ regroup (44 ∷ []) (quoted key) (compact_text d) (members_text true ms) rest

-- an object of one member
one_begins : {X : Type 0} (F : X → Data → Type 0) (key word text inside left rest : List ℕ) (x : X)
    → word ≡ 123 ∷ (quoted key ++ 58 ∷ []) → text ≡ word ++ inside → (b : BeginsAs F inside x left) → left ≡ 125 ∷ rest
    → text ≡ compact_text (one_of key b.0) ++ rest
one_begins F key word text inside left rest x is e b k = object_begins key word text inside left rest b.0 no_members is e b.1 k

-- an array of two items
pair_begins : (text inside left second end rest : List ℕ) (a b : Data) → text ≡ 91 ∷ inside → inside ≡ compact_text a ++ left
    → left ≡ 44 ∷ second → second ≡ compact_text b ++ end → end ≡ 93 ∷ rest → text ≡ compact_text (pair_of a b) ++ rest
pair_begins text inside left second end rest a b e h comma k bracket =
    let m = compact_text a in
    let n = compact_text b in
    e ∙ ap (λ l. 91 ∷ l) (h ∙ ap (λ l. m ++ l) (comma ∙ ap (λ l. 44 ∷ l) (k ∙ ap (λ l. n ++ l) bracket)))
    ∙ ap (λ l. 91 ∷ l) (sym (append_assoc m (44 ∷ (n ++ 93 ∷ [])) rest ∙ ap (λ l. m ++ 44 ∷ l) (append_assoc n (93 ∷ []) rest)))

-- ---- sets, bags, values and moves

pub made_begins : {X Y : Type 0} (F : X → Data → Type 0) (M : Y → List X → Type 0) (text rest : List ℕ) (xs : List X) (y : Y)
    → BeginsAs (IsListForm F) text xs rest → M y xs → BeginsAs (IsMadeForm F M) text y rest
made_begins F M text rest xs y b made = (b.0, b.1, (xs, b.2, made))

-- what was made of the items of a list
pub made_of : {X Y Z E : Type 0} (M : Z → List Y → Type 0) (see : List X → List Y) (items xs : List X) (r : Result (Option Z) E) (z : Z)
    → items ≡ xs → IfOk r (IsParsed M (see items)) → r ≡ Ok (Some z) → M z (see xs)
made_of M see items xs r z same made is = subst (λ ys. M z (see ys)) same (subst (λ o. IfOk o (IsParsed M (see items))) is made)

pub count_begins : (text inside rest : List ℕ) (p : Element × ℕ) → text ≡ 91 ∷ inside → BeginsItems true IsCounted (44 ∷ inside) p rest
    → BeginsAs IsCountForm text p rest
count_begins text inside rest p e b =
    let first = not_later IsCounted inside rest p b in
    (array first.0, e ∙ ap (λ l. 91 ∷ l) first.1, (first.0, refl, first.2))

pub set_begins : (text inside left rest : List ℕ) (s : set.ElementSet) → text ≡ codes "{\"set\":" ++ inside
    → BeginsAs IsSetForm inside s left → left ≡ 125 ∷ rest → BeginsAs IsValueForm text (values.Set s) rest
set_begins text inside left rest s e b k =
    (one_of (codes "set") b.0, one_begins IsSetForm (codes "set") _ text inside left rest s set_key e b k, (b.0, refl, b.2))

pub bag_begins : (text inside left rest : List ℕ) (s : bag.ElementBag) → text ≡ codes "{\"bag\":" ++ inside
    → BeginsAs IsBagForm inside s left → left ≡ 125 ∷ rest → BeginsAs IsValueForm text (values.Bag s) rest
bag_begins text inside left rest s e b k =
    (one_of (codes "bag") b.0, one_begins IsBagForm (codes "bag") _ text inside left rest s bag_key e b k, (b.0, refl, b.2))

-- ---- states

pub state_pair_begins : (text inside left second end rest : List ℕ) (p : Place) (v : Value) → text ≡ 91 ∷ inside
    → BeginsAs IsLocationForm inside p left → left ≡ 44 ∷ second → BeginsAs IsValueForm second v end → end ≡ 93 ∷ rest
    → BeginsAs IsPairForm text (p, v) rest
state_pair_begins text inside left second end rest p v e b comma k bracket =
    (pair_of b.0 k.0, pair_begins text inside left second end rest b.0 k.0 e b.1 comma k.1 bracket, (b.0, k.0, refl, b.2, k.2))

-- ---- calls

pub named_begins : (text inside left second end rest : List ℕ) (p : Place) (n : ℕ) → text ≡ 91 ∷ inside
    → BeginsAs IsLocationForm inside p left → left ≡ 44 ∷ second → BeginsAs IsNumberForm second n end → end ≡ 93 ∷ rest
    → BeginsAs IsNamedForm text (record { at = p; number = n }) rest
named_begins text inside left second end rest p n e b comma k bracket =
    (pair_of b.0 k.0, pair_begins text inside left second end rest b.0 k.0 e b.1 comma k.1 bracket, (b.0, k.0, refl, b.2, k.2))

pub read_begins : (text inside left rest : List ℕ) (places : List Place) → text ≡ codes "{\"read\":" ++ inside
    → BeginsAs (IsListForm IsLocationForm) inside places left → left ≡ 125 ∷ rest → BeginsAs IsCallForm text (call.Read places) rest
read_begins text inside left rest places e b k = (
  one_of (codes "read") b.0,
  one_begins (IsListForm IsLocationForm) (codes "read") _ text inside left rest places read_key e b k,
  (b.0, refl, b.2),
)

pub fire_begins : (text inside left second end rest : List ℕ) (M : Move) (reads : List Named) → text ≡ codes "{\"fire\":" ++ inside
    → BeginsAs IsMoveForm inside M left → left ≡ codes ",\"reads\":" ++ second → BeginsAs (IsListForm IsNamedForm) second reads end
    → end ≡ 125 ∷ rest → BeginsAs IsCallForm text (call.Fire reads M) rest
fire_begins text inside left second end rest M reads e b h k bracket = (
  two_of (codes "fire") b.0 (codes "reads") k.0,
  object_begins (codes "fire") _ text inside left rest b.0 (member (codes "reads") k.0 no_members) fire_key e b.1
      (member_begins (codes "reads") _ left second end rest k.0 no_members reads_key h k.1 bracket),
  (b.0, k.0, refl, b.2, k.2),
)

-- ---- answers

pub clash_begins : (text inside left second end rest : List ℕ) (p : Place) (c : Cause) → text ≡ 91 ∷ inside
    → BeginsAs IsLocationForm inside p left → left ≡ 44 ∷ second → BeginsAs IsCauseForm second c end → end ≡ 93 ∷ rest
    → BeginsAs IsClashForm text (record { at = p; cause = c }) rest
clash_begins text inside left second end rest p c e b comma k bracket =
    (pair_of b.0 k.0, pair_begins text inside left second end rest b.0 k.0 e b.1 comma k.1 bracket, (b.0, k.0, refl, b.2, k.2))

pub fired_begins : (text inside left rest : List ℕ) (n : ℕ) → text ≡ codes "{\"fired\":" ++ inside → BeginsAs IsNumberForm inside n left
    → left ≡ 125 ∷ rest → BeginsAs IsReplyForm text (reply.Fired n) rest
fired_begins text inside left rest n e b k =
    (one_of (codes "fired") b.0, one_begins IsNumberForm (codes "fired") _ text inside left rest n fired_key e b k, (b.0, refl, b.2))

pub stale_begins : (text inside left rest : List ℕ) (p : Place) → text ≡ codes "{\"stale\":" ++ inside → BeginsAs IsLocationForm inside p left
    → left ≡ 125 ∷ rest → BeginsAs IsReplyForm text (reply.Stale p) rest
stale_begins text inside left rest p e b k =
    (one_of (codes "stale") b.0, one_begins IsLocationForm (codes "stale") _ text inside left rest p stale_key e b k, (b.0, refl, b.2))

pub clashed_begins : (text inside left rest : List ℕ) (c : Clash) → text ≡ codes "{\"clash\":" ++ inside → BeginsAs IsClashForm inside c left
    → left ≡ 125 ∷ rest → BeginsAs IsReplyForm text (reply.Clash c) rest
clashed_begins text inside left rest c e b k =
    (one_of (codes "clash") b.0, one_begins IsClashForm (codes "clash") _ text inside left rest c clash_key e b k, (b.0, refl, b.2))

pub full_begins : (text rest : List ℕ) → text ≡ codes "\"full\"" ++ rest → BeginsAs IsReplyForm text reply.Full rest
unfolding escape_byte
full_begins text rest e = (string (codes "full"), e, refl)

pub values_begin : (text inside left second end rest : List ℕ) (n : ℕ) (vs : List Value) → text ≡ codes "{\"number\":" ++ inside
    → BeginsAs IsNumberForm inside n left → left ≡ codes ",\"values\":" ++ second → BeginsAs (IsListForm IsValueForm) second vs end
    → end ≡ 125 ∷ rest → BeginsAs IsAnswerForm text (answer.Read n vs) rest
values_begin text inside left second end rest n vs e b h k bracket = (
  two_of (codes "number") b.0 (codes "values") k.0,
  object_begins (codes "number") _ text inside left rest b.0 (member (codes "values") k.0 no_members) number_key e b.1
      (member_begins (codes "values") _ left second end rest k.0 no_members values_key h k.1 bracket),
  (b.0, k.0, refl, b.2, k.2),
)

-- ---- headers

pub header_begins : (text first second third fourth a c n i rest : List ℕ) (agents capacity events : ℕ) (init : State)
    → text ≡ codes "{\"agents\":" ++ first → BeginsAs IsNumberForm first agents a
    → a ≡ codes ",\"capacity\":" ++ second → BeginsAs IsNumberForm second capacity c
    → c ≡ codes ",\"events\":" ++ third → BeginsAs IsNumberForm third events n
    → n ≡ codes ",\"init\":" ++ fourth → BeginsAs IsStateForm fourth init i
    → i ≡ codes ",\"version\":2}\n" ++ rest
    → (d e f g : Data) × (text ≡ compact_text (header_with d e f g (number_json_of 2)) ++ 10 ∷ rest)
    × IsNumberForm agents d × IsNumberForm capacity e × IsNumberForm events f × IsStateForm init g
header_begins text first second third fourth a c n i rest agents capacity events init e1 b1 e2 b2 e3 b3 e4 b4 e5 =
    let two = member (codes "version") (number_json_of 2) no_members in
    let inits = member (codes "init") b4.0 two in
    let counts = member (codes "events") b3.0 inits in (
      b1.0,
      b2.0,
      b3.0,
      b4.0,
      object_begins (codes "agents") _ text first a (10 ∷ rest) b1.0 (member (codes "capacity") b2.0 counts) agents_key e1 b1.1
          (member_begins (codes "capacity") _ a second c (10 ∷ rest) b2.0 counts capacity_key e2 b2.1
          (member_begins (codes "events") _ c third n (10 ∷ rest) b3.0 inits events_key e3 b3.1
          (member_begins (codes "init") _ n fourth i (10 ∷ rest) b4.0 two init_key e4 b4.1 (e5 ∙ version_end rest)))),
      b1.2,
      b2.2,
      b3.2,
      b4.2,
    )

-- ---- events

pub event_begins : (text inside left second next third end rest : List ℕ) (n : ℕ) (c : Call) (a : Answer)
    → text ≡ codes "{\"agent\":" ++ inside → BeginsAs IsNumberForm inside n left → left ≡ codes ",\"call\":" ++ second
    → BeginsAs IsCallForm second c next → next ≡ codes ",\"reply\":" ++ third → BeginsAs IsAnswerForm third a end → end ≡ 125 ∷ rest
    → BeginsAs IsEventForm text (record { agent = n; call = c; answer = a }) rest
event_begins text inside left second next third end rest n c a e b h k i m bracket = (
  event_object b.0 k.0 m.0,
  object_begins (codes "agent") _ text inside left rest b.0 (member (codes "call") k.0 (member (codes "reply") m.0 no_members)) agent_key e b.1
      (member_begins (codes "call") _ left second next rest k.0 (member (codes "reply") m.0 no_members) call_key h k.1
      (member_begins (codes "reply") _ next third end rest m.0 no_members reply_key i m.1 bracket)),
  (b.0, k.0, m.0, refl, b.2, k.2, m.2),
)

pub counted_begins : (text left second end rest : List ℕ) (x : Element) (n amount : ℕ) → BeginsAs IsElementForm text x left
    → left ≡ 44 ∷ second → BeginsAs IsNumberForm second n end → end ≡ 93 ∷ rest → 1 ≤ amount → amount ≡ n
    → BeginsItems true IsCounted (44 ∷ text) (x, amount) rest
counted_begins text left second end rest x n amount b comma k bracket some is =
    let e = compact_text b.0 in
    let m = compact_text k.0 in
    let below : amount < 2 ^ 32 = subst (λ i. i < 2 ^ 32) (sym is) k.2.0 in (
      items_of (b.0 ∷ k.0 ∷ []),
      ap (λ l. 44 ∷ l) (b.1 ∙ ap (λ l. e ++ l) (comma ∙ ap (λ l. 44 ∷ l) (k.1 ∙ ap (λ l. m ++ l) bracket)))
          ∙ ap (λ l. 44 ∷ l) (sym (append_assoc e (44 ∷ (m ++ 93 ∷ [])) rest ∙ ap (λ l. e ++ 44 ∷ l) (append_assoc m (93 ∷ []) rest))),
      (b.0, k.0, refl, b.2, ((some, below), subst (λ i. k.0 ≡ number_json_of i) (sym is) k.2.1)),
    )

pub instruction_begins : (text inside left place end operands rest word : List ℕ) (p : Place) (a : Action) → text ≡ 91 ∷ inside
    → inside ≡ quoted word ++ left → left ≡ 44 ∷ place → BeginsAs IsLocationForm place p end → end ≡ 44 ∷ operands
    → BeginsItems true (IsActionForm word) (44 ∷ operands) a rest
    → BeginsAs IsInstructionForm text (record { at = p; action = a }) rest
instruction_begins text inside left place end operands rest word p a e h comma at further b =
    let l = compact_text at.0 in (
      instruction_of word at.0 b.0,
      named_array text inside left rest word (item at.0 b.0) e h
          (comma ∙ ap (λ t. 44 ∷ t) (at.1 ∙ ap (λ t. l ++ t) (further ∙ b.1) ∙ sym (append_assoc l (items_text true b.0) rest))),
      (word, at.0, b.0, refl, at.2, b.2),
    )

pub some_amount : (n amount : ℕ) → (n ≡ 0 → true ≡ false) → amount ≡ n → 1 ≤ amount
some_amount n amount none is =
    let some : n ≡ 0 → ⊥ = λ e. true≢false (none e) in
    omega (arith, some, is)

pub whole_text : {X : Type 0} (F : X → Data → Type 0) (n : ℕ) → ((x : X) (d : Data) → F x d → IsCleanTo n d) → n ≤ max_depth
    → (bytes : List ℕ) (x : X) (rest : List ℕ) → BeginsAs F bytes x rest → rest ≡ [] → (d : Data) × IsJson bytes d × F x d
whole_text F n clean below bytes x rest b none =
    let same : bytes ≡ compact_text b.0 = b.1 ∙ ap (λ l. compact_text b.0 ++ l) none ∙ append-nil (compact_text b.0) in
    let shallow = deeper n max_depth b.0 below (clean x b.0 b.2) in
    (b.0, subst (λ l. IsJson l b.0) (sym same) (IsJson-compact_text b.0 shallow.clean shallow.shallow), b.2)

pub no_rest : (rest : List ℕ) → true ≡ (length rest == 0) → rest ≡ []
no_rest [] e = refl
no_rest (x ∷ rest) e = let none : length (x ∷ rest) ≡ 0 = eqb-true _ 0 (sym e) in absurd (omega (arith, none))

flat : (n : ℕ) (d : Data) → IsNumberForm n d → IsCleanTo 21 d
flat n d h = deeper 0 21 d (omega arith) (number_form_clean n d h)

-- a first line of version 2 in compact text
pub compact_header_line : (text first second third fourth a c n i rest : List ℕ) (agents capacity events : ℕ) (init : State)
    → text ≡ codes "{\"agents\":" ++ first → BeginsAs IsNumberForm first agents a
    → a ≡ codes ",\"capacity\":" ++ second → BeginsAs IsNumberForm second capacity c
    → c ≡ codes ",\"events\":" ++ third → BeginsAs IsNumberForm third events n
    → n ≡ codes ",\"init\":" ++ fourth → BeginsAs IsStateForm fourth init i
    → i ≡ codes ",\"version\":2}\n" ++ rest
    → IsVersion 2 × (agents ≤ agents_limit) × (1 ≤ capacity) × (capacity ≤ capacity_limit)
    → (d : Data) × HasLine text d rest × IsHeader 2 agents capacity events init d
compact_header_line text first second third fourth a c n i rest agents capacity events init e1 b1 e2 b2 e3 b3 e4 b4 e5 within =
    let h = header_begins text first second third fourth a c n i rest agents capacity events init e1 b1 e2 b2 e3 b3 e4 b4 e5 in
    let d = header_with h.0 h.1 h.2 h.3 (number_json_of 2) in
    let clean : IsCleanTo 22 d =
    object_clean 21 _ (more_members 21 _ _ _ refl (flat agents h.0 h.5)
    (more_members 21 _ _ _ refl (flat capacity h.1 h.6)
    (more_members 21 _ _ _ refl (flat events h.2 h.7)
    (more_members 21 _ _ _ refl (state_form_clean init h.3 h.8)
    (more_members 21 _ _ _ refl (flat 2 _ (omega arith, refl)) (no_member 21)))))) refl in
    let shallow = deeper 22 max_depth d (omega arith) clean in (
      d,
      (compact_text d, (h.4, HasNoLineFeed-compact_text d shallow.clean), IsJson-compact_text d shallow.clean shallow.shallow),
      (
        h.0,
        h.1,
        h.2,
        h.3,
        number_json_of 2,
        refl,
        (h.5.1, h.6.1, h.7.1, refl, within.0, (within.1, within.2, within.3, omega (arith, h.7.0))),
        h.8,
        λ one. absurd (omega (arith, one)),
      ),
    )

-- a line of version 2 that begins with the compact text of an event
pub compact_line : (text left rest : List ℕ) (v agents : ℕ) (e : Event) → BeginsAs IsEventForm text e left → left ≡ 10 ∷ rest → v ≡ 2
    → EventFits agents e → (d : Data) × HasLine text d rest × IsEventBelow v agents e d
compact_line text left rest v agents e b k two fits =
    let c = compact_text b.0 in
    let clean = deeper 23 max_depth b.0 (omega arith) (event_form_clean e b.0 b.2) in (
      b.0,
      (
        c,
        (b.1 ∙ ap (λ l. c ++ l) k, HasNoLineFeed-compact_text b.0 clean.clean),
        IsJson-compact_text b.0 clean.clean clean.shallow,
      ),
      (b.2, fits, λ one. absurd (omega (arith, one, two))),
    )
