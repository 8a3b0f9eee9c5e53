-- What is written is clean, nests less deep than JSON may, and is the form of what was written, so the text of a history reads
-- as that history.
use Rattle.std.proofs.Common.{◌≡◌, ◌<◌, ◌≤◌, ◌^◌, ℕ, List, [], ◌∷◌, true, refl, arith, map, ◌++◌, length, append_assoc, inr}
use Rattle.std.specs.FinMap as finite
use Rattle.std.proofs.lemmas.List.Elements.{recursion_from_All}
use Rattle.json.proofs.Printed.Utf8.{are_ascii}
use Rattle.serde_json.specs.Data.{Data, string, Items}
use Rattle.serde_json.specs.View.{items_of}
use Rattle.asm_element.specs.Element as element
use Rattle.asm_element.specs.Place as place
use Rattle.asm_element.specs.Place.{Place, is_name, is_name_start, is_name_byte}
use Rattle.asm_element.specs.Value as value
use Rattle.asm_element.specs.Set as set
use Rattle.asm_element.specs.Bag as bag
use Rattle.asm_element.specs.declared.element.Element.{Element}
use Rattle.asm_element.specs.declared.value.Value.{Value}
use Rattle.asm_element.specs.declared.value.Value.TheVariants as values
use Rattle.asm_update.specs.Action.{IsProper as IsProperAction, IsProperInstruction}
use Rattle.asm_update.specs.State as state
use Rattle.asm_update.specs.State.{State}
use Rattle.asm_update.specs.declared.action.Action.{Action}
use Rattle.asm_update.specs.declared.action.Action.TheVariants.{Regular, SetAdd, SetRemove, BagAdd, BagRemove, Increment}
use Rattle.asm_update.specs.declared.action.Instruction.{Instruction}
use Rattle.asm_update.specs.declared.clash.Cause.{Cause}
use Rattle.asm_update.specs.declared.clash.Cause.TheVariants as cause
use Rattle.asm_state.specs.declared.named.Named.{Named}
use Rattle.asm_storage.specs.declared.call.Call.{Call}
use Rattle.asm_storage.specs.declared.call.Call.TheVariants as call
use Rattle.asm_storage.specs.declared.call.Reply.{Reply}
use Rattle.asm_storage.specs.declared.call.Reply.TheVariants as reply
use Rattle.asm_storage.specs.declared.call.Answer.{Answer}
use Rattle.asm_storage.specs.declared.call.Answer.TheVariants as answer
use Rattle.asm_storage.specs.declared.history.Event.{Event}
use Rattle.asm_journal.specs.Shape.{number_json_of, IsListForm, list_of, IsOfVersion}
use Rattle.asm_journal.specs.Element.{element_json_of, location_json_of, IsElementForm, IsLocationForm}
use Rattle.asm_journal.specs.Set.{count_json_of, IsCounted, IsCountForm}
use Rattle.asm_journal.specs.Value.{value_json_of, pair_json_of, IsValueForm, IsPairForm, IsStateForm}
use Rattle.asm_journal.specs.Instruction.{word_of, operands_of, instruction_of, instruction_json_of, AreOperands, IsInstructionForm}
use Rattle.asm_journal.specs.Event.{named_json_of, call_json_of, word_of_cause, reply_json_of, answer_json_of, event_json_of, IsNamedForm, IsCallForm, IsReplyForm, IsAnswerForm, IsEventForm}
use Rattle.asm_journal.specs.Text.{state_json_of, header_of, line, header_json_of, events_text, text_of}
use Rattle.asm_row.specs.Limits.{capacity_limit}
use Rattle.asm_storage.specs.Limits.{agents_limit, events_limit}
use Rattle.asm_storage.specs.Proper.{IsProperNamed, IsProperCall, IsProperReply, IsProperAnswer, IsProperEvent, IsProper}
use Rattle.asm_journal.specs.readback.{AreItemsCleanTo, no_item, more_items, array_clean, all_clean, pair_clean, no_member, more_members, object_clean, one_clean, small_clean, word_clean, integer_clean, element_clean, elements_clean, location_clean, two_clean}
use Rattle.asm_journal.proofs.EntriesKept.{pairs_kept, set_kept, bag_kept, state_kept}
use Rattle.std.specs.Prelude.{All}
use Rattle.std.specs.List.{AllByRecursion}
use Rattle.asm_journal.proofs.Arrays.{forms_back}
use Rattle.serde_json.specs.Read.{max_depth}
use Rattle.serde_json.specs.Written.{compact_text}
use Rattle.asm_storage.specs.History.{EventFits, Fits}
use Rattle.asm_storage.specs.declared.history.History.{History}
use Rattle.asm_journal.specs.Reading.{HasLine, HasEvents, ReadsAs}
use Rattle.asm_journal.proofs.Clean.{HasNoLineFeed-compact_text, IsJson-compact_text}
pub use Rattle.asm_journal.specs.readback.{IsCleanTo, deeper}

count_clean : (p : Element × ℕ) → element.IsProper p.0 × bag.IsCount p.1 → IsCleanTo 17 (count_json_of p)
count_clean p h = pair_clean 16 _ _ (element_clean p.0 h.0) (deeper 0 16 _ (omega arith) (small_clean p.1 h.1.1))

pub value_clean : (v : Value) → value.IsProper v → IsCleanTo 19 (value_json_of v)
value_clean (values.Plain x) h = deeper 16 19 _ (omega arith) (element_clean x h)
value_clean (values.Set s) h =
    deeper 18 19 _ (omega arith) (one_clean 17 _ _ refl (array_clean 16 _ (elements_clean (set.elements s) h)))
value_clean (values.Bag b) h =
    one_clean 18 _ _ refl (all_clean 17 count_json_of count_clean (bag.entries b)
    (pairs_kept element.IsProper bag.IsCount (bag.entries b) h.0 h.1))

pub pair_json_clean : (p : Place × Value) → place.IsProper p.0 × value.IsProper p.1 → IsCleanTo 20 (pair_json_of p)
pair_json_clean p h = pair_clean 19 _ _ (deeper 17 19 _ (omega arith) (location_clean p.0 h.0)) (value_clean p.1 h.1)

-- ---- calls

operand_clean : (w : List ℕ) (p : Place) (ds : Items) → are_ascii w ≡ true → place.IsProper p → AreItemsCleanTo 19 ds
    → IsCleanTo 20 (instruction_of w (location_json_of p) ds)
operand_clean w p ds plain h gs =
    array_clean 19 _ (more_items 19 _ _ (deeper 0 19 _ (omega arith) (word_clean w plain))
    (more_items 19 _ _ (deeper 17 19 _ (omega arith) (location_clean p h)) gs))

only_clean : (d : Data) → IsCleanTo 19 d → AreItemsCleanTo 19 (items_of (d ∷ []))
only_clean d g = more_items 19 d _ g (no_item 19)

counted_clean : (x : Element) (n : ℕ) → element.IsProper x → n < 2 ^ 32
    → AreItemsCleanTo 19 (items_of (element_json_of x ∷ number_json_of n ∷ []))
counted_clean x n h k =
    more_items 19 _ _ (deeper 16 19 _ (omega arith) (element_clean x h))
    (more_items 19 _ _ (deeper 0 19 _ (omega arith) (small_clean n k)) (no_item 19))

action_clean : (p : Place) (a : Action) → place.IsProper p → IsProperAction a
    → IsCleanTo 20 (instruction_of (word_of a) (location_json_of p) (items_of (operands_of a)))
action_clean p (Regular v) h k = operand_clean _ p _ refl h (only_clean _ (value_clean v k))
action_clean p (SetAdd e) h k = operand_clean _ p _ refl h (only_clean _ (deeper 16 19 _ (omega arith) (element_clean e k)))
action_clean p (SetRemove e) h k =
    operand_clean _ p _ refl h (only_clean _ (deeper 16 19 _ (omega arith) (element_clean e k)))
action_clean p (BagAdd e n) h k = operand_clean _ p _ refl h (counted_clean e n k.0 k.2)
action_clean p (BagRemove e n) h k = operand_clean _ p _ refl h (counted_clean e n k.0 k.2)
action_clean p (Increment n) h k = operand_clean _ p _ refl h (only_clean _ (deeper 0 19 _ (omega arith) (integer_clean n k)))

instruction_clean : (i : Instruction) → IsProperInstruction i → IsCleanTo 20 (instruction_json_of i)
instruction_clean i h = action_clean i.at i.action h.0 h.1

named_clean : (r : Named) → IsProperNamed r → IsCleanTo 18 (named_json_of r)
named_clean r h = pair_clean 17 _ _ (location_clean r.at h.0) (deeper 0 17 _ (omega arith) (small_clean r.number h.1))

call_clean : (c : Call) → IsProperCall c → IsCleanTo 22 (call_json_of c)
call_clean (call.Read places) h =
    deeper 19 22 _ (omega arith)
    (one_clean 18 _ _ refl
    (all_clean 17 location_json_of location_clean places (recursion_from_All place.IsProper places h)))
call_clean (call.Fire reads instrs) h =
    two_clean 21 _ _ _ _ refl refl refl
    (all_clean 20 instruction_json_of instruction_clean instrs (recursion_from_All IsProperInstruction instrs h.1.0))
    (deeper 19 21 _ (omega arith)
    (all_clean 18 named_json_of named_clean reads (recursion_from_All IsProperNamed reads h.0)))

-- ---- answers

cause_clean : (c : Cause) → IsCleanTo 0 (string (word_of_cause c))
cause_clean cause.Two = word_clean _ refl
cause_clean cause.Mixed = word_clean _ refl
cause_clean cause.Kind = word_clean _ refl
cause_clean cause.Both = word_clean _ refl
cause_clean cause.Against = word_clean _ refl
cause_clean cause.Short = word_clean _ refl
cause_clean cause.Large = word_clean _ refl

reply_clean : (r : Reply) → IsProperReply r → IsCleanTo 21 (reply_json_of r)
reply_clean (reply.Fired k) h = deeper 1 21 _ (omega arith) (one_clean 0 _ _ refl (small_clean k h))
reply_clean (reply.Stale l) h = deeper 18 21 _ (omega arith) (one_clean 17 _ _ refl (location_clean l h))
reply_clean (reply.Clash c) h =
    deeper 19 21 _ (omega arith)
    (one_clean 18 _ _ refl (pair_clean 17 _ _ (location_clean c.at h) (deeper 0 17 _ (omega arith) (cause_clean c.cause))))
reply_clean reply.Full h = deeper 0 21 _ (omega arith) (word_clean _ refl)

answer_clean : (a : Answer) → IsProperAnswer a → IsCleanTo 21 (answer_json_of a)
answer_clean (answer.Read n vs) h =
    two_clean 20 _ _ _ _ refl refl refl (deeper 0 20 _ (omega arith) (small_clean n h.0))
    (all_clean 19 value_json_of value_clean vs (recursion_from_All value.IsProper vs h.1))
answer_clean (answer.Fire r) h = reply_clean r h

-- ---- events and the header

pub event_clean : (e : Event) → e.agent < 2 ^ 32 → IsProperEvent e → IsCleanTo 23 (event_json_of e)
event_clean e few h =
    object_clean 22 _ (more_members 22 _ _ _ refl (deeper 0 22 _ (omega arith) (small_clean e.agent few))
    (more_members 22 _ _ _ refl (call_clean e.call h.0)
    (more_members 22 _ _ _ refl (deeper 21 22 _ (omega arith) (answer_clean e.answer h.1)) (no_member 22)))) refl

state_clean : (A : State) → state.IsProper A → IsCleanTo 21 (state_json_of A)
state_clean A h =
    all_clean 20 pair_json_of pair_json_clean (finite.entries A)
    (pairs_kept place.IsProper value.IsProper (finite.entries A) h.locations h.values)

flat : (n : ℕ) → n < 2 ^ 32 → IsCleanTo 21 (number_json_of n)
flat n h = deeper 0 21 _ (omega arith) (small_clean n h)

pub header_clean : (agents capacity events : ℕ) (A : State) → agents ≤ agents_limit → capacity ≤ capacity_limit → events ≤ events_limit
    → state.IsProper A → IsCleanTo 22 (header_of agents capacity events (state_json_of A))
header_clean a c n A ha hc hn h =
    object_clean 21 _ (more_members 21 _ _ _ refl (flat a (omega (arith, ha)))
    (more_members 21 _ _ _ refl (flat c (omega (arith, hc)))
    (more_members 21 _ _ _ refl (flat n (omega (arith, hn)))
    (more_members 21 _ _ _ refl (state_clean A h)
    (more_members 21 _ _ _ refl (flat 2 (omega arith)) (no_member 21)))))) refl

list_back : {X : Type 0} {P : X → Type 0} (F : X → Data → Type 0) (f : X → Data) → ((x : X) → P x → F x (f x))
    → (xs : List X) → AllByRecursion P xs → IsListForm F xs (list_of (map f xs))
list_back F f back xs h = (items_of (map f xs), refl, forms_back F f back xs h)

all_back : {X : Type 0} (P : X → Type 0) (F : X → Data → Type 0) (f : X → Data) → ((x : X) → P x → F x (f x))
    → (xs : List X) → All P xs → IsListForm F xs (list_of (map f xs))
all_back P F f back xs h = list_back F f back xs (recursion_from_All P xs h)

-- ---- elements, locations and values

element_back : (x : Element) → element.IsProper x → IsElementForm x (element_json_of x)
element_back x h = (h, refl)

location_back : (p : Place) → place.IsProper p → IsLocationForm p (location_json_of p)
location_back p h = (h, refl)

counted_back : (x : Element) (n : ℕ) → element.IsProper x → bag.IsCount n
    → IsCounted (x, n) (items_of (operands_of (BagAdd x n)))
counted_back x n h k = (_, _, refl, (h, refl), (k, refl))

count_back : (p : Element × ℕ) → element.IsProper p.0 × bag.IsCount p.1 → IsCountForm p (count_json_of p)
count_back p h = (_, refl, counted_back p.0 p.1 h.0 h.1)

value_back : (v : Value) → value.IsProper v → IsValueForm v (value_json_of v)
value_back (values.Plain x) h = (h, refl)
value_back (values.Set s) h =
    let forms = all_back element.IsProper IsElementForm element_json_of element_back (set.elements s) h in
    (_, refl, (set.elements s, forms, set_kept s))
value_back (values.Bag b) h =
    let counts = pairs_kept element.IsProper bag.IsCount (bag.entries b) h.0 h.1 in
    (_, refl, (bag.entries b, list_back IsCountForm count_json_of count_back (bag.entries b) counts, bag_kept b h))

pair_back : (p : Place × Value) → place.IsProper p.0 × value.IsProper p.1 → IsPairForm p (pair_json_of p)
pair_back p h = (_, _, refl, location_back p.0 h.0, value_back p.1 h.1)

pub state_back : (A : State) → state.IsProper A → IsStateForm A (state_json_of A)
state_back A h =
    let pairs = pairs_kept place.IsProper value.IsProper (finite.entries A) h.locations h.values in
    (finite.entries A, list_back IsPairForm pair_json_of pair_back (finite.entries A) pairs, state_kept A h)

-- ---- calls

operands_back : (a : Action) → IsProperAction a → AreOperands a (items_of (operands_of a))
operands_back (Regular v) h = (_, refl, value_back v h)
operands_back (SetAdd e) h = (_, refl, element_back e h)
operands_back (SetRemove e) h = (_, refl, element_back e h)
operands_back (BagAdd e n) h = counted_back e n h.0 (omega (arith, h.1), h.2)
operands_back (BagRemove e n) h = counted_back e n h.0 (omega (arith, h.1), h.2)
operands_back (Increment n) h = (_, refl, (h, refl))

instruction_back : (i : Instruction) → IsProperInstruction i → IsInstructionForm i (instruction_json_of i)
instruction_back i h = (_, _, _, refl, location_back i.at h.0, (refl, operands_back i.action h.1))

named_back : (r : Named) → IsProperNamed r → IsNamedForm r (named_json_of r)
named_back r h = (_, _, refl, location_back r.at h.0, (h.1, refl))

call_back : (c : Call) → IsProperCall c → IsCallForm c (call_json_of c)
call_back (call.Read places) h =
    (_, refl, all_back place.IsProper IsLocationForm location_json_of location_back places h)
call_back (call.Fire reads instrs) h = (
  _,
  _,
  refl,
  (
    instrs,
    all_back IsProperInstruction IsInstructionForm instruction_json_of instruction_back instrs h.1.0,
    (refl, h.1.1),
  ),
  all_back IsProperNamed IsNamedForm named_json_of named_back reads h.0,
)

-- ---- answers and events

reply_back : (r : Reply) → IsProperReply r → IsReplyForm r (reply_json_of r)
reply_back (reply.Fired k) h = (_, refl, (h, refl))
reply_back (reply.Stale l) h = (_, refl, location_back l h)
reply_back (reply.Clash c) h = (_, refl, (_, _, refl, location_back c.at h, refl))
reply_back reply.Full h = refl

answer_back : (a : Answer) → IsProperAnswer a → IsAnswerForm a (answer_json_of a)
answer_back (answer.Read n vs) h =
    (_, _, refl, (h.0, refl), all_back value.IsProper IsValueForm value_json_of value_back vs h.1)
answer_back (answer.Fire r) h = reply_back r h

pub event_back : (e : Event) → e.agent < 2 ^ 32 → IsProperEvent e → IsEventForm e (event_json_of e)
event_back e few h = (_, _, _, refl, (few, refl), call_back e.call h.0, answer_back e.answer h.1)

-- the line of a clean value
line_reads : (d : Data) (rest : List ℕ) → IsCleanTo max_depth d → HasLine (line d ++ rest) d rest
line_reads d rest g = (
  compact_text d,
  (append_assoc (compact_text d) (10 ∷ []) rest, HasNoLineFeed-compact_text d g.clean),
  IsJson-compact_text d g.clean g.shallow,
)

-- version 2 has lists
not_first : (d : Data) → IsOfVersion 2 d
not_first d e = absurd (omega (arith, e))

events_read : (agents : ℕ) (es : List Event) → agents ≤ agents_limit → AllByRecursion (EventFits agents) es
    → AllByRecursion IsProperEvent es → HasEvents 2 agents (events_text es) es []
events_read agents [] few h k = refl
events_read agents (e ∷ es) few h k =
    let small : e.agent < 2 ^ 32 = omega (arith, few, h.0.agent) in (
      event_json_of e,
      events_text es,
      line_reads (event_json_of e) (events_text es) (deeper 23 max_depth _ (omega arith) (event_clean e small k.0)),
      (event_back e small k.0, h.0, not_first (event_json_of e)),
      events_read agents es few h.1 k.1,
    )

pub text_reads : (h : History) → IsProper h → Fits h → ReadsAs (text_of h) h
text_reads h proper fits =
    let clean = header_clean h.agents h.capacity (length h.events) h.init fits.agents fits.capacity fits.few proper.0 in (
      header_json_of h,
      events_text h.events,
      2,
      line_reads (header_json_of h) (events_text h.events)
          (deeper 22 max_depth _ (omega arith) clean),
      (
        _,
        _,
        _,
        _,
        _,
        refl,
        (refl, refl, refl, refl, inr refl, (fits.agents, fits.some, fits.capacity, fits.few)),
        state_back h.init proper.0,
        not_first (header_json_of h),
      ),
      events_read h.agents h.events fits.agents
          (recursion_from_All (EventFits h.agents) h.events fits.events)
          (recursion_from_All IsProperEvent h.events proper.1),
    )
