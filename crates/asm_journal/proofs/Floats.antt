-- No float is written.
use Rattle.std.proofs.Common.{◌≡◌, ℕ, ℤ, pos, negsuc, List, [], ◌∷◌, false, map, refl}
use Rattle.serde_json.specs.Data.{Data, number}
use Rattle.serde_json.specs.View.{items_of}
use Rattle.serde_json.specs.Written.{has_float, items_have_float}
use Rattle.serde_json.specs.Find.{of_integer}
use Rattle.std.specs.FinMap as finite
use Rattle.asm_element.specs.Datum as datum
use Rattle.asm_element.specs.Datum.{Datum, Sequence}
use Rattle.asm_element.specs.View.{datum as datum_of}
use Rattle.asm_element.specs.declared.element.Element.{Element}
use Rattle.asm_element.specs.declared.value.Value.{Value}
use Rattle.asm_element.specs.declared.value.Value.TheVariants as values
use Rattle.asm_element.specs.Place.{Place}
use Rattle.asm_element.specs.Set as set
use Rattle.asm_element.specs.Bag as bag
use Rattle.asm_update.specs.Move.{Move}
use Rattle.asm_update.specs.State.{State}
use Rattle.asm_update.specs.declared.action.Action.{Action}
use Rattle.asm_update.specs.declared.action.Action.TheVariants.{Regular, SetAdd, SetRemove, BagAdd, BagRemove, Increment}
use Rattle.asm_update.specs.declared.action.Instruction.{Instruction}
use Rattle.asm_state.specs.declared.named.Named.{Named}
use Rattle.asm_storage.specs.declared.call.Call.{Call}
use Rattle.asm_storage.specs.declared.call.Call.TheVariants as call
use Rattle.asm_storage.specs.declared.call.Reply.{Reply}
use Rattle.asm_storage.specs.declared.call.Reply.TheVariants as reply
use Rattle.asm_storage.specs.declared.call.Answer.{Answer}
use Rattle.asm_storage.specs.declared.call.Answer.TheVariants as answer
use Rattle.asm_storage.specs.declared.history.Event.{Event}
use Rattle.asm_journal.specs.Element.{datum_json_of, items_json_of, element_json_of, location_json_of}
use Rattle.asm_journal.specs.Set.{count_json_of}
use Rattle.asm_journal.specs.Value.{value_json_of, pair_json_of}
use Rattle.asm_journal.specs.Instruction.{instruction_json_of}
use Rattle.asm_journal.specs.Event.{named_json_of, move_json_of, call_json_of, reply_json_of, answer_json_of, event_json_of}
use Rattle.asm_journal.specs.Text.{state_json_of, header_of}

-- a list of values without floats has none
pub list_no_float : {X : Type 0} (f : X → Data) → ((x : X) → has_float (f x) ≡ false) → (xs : List X) → items_have_float (items_of (map f xs)) ≡ false
list_no_float f none [] = refl
list_no_float f none (x ∷ xs) = rw (none x) (list_no_float f none xs)

integer_no_float : (z : ℤ) → has_float (number (of_integer z)) ≡ false
integer_no_float (pos n) = refl
integer_no_float (negsuc n) = refl

mutual
  datum_no_float : (d : Datum) → has_float (datum_json_of d) ≡ false
  datum_no_float datum.undef = refl
  datum_no_float (datum.truth b) = refl
  datum_no_float (datum.number z) = integer_no_float z
  datum_no_float (datum.text s) = refl
  datum_no_float (datum.list ds) = rw (items_no_float ds) refl

  items_no_float : (ds : Sequence) → items_have_float (items_json_of ds) ≡ false
  items_no_float datum.nothing = refl
  items_no_float (datum.item d ds) = rw (datum_no_float d) (items_no_float ds)

pub element_no_float : (x : Element) → has_float (element_json_of x) ≡ false
element_no_float x = datum_no_float (datum_of x)

pub count_no_float : (p : Element × ℕ) → has_float (count_json_of p) ≡ false
count_no_float p = rw (element_no_float p.0) refl

pub location_no_float : (p : Place) → has_float (location_json_of p) ≡ false
location_no_float p = list_no_float element_json_of element_no_float p.args

pub value_no_float : (v : Value) → has_float (value_json_of v) ≡ false
value_no_float (values.Plain x) = element_no_float x
value_no_float (values.Set s) = rw (list_no_float element_json_of element_no_float (set.elements s)) refl
value_no_float (values.Bag b) = rw (list_no_float count_json_of count_no_float (bag.entries b)) refl

pub pair_no_float : (e : Place × Value) → has_float (pair_json_of e) ≡ false
pair_no_float e = rw (location_no_float e.0, value_no_float e.1) refl

pub instruction_no_float : (i : Instruction) → has_float (instruction_json_of i) ≡ false
instruction_no_float i = by_action i.action where
  by_action : (a : Action) → has_float (instruction_json_of (record { at = i.at; action = a })) ≡ false
  by_action (Regular v) = rw (location_no_float i.at, value_no_float v) refl
  by_action (SetAdd e) = rw (location_no_float i.at, element_no_float e) refl
  by_action (SetRemove e) = rw (location_no_float i.at, element_no_float e) refl
  by_action (BagAdd e n) = rw (location_no_float i.at, element_no_float e) refl
  by_action (BagRemove e n) = rw (location_no_float i.at, element_no_float e) refl
  by_action (Increment n) = rw (location_no_float i.at, integer_no_float n) refl

pub move_no_float : (M : Move) → has_float (move_json_of M) ≡ false
move_no_float M = list_no_float instruction_json_of instruction_no_float M

pub named_no_float : (r : Named) → has_float (named_json_of r) ≡ false
named_no_float r = rw (location_no_float r.at) refl

pub call_no_float : (c : Call) → has_float (call_json_of c) ≡ false
call_no_float (call.Read ps) = rw (list_no_float location_json_of location_no_float ps) refl
call_no_float (call.Fire rs M) = rw (list_no_float instruction_json_of instruction_no_float M, list_no_float named_json_of named_no_float rs) refl

reply_no_float : (r : Reply) → has_float (reply_json_of r) ≡ false
reply_no_float (reply.Fired n) = refl
reply_no_float (reply.Stale l) = rw (location_no_float l) refl
reply_no_float (reply.Clash c) = rw (location_no_float c.at) refl
reply_no_float reply.Full = refl

pub answer_no_float : (a : Answer) → has_float (answer_json_of a) ≡ false
answer_no_float (answer.Read n vs) = rw (list_no_float value_json_of value_no_float vs) refl
answer_no_float (answer.Fire r) = reply_no_float r

pub event_no_float : (e : Event) → has_float (event_json_of e) ≡ false
event_no_float e = rw (call_no_float e.call, answer_no_float e.answer) refl

pub state_no_float : (A : State) → has_float (state_json_of A) ≡ false
state_no_float A = rw (list_no_float pair_json_of pair_no_float (finite.entries A)) refl

pub header_no_float : (agents capacity events : ℕ) (init : State) →
    has_float (header_of agents capacity events (state_json_of init)) ≡ false
header_no_float agents capacity events init = rw (list_no_float pair_json_of pair_no_float (finite.entries init)) refl
