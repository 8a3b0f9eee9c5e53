-- The JSON of calls, answers and events.
use Rattle.std.specs.Prelude.{◌≡◌, ◌≤◌, ℕ, List, length, map, codes}
use Rattle.serde_json.specs.Data.{Data, string}
use Rattle.asm_update.specs.Limits.{instructions_limit}
use Rattle.asm_update.specs.Move.{Move}
use Rattle.asm_update.specs.declared.action.Instruction.{Instruction}
use Rattle.asm_update.specs.declared.clash.Cause.{Cause}
use Rattle.asm_update.specs.declared.clash.Cause.TheVariants as cause
use Rattle.asm_update.specs.declared.clash.Clash.{Clash}
use Rattle.asm_state.specs.declared.named.Named.{Named}
use Rattle.asm_storage.specs.declared.call.Call.{Call}
use Rattle.asm_storage.specs.declared.call.Call.TheVariants as call
use Rattle.asm_storage.specs.declared.call.Reply.{Reply}
use Rattle.asm_storage.specs.declared.call.Reply.TheVariants as reply
use Rattle.asm_storage.specs.declared.call.Answer.{Answer}
use Rattle.asm_storage.specs.declared.call.Answer.TheVariants as answer
use Rattle.asm_storage.specs.declared.history.Event.{Event}
use Rattle.asm_storage.specs.History.{EventFits}
use Rattle.asm_journal.specs.Shape.{list_of, pair_of, one_of, two_of, three_of, number_json_of, IsListForm, IsMadeForm, IsNumberForm, IsOfVersion}
use Rattle.asm_journal.specs.Element.{location_json_of, IsLocationForm}
use Rattle.asm_journal.specs.Value.{value_json_of, IsValueForm}
use Rattle.asm_journal.specs.Instruction.{instruction_json_of, IsInstructionForm}

-- ---- what is written

-- [LOC,NUMBER]
abbrev pub named_json_of : Named → Data
named_json_of r = pair_of (location_json_of r.at) (number_json_of r.number)

-- [INSTR, ..]
abbrev pub move_json_of : Move → Data
move_json_of M = list_of (map instruction_json_of M)

-- {"read":[LOC, ..]} or {"fire":[INSTR, ..],"reads":[NAMED, ..]}
abbrev pub call_json_of : Call → Data
call_json_of (call.Read locations) = one_of (codes "read") (list_of (map location_json_of locations))
call_json_of (call.Fire reads instrs) =
    two_of (codes "fire") (move_json_of instrs) (codes "reads") (list_of (map named_json_of reads))

-- the word of a cause
abbrev pub word_of_cause : Cause → List ℕ
word_of_cause cause.Two = codes "Two"
word_of_cause cause.Mixed = codes "Mixed"
word_of_cause cause.Kind = codes "Kind"
word_of_cause cause.Both = codes "Both"
word_of_cause cause.Against = codes "Against"
word_of_cause cause.Short = codes "Short"
word_of_cause cause.Large = codes "Large"

-- [LOC,CAUSE]
abbrev pub clash_json_of : Clash → Data
clash_json_of c = pair_of (location_json_of c.at) (string (word_of_cause c.cause))

-- {"fired":NUMBER}, {"stale":LOC}, {"clash":[LOC,CAUSE]} or "full"
abbrev pub reply_json_of : Reply → Data
reply_json_of (reply.Fired k) = one_of (codes "fired") (number_json_of k)
reply_json_of (reply.Stale l) = one_of (codes "stale") (location_json_of l)
reply_json_of (reply.Clash c) = one_of (codes "clash") (clash_json_of c)
reply_json_of reply.Full = string (codes "full")

-- {"number":NUMBER,"values":[VALUE, ..]}, or the reply to a fire
abbrev pub answer_json_of : Answer → Data
answer_json_of (answer.Read number values) =
    two_of (codes "number") (number_json_of number) (codes "values") (list_of (map value_json_of values))
answer_json_of (answer.Fire r) = reply_json_of r

-- {"agent":..,"call":..,"reply":..}
abbrev pub event_object : Data → Data → Data → Data
event_object agent call reply = three_of (codes "agent") agent (codes "call") call (codes "reply") reply

-- {"agent":N,"call":CALL,"reply":REPLY}
abbrev pub event_json_of : Event → Data
event_json_of e = event_object (number_json_of e.agent) (call_json_of e.call) (answer_json_of e.answer)

-- ---- what is read

-- a location and a number
abbrev pub IsNamedForm : Named → Data → Type 0
IsNamedForm r d = (at number : Data) × (d ≡ pair_of at number) × IsLocationForm r.at at × IsNumberForm r.number number

-- these are the instructions of the move, and at most 4,096
abbrev pub IsMoveOf : Move → List Instruction → Type 0
IsMoveOf M list = (M ≡ list) × (length list ≤ instructions_limit)

-- at most 4,096 instructions
abbrev pub IsMoveForm : Move → Data → Type 0
IsMoveForm = IsMadeForm IsInstructionForm IsMoveOf

-- the locations of a read, or the instructions and the declared reads of a fire
abbrev pub IsCallForm : Call → Data → Type 0
IsCallForm (call.Read locations) d =
    (list : Data) × (d ≡ one_of (codes "read") list) × IsListForm IsLocationForm locations list
IsCallForm (call.Fire reads instrs) d =
    (move named : Data) × (d ≡ two_of (codes "fire") move (codes "reads") named)
    × IsMoveForm instrs move × IsListForm IsNamedForm reads named

-- the word of a cause
abbrev pub IsCauseForm : Cause → Data → Type 0
IsCauseForm c d = d ≡ string (word_of_cause c)

-- a location, and the word of a cause
abbrev pub IsClashForm : Clash → Data → Type 0
IsClashForm c d = (at cause : Data) × (d ≡ pair_of at cause) × IsLocationForm c.at at × IsCauseForm c.cause cause

-- the one member of an object, or the word "full"
abbrev pub IsReplyForm : Reply → Data → Type 0
IsReplyForm (reply.Fired k) d = (n : Data) × (d ≡ one_of (codes "fired") n) × IsNumberForm k n
IsReplyForm (reply.Stale l) d = (at : Data) × (d ≡ one_of (codes "stale") at) × IsLocationForm l at
IsReplyForm (reply.Clash c) d = (clash : Data) × (d ≡ one_of (codes "clash") clash) × IsClashForm c clash
IsReplyForm reply.Full d = d ≡ string (codes "full")

-- a number and the values of a read, or the reply to a fire
abbrev pub IsAnswerForm : Answer → Data → Type 0
IsAnswerForm (answer.Read number values) d =
    (n list : Data) × (d ≡ two_of (codes "number") n (codes "values") list)
    × IsNumberForm number n × IsListForm IsValueForm values list
IsAnswerForm (answer.Fire r) d = IsReplyForm r d

-- the number of an agent, the form of a call, and the form of an answer
abbrev pub IsEventForm : Event → Data → Type 0
IsEventForm e d =
    (agent call reply : Data) × (d ≡ event_object agent call reply)
    × IsNumberForm e.agent agent × IsCallForm e.call call × IsAnswerForm e.answer reply

-- an event that a journal of this version and of so many agents can hold
abbrev pub IsEventBelow : ℕ → ℕ → Event → Data → Type 0
IsEventBelow v agents e d = IsEventForm e d × EventFits agents e × IsOfVersion v d
