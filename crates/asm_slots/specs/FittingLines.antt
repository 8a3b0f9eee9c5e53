-- What isn't too long for a line of a journal has a line that an audit reads.
use Rattle.std.specs.Prelude.{◌<◌, ◌≤◌, ℕ, List, length, map}
use Rattle.serde_json.specs.Data.{Data}
use Rattle.serde_json.specs.Written.{compact_text}
use Rattle.asm_element.specs.Place.{Place}
use Rattle.asm_update.specs.Fire.{Old}
use Rattle.asm_update.specs.Move.{Move}
use Rattle.asm_row.specs.Limits.{capacity_limit}
use Rattle.asm_state.specs.declared.named.Named.{Named}
use Rattle.asm_storage.specs.History.{Fits}
use Rattle.asm_storage.specs.Limits.{agents_limit}
use Rattle.asm_storage.specs.Machine.{Machine, reply_to}
use Rattle.asm_storage.specs.declared.call.Answer.{Answer}
use Rattle.asm_storage.specs.declared.call.Answer.TheVariants as answer
use Rattle.asm_storage.specs.declared.call.Call.{Call}
use Rattle.asm_storage.specs.declared.call.Call.TheVariants as call
use Rattle.asm_storage.specs.declared.history.History.{History}
use Rattle.asm_journal.specs.Event.{event_json_of}
use Rattle.asm_journal.specs.Text.{header_json_of}
use Rattle.asm_audit.specs.Limits.{line_limit}
use Rattle.asm_slots.specs.LongLines.{IsLongFire, IsLongRead, IsLongState}

-- an audit reads a line of this JSON: it has no more bytes than the limit
abbrev pub FitsLine : Data → Type 0
FitsLine d = length (compact_text d) ≤ line_limit

-- it reads the line of a call of this agent with this answer
abbrev pub FitsEvent : ℕ → Call → Answer → Type 0
FitsEvent agent c a = FitsLine (event_json_of (record { agent = agent; call = c; answer = a }))

-- it reads the line of a fire that isn't too long, with each reply of a sequential storage
abbrev pub FiresFit : Type 0
FiresFit = (m : Machine) (q : List Move) (agent : ℕ) (reads : List Named) (M : Move) →
    m.capacity ≤ capacity_limit → agent < agents_limit → ¬ IsLongFire reads M →
    FitsEvent agent (call.Fire reads M) (reply_to m q (call.Fire reads M))

-- the line of a read that isn't too long with the values that it returns
abbrev pub ReadsFit : Type 0
ReadsFit = (seen : Old) (agent number : ℕ) (locations : List Place) →
    number ≤ capacity_limit → agent < agents_limit → ¬ IsLongRead seen locations →
    FitsEvent agent (call.Read locations) (answer.Read number (map seen locations))

-- and the first line of a journal whose opening state isn't too long
abbrev pub StatesFit : Type 0
StatesFit = (h : History) → Fits h → ¬ IsLongState h.init → FitsLine (header_json_of h)
