-- The part that is being read.
use Rattle.std.specs.Prelude.{◌≡◌, ◌≤◌, ◌+◌, ◌⊎◌, ℕ, Bool, true, false, List, [], length}
use Rattle.serde_json.specs.Data.{Data}
use Rattle.asm_update.specs.Fire.{Part}
use Rattle.asm_update.specs.State.{State}
use Rattle.asm_state.specs.FollowsFrom.{FollowsFrom}
use Rattle.asm_storage.specs.History.{fired_moves}
use Rattle.asm_storage.specs.declared.history.Event.{Event}
use Rattle.asm_storage.specs.declared.history.History.{History}
use Rattle.asm_journal.specs.declared.error.JournalError.{JournalError}
use Rattle.asm_journal.specs.declared.parsing.Header.{Header}
use Rattle.asm_journal.specs.declared.parsing.Limits.{Limits}
use Rattle.asm_journal.specs.Check.{IsStep}
use Rattle.asm_journal.specs.Event.{IsEventBelow}
use Rattle.asm_journal.specs.Fault.{BreaksHeader, BreaksEvent}
use Rattle.asm_journal.specs.Reading.{HasLine, IsHeader}
use Rattle.asm_audit.specs.declared.error.AuditError.{AuditError}
use Rattle.asm_audit.specs.declared.error.AuditError.TheVariants.{Illegal}
use Rattle.asm_audit.specs.declared.part_auditor.PartAuditor.{PartAuditor}
use Rattle.asm_audit.specs.Chain.{IsGoing}
use Rattle.asm_audit.specs.Fault.{part_fault}

-- the history of these events, after such a header
abbrev pub history_of : Limits → State → List Event → History
history_of limits A es = record { init = A; capacity = limits.capacity; agents = limits.agents; events = es }

-- the text is the beginning of a journal that opens with this state, as the part with this number: a header of these
-- limits and the events that were taken, which are legal; and the state has followed their moves
pub record IsReading (part : Part) (A : State) (number : ℕ) (text : List ℕ) (o : PartAuditor) : Type 0 where
  pub events : List Event
  pub going : IsGoing part A o.limits.version o.limits.events (history_of o.limits A events) text []
  pub numbered : o.number ≡ number
  pub taken : o.taken ≡ length events
  pub within : o.taken ≤ o.limits.events
  pub stands : FollowsFrom part A o.state (fired_moves events)

-- ---- one line

-- the line is this header
abbrev pub HasHeader : List ℕ → Header → Type 0
HasHeader line h = (d : Data) × (after : List ℕ) × HasLine line d after
    × IsHeader h.limits.version h.limits.agents h.limits.capacity h.limits.events h.init d

-- the line has this fault as the header of the part with this number; refused memory says nothing of the line
abbrev pub BreaksHeaderOf : ℕ → List ℕ → AuditError → Type 0
BreaksHeaderOf number line e = (fault : JournalError) × (e ≡ part_fault number fault) × BreaksHeader line fault

-- one more if the event is right
abbrev pub taken_after : Bool → ℕ → ℕ
taken_after true n = n + 1
taken_after false n = n

-- the line is this event of the part, and its answer is judged: if it is right, the event was taken
pub record IsJudged (part : Part) (line : List ℕ) (event : Event) (old new : PartAuditor) (right : Bool) : Type 0 where
  pub value : Data
  pub rest : List ℕ
  pub has : HasLine line value rest
  pub form : IsEventBelow old.limits.version old.limits.agents event value
  pub step : IsStep part old.limits.capacity event old.state new.state right
  pub number : new.number ≡ old.number
  pub limits : new.limits ≡ old.limits
  pub taken : new.taken ≡ taken_after right old.taken

-- why the line isn't taken: it is no event, or one whose answer is wrong; refused memory says nothing of the line
abbrev pub IsNotTaken : Part → List ℕ → PartAuditor → AuditError → Type 0
IsNotTaken part line o e =
    ((fault : JournalError) × (e ≡ part_fault o.number fault)
    × BreaksEvent o.limits.version o.limits.agents (o.taken + 2) line fault)
    ⊎ ((e ≡ Illegal o.number o.taken) × ((event : Event) × IsJudged part line event o o false))
