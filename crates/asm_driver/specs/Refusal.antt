-- The line and the status of each refusal, and the refusals made from errors.
use Rattle.std.specs.Prelude.{ℕ, Bool, true, false, List, ◌++◌, codes, string_bytes}
use Rattle.std.specs.Fmt.{decimal}
use Rattle.asm_journal.specs.declared.error.JournalError.{JournalError}
use Rattle.asm_journal.specs.declared.error.JournalError.TheVariants as journal
use Rattle.asm_driver.specs.Report.{line}
use Rattle.asm_driver.specs.declared.ports.input.InputError.{InputError}
use Rattle.asm_driver.specs.declared.ports.input.InputError.TheVariants as input
use Rattle.asm_play.specs.declared.outcome.RunError.{RunError}
use Rattle.asm_play.specs.declared.outcome.RunError.TheVariants as play
use Rattle.asm_driver.specs.declared.program.refusal.Line.{Line}
use Rattle.asm_driver.specs.declared.program.refusal.Line.TheVariants.{Known, Made}
use Rattle.asm_driver.specs.declared.program.refusal.Refusal.{Refusal}
use Rattle.asm_driver.specs.declared.program.refusal.Refusal.TheVariants as refusal
use Rattle.asm_driver.specs.declared.program.refusal.SegmentFault.{SegmentFault}
use Rattle.asm_driver.specs.declared.program.refusal.SegmentFault.TheVariants as segment_fault
use Rattle.asm_script.specs.declared.script.ScriptCause.{ScriptCause}
use Rattle.asm_script.specs.declared.script.ScriptCause.TheVariants.{NotJson, Shape, Agents, Blocks, Instructions}
use Rattle.asm_script.specs.declared.script.ScriptCause.TheVariants.{Reads}
use Rattle.asm_script.specs.declared.script.ScriptError.{ScriptError}
use Rattle.asm_script.specs.declared.script.ScriptError.TheVariants.{BadScript, Memory}

-- ---- each error, and the refusal made from it

-- of the input
abbrev pub refusal_of_input : InputError → Refusal
refusal_of_input input.TooLarge = refusal.TooLarge
refusal_of_input input.Fault = refusal.InputFault
refusal_of_input input.Memory = refusal.Memory

-- of a script
abbrev pub refusal_of_script : ScriptError → Refusal
refusal_of_script (BadScript cause) = refusal.BadScript cause
refusal_of_script Memory = refusal.Memory

-- of playing it
abbrev pub refusal_of_run : RunError → Refusal
refusal_of_run play.BadCapacity = refusal.Words
refusal_of_run play.NoThread = refusal.NoThread
refusal_of_run (play.Missing k) = refusal.Missing k
refusal_of_run play.Memory = refusal.Memory

-- of a journal
abbrev pub refusal_of_journal : JournalError → Refusal
refusal_of_journal journal.Memory = refusal.Memory
refusal_of_journal e = refusal.BadJournal e

-- ---- lines

-- the bytes of a line
abbrev pub line_bytes : Line → List ℕ
line_bytes (Known l) = l.now
line_bytes (Made l) = string_bytes l

-- why a script is refused
abbrev pub cause_line : ScriptCause → List ℕ
cause_line NotJson = line (codes "bad script: not JSON")
cause_line Shape = line (codes "bad script: shape")
cause_line Agents = line (codes "bad script: agents")
cause_line Blocks = line (codes "bad script: blocks")
cause_line Instructions = line (codes "bad script: instructions")
cause_line Reads = line (codes "bad script: reads")

-- the line for an allocation failure
abbrev pub memory_line : List ℕ
memory_line = line (codes "out of memory")

-- why a journal is refused
abbrev pub journal_line : JournalError → List ℕ
journal_line (journal.NotJson n) = line (codes "journal line " ++ decimal n ++ codes ": not JSON")
journal_line (journal.Shape n) = line (codes "journal line " ++ decimal n ++ codes ": shape")
journal_line journal.Version = line (codes "journal version")
journal_line journal.Cut = line (codes "journal cut")
journal_line journal.Memory = memory_line

-- why the journal of this segment of a run is refused
abbrev pub part_line : ℕ → JournalError → List ℕ
part_line part fault = codes "part " ++ decimal part ++ codes " " ++ journal_line fault

-- the line for a window that goes beyond the calls of this segment
abbrev pub few_calls_line : ℕ → ℕ → List ℕ
few_calls_line part calls = line (codes "part " ++ decimal part ++ codes " has " ++ decimal calls ++ codes " calls")

-- the word for a fault of a segment
abbrev pub fault_word : SegmentFault → List ℕ
fault_word segment_fault.Damaged = codes "damaged"
fault_word segment_fault.Missing = codes "missing"
fault_word segment_fault.Twice = codes "twice"
fault_word segment_fault.Misnamed = codes "misnamed"
fault_word segment_fault.Misplaced = codes "misplaced"
fault_word segment_fault.Miscounted = codes "miscounted"

-- the line for the segment with this number, which has this fault
abbrev pub segment_line : ℕ → SegmentFault → List ℕ
segment_line number f = line (codes "segment " ++ decimal number ++ codes " " ++ fault_word f)

-- the line that is written
abbrev pub refusal_line : Refusal → List ℕ
refusal_line refusal.Words = line (codes "bad words")
refusal_line refusal.TooLarge = line (codes "input too large")
refusal_line (refusal.BadScript cause) = cause_line cause
refusal_line (refusal.BadJournal e) = journal_line e
refusal_line (refusal.BadPart part fault) = part_line part fault
refusal_line (refusal.Apart part) = line (codes "part " ++ decimal part ++ codes " apart")
refusal_line (refusal.Illegal part call) = line (codes "illegal " ++ decimal part ++ codes " " ++ decimal call)
refusal_line (refusal.FewCalls part calls) = few_calls_line part calls
refusal_line (refusal.FewParts parts) = line (codes "the run has " ++ decimal parts ++ codes " parts")
refusal_line refusal.Unfit = line (codes "bad script: shape")
refusal_line (refusal.Missing k) = line (codes "missing move " ++ decimal k)
refusal_line (refusal.BadSegment number f) = segment_line number f
refusal_line refusal.InputFault = line (codes "input fault")
refusal_line refusal.NoThread = line (codes "no thread")
refusal_line refusal.Memory = memory_line

-- whether the line of a journal's fault has a number
abbrev pub journal_has_number : JournalError → Bool
journal_has_number (journal.NotJson n) = true
journal_has_number (journal.Shape n) = true
journal_has_number _ = false

-- whether the line has a number, so that it needs memory
abbrev pub has_number : Refusal → Bool
has_number (refusal.BadJournal e) = journal_has_number e
has_number (refusal.BadPart part fault) = true
has_number (refusal.Apart part) = true
has_number (refusal.Illegal part call) = true
has_number (refusal.FewCalls part calls) = true
has_number (refusal.FewParts parts) = true
has_number (refusal.Missing k) = true
has_number (refusal.BadSegment number f) = true
has_number _ = false

-- ---- statuses

-- the status of a journal's fault
abbrev pub journal_status : JournalError → ℕ
journal_status journal.Memory = 3
journal_status _ = 2

-- the status of a refusal
abbrev pub refusal_status : Refusal → ℕ
refusal_status refusal.Words = 2
refusal_status refusal.TooLarge = 2
refusal_status (refusal.BadScript cause) = 2
refusal_status (refusal.BadJournal e) = journal_status e
refusal_status (refusal.BadPart part fault) = journal_status fault
refusal_status (refusal.Apart part) = 2
refusal_status (refusal.Illegal part call) = 1
refusal_status (refusal.FewCalls part calls) = 2
refusal_status (refusal.FewParts parts) = 2
refusal_status refusal.Unfit = 2
refusal_status (refusal.Missing k) = 1
refusal_status (refusal.BadSegment number f) = 1
refusal_status refusal.InputFault = 4
refusal_status refusal.NoThread = 3
refusal_status refusal.Memory = 3
