-- What goes out of a trace that ends early.
use Rattle.std.specs.Prelude.{◌≡◌, ◌⊎◌, ℕ, List, [], ◌++◌, take}
use Rattle.std.specs.Io.KnownBytes.{Appends}
use Rattle.asm_aggregate.specs.Standard.{standard_part}
use Rattle.asm_storage.specs.declared.history.History.{History}
use Rattle.asm_journal.specs.Check.{machine_of}
use Rattle.asm_journal.specs.Text.{line}
use Rattle.asm_trace.specs.Note.{Note, AreNotesOf}
use Rattle.asm_trace.specs.Text.{header_of, notes_text}
use Rattle.asm_driver.specs.Ports.{Known, AppendsSome}
use Rattle.asm_driver.specs.declared.program.refusal.Refusal.TheVariants as refusal
use Rattle.asm_driver.specs.declared.program.watching.Stop.{Stop}
use Rattle.asm_driver.specs.declared.program.watching.Stop.TheVariants.{Refused, Unwritten}

-- nothing, or the header line of the history's trace and the lines of its first events, any number of them
abbrev pub IsTraceBegun : History → List ℕ → Type 0
IsTraceBegun h text = (text ≡ []) ⊎ ((n : ℕ) × (notes : List Note)
    × AreNotesOf (machine_of standard_part h) [] 0 (take n h.events) notes
    × (text ≡ line (header_of h) ++ notes_text notes))

-- why the trace ends behind these lines: memory was refused once they had gone out, or the output failed within them
abbrev pub IsCutOff : Known → Known → List ℕ → Stop → Type 0
IsCutOff held holds begun (Refused r) = (r ≡ refusal.Memory) × Appends held holds begun
IsCutOff held holds begun Unwritten = AppendsSome held holds begun

-- the history's trace ends early
abbrev pub IsTraceStopped : History → Known → Known → Stop → Type 0
IsTraceStopped h held holds stop = (begun : List ℕ) × IsTraceBegun h begun × IsCutOff held holds begun stop
