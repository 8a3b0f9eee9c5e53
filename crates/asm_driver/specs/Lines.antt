-- How the input is read line by line.
use Rattle.std.specs.Prelude.{◌≡◌, ◌<◌, ◌⊎◌, ℕ, Bool, true, false, List, [], ◌∷◌, ◌++◌, length, drop, Option, Some, None}
use Rattle.std.specs.Prelude.{Result, Ok, Err}
use Rattle.std.specs.Io.KnownBytes.{Consumes, IsAtEnd}
use Rattle.asm_audit.specs.Limits.{line_limit}
use Rattle.asm_journal.specs.Reading.{HasNoLineFeed, EndsLine}
use Rattle.asm_driver.specs.Ports.{Known, TakesAny, is_fault}
use Rattle.asm_driver.specs.declared.ports.input.InputError.{InputError}
use Rattle.asm_driver.specs.declared.ports.input.InputError.TheVariants.{TooLarge, Fault, Memory}
use Rattle.asm_driver.specs.declared.ports.line_reader.LineReader.{LineReader}

-- the bytes that were read and not yet consumed
abbrev pub pending : LineReader → List ℕ
pending l = drop l.taken l.chunk.items

-- of the pending bytes and those that were read behind them, these were consumed, and the others are pending
abbrev pub Takes : Known → Known → List ℕ → List ℕ → List ℕ → Type 0
Takes had left before behind bytes = (more : List ℕ) × Consumes had left more × (before ++ more ≡ bytes ++ behind)

-- these bytes were read; none only at the end of the input
abbrev pub IsFilled : Known → Known → Bool → List ℕ → Result (Unit {0}) InputError → Type 0
IsFilled had left failed behind (Ok u) =
    Consumes had left behind × (behind ≡ [] → IsAtEnd left) × (failed ≡ false)
IsFilled had left failed behind (Err e) = TakesAny had left × (failed ≡ is_fault {T = Unit {0}} (Err e)) × (e ≡ TooLarge → ⊥)

-- some bytes are pending, or none is left
abbrev pub IsToppedUp : Known → Known → Bool → List ℕ → List ℕ → Result (Unit {0}) InputError → Type 0
IsToppedUp had left failed before behind (Ok u) =
    Takes had left before behind [] × (behind ≡ [] → IsAtEnd left) × (failed ≡ false)
IsToppedUp had left failed before behind (Err e) =
    TakesAny had left × (failed ≡ is_fault {T = Unit {0}} (Err e)) × (e ≡ TooLarge → ⊥)

-- the next byte was consumed, or there is none
abbrev pub IsNextByte : Known → Known → Bool → List ℕ → List ℕ → Result (Option ℕ) InputError → Type 0
IsNextByte had left failed before behind (Ok (Some b)) = Takes had left before behind (b ∷ []) × (failed ≡ false)
IsNextByte had left failed before behind (Ok None) =
    Takes had left before behind [] × (behind ≡ []) × IsAtEnd left × (failed ≡ false)
IsNextByte had left failed before behind (Err e) =
    TakesAny had left × (failed ≡ is_fault {T = Unit {0}} (Err e)) × (e ≡ TooLarge → ⊥)

-- the bytes are a line with its line feed, or the rest of the input without one
abbrev pub IsLineAt : Known → List ℕ → List ℕ → Type 0
IsLineAt left behind line =
    ((body : List ℕ) × EndsLine line body []) ⊎ (HasNoLineFeed line × (behind ≡ []) × IsAtEnd left)

-- the bytes that were consumed are too many for a line, and none of them is a line feed
abbrev pub IsLongLine : List ℕ → Type 0
IsLongLine long = HasNoLineFeed long × (line_limit < length long)

-- the next line was read; or it is too long, or a read failed, or memory was refused
abbrev pub IsLineRead : Known → Known → Bool → List ℕ → List ℕ → List ℕ → Result (Unit {0}) InputError → Type 0
IsLineRead had left failed before behind line (Ok u) =
    Takes had left before behind line × IsLineAt left behind line × (failed ≡ false)
IsLineRead had left failed before behind line (Err TooLarge) =
    (long : List ℕ) × Takes had left before behind long × IsLongLine long × (failed ≡ false)
IsLineRead had left failed before behind line (Err Fault) = TakesAny had left × (failed ≡ true)
IsLineRead had left failed before behind line (Err Memory) = TakesAny had left × (failed ≡ false)
