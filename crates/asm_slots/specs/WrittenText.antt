-- Texts that are written into a buffer.
use Rattle.std.specs.Prelude.{◌≡◌, ◌⊎◌, ◌<◌, ◌≤◌, ℕ, ℤ, List, drop, length, slice_range, MatchResult, Result}
use Rattle.asm_slots.specs.Codes.{Answers}
use Rattle.asm_slots.specs.declared.codes.Code.{Code}
use Rattle.asm_slots.specs.declared.codes.Code.TheVariants as variant

-- the first `written` bytes of the buffer are this text, and those behind it are unchanged
abbrev pub IsCopied : List ℕ → List ℕ → List ℕ → ℕ → Type 0
IsCopied text out after written =
    (slice_range after 0 written ≡ text) × (written ≤ length after) × (drop written after ≡ drop written out)

-- the text has `written` bytes, which are more than the room
abbrev pub IsTooLong : List ℕ → ℕ → ℕ → Type 0
IsTooLong text room written = (written ≡ length text) × (room < length text)

-- a text of this kind is written
abbrev pub HasText : (List ℕ → Type 0) → List ℕ → List ℕ → ℕ → Type 0
HasText IsText out after written = (text : List ℕ) × IsText text × IsCopied text out after written

-- the buffer is unchanged, and no length is reported
abbrev pub WritesNothing : List ℕ → List ℕ → ℕ → Type 0
WritesNothing out after written = (after ≡ out) × (written ≡ 0)

-- a text of this kind is too long for the buffer
abbrev pub LacksRoom : (List ℕ → Type 0) → List ℕ → ℕ → Code → Type 0
LacksRoom IsText out written c = (c ≡ variant.Small) × ((text : List ℕ) × IsText text × IsTooLong text (length out) written)

-- the buffer is unchanged: it lacks room for a text of this kind, or there is none, for a reason that holds of the code
abbrev pub HasNoText : (List ℕ → Type 0) → (Code → Type 0) → List ℕ → List ℕ → ℕ → Code → Type 0
HasNoText IsText IsNone out after written c =
    (after ≡ out) × (LacksRoom IsText out written c ⊎ ((written ≡ 0) × IsNone c))

-- a text of this kind is written, or none is
abbrev pub IsWritten : (List ℕ → Type 0) → (Code → Type 0) → List ℕ → List ℕ → ℕ → Result (Unit {0}) Code → Type 0
IsWritten IsText IsNone out after written r =
    MatchResult r (λ done. HasText IsText out after written) (HasNoText IsText IsNone out after written)

-- the same, by the number that C gets
abbrev pub WritesText : (List ℕ → Type 0) → (Code → Type 0) → List ℕ → List ℕ → ℕ → ℤ → Type 0
WritesText IsText IsNone out after written answer =
    Answers answer (HasText IsText out after written) (HasNoText IsText IsNone out after written)
