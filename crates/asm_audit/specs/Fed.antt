-- Texts whose bytes come in pieces.
use Rattle.std.specs.Prelude.{◌≡◌, ◌≢◌, ◌≤◌, ◌<◌, ◌⊎◌, ℕ, List, [], ◌∷◌, ◌++◌, length, take, drop, Result, Ok, Err}
use Rattle.asm_update.specs.Fire.{Part}
use Rattle.asm_journal.specs.Reading.{HasNoLineFeed, EndsLine}
use Rattle.asm_audit.specs.declared.error.AuditError.{AuditError}
use Rattle.asm_audit.specs.declared.error.AuditError.TheVariants.{LongLine, Memory}
use Rattle.asm_audit.specs.declared.progress.Progress.{Progress}
use Rattle.asm_audit.specs.declared.progress.Counts.{Counts}
use Rattle.asm_audit.specs.Limits.{line_limit}
use Rattle.asm_audit.specs.Text.{IsShortLine, IsShortLines}
use Rattle.asm_audit.specs.Fault.{IsFaulty}
use Rattle.asm_audit.specs.Audited.{IsAudited, IsVerdict}

-- the lines of the text that have ended were read, and these bytes begin the next one; no line is too long
pub record IsFed (part : Part) (text : List ℕ) (p : Progress) (line : List ℕ) : Type 0 where
  pub ended : List ℕ
  pub all : ended ++ line ≡ text
  pub short : IsShortLines ended
  pub open_line : IsShortLine line
  pub audited : IsAudited part ended p

-- these bytes were taken after any text that was fed
abbrev pub Feeds : Part → List ℕ → Progress → List ℕ → Progress → List ℕ → Type 0
Feeds part bytes p line q left = (text : List ℕ) → IsFed part text p line → IsFed part (text ++ bytes) q left

-- the first of these bytes were taken, and the others weren't
abbrev pub FeedsPrefix : Part → List ℕ → Progress → List ℕ → Progress → List ℕ → Type 0
FeedsPrefix part bytes p line q left =
    (front behind : List ℕ) × (front ++ behind ≡ bytes) × Feeds part front p line q left

-- what is reported of bytes that come after any text that was fed, whatever comes after them
abbrev pub IsFedAnswer : Part → List ℕ → Progress → List ℕ → Progress → List ℕ → Result (Unit {0}) AuditError → Type 0
IsFedAnswer part bytes p line q left (Ok u) = Feeds part bytes p line q left
IsFedAnswer part bytes p line q left (Err e) =
    (text more : List ℕ) → IsFed part text p line → IsFaulty part (text ++ (bytes ++ more)) e

-- what is reported of any text that was fed if no byte comes after it
abbrev pub IsFedEnd : Part → Progress → List ℕ → Result Counts AuditError → Type 0
IsFedEnd part p line r = (text : List ℕ) → IsFed part text p line → IsVerdict part text r

-- what is reported at the first of the bytes that are left; without an error none is left
abbrev pub IsNextReport : Part → List ℕ → Progress → List ℕ → Result (Unit {0}) AuditError → Type 0
IsNextReport part behind q left (Ok u) = behind ≡ []
IsNextReport part behind q left (Err e) = (b : ℕ) × (more : List ℕ) × (behind ≡ b ∷ more)
    × IsFedAnswer part (b ∷ []) q left q left (Err e)

-- this many of the first bytes were taken, and no others, since this is reported at the next one
pub record FeedsFirst (part : Part) (bytes : List ℕ) (p : Progress) (line : List ℕ) (q : Progress) (left : List ℕ)
    (n : ℕ) (r : Result (Unit {0}) AuditError) : Type 0 where
  pub within : n ≤ length bytes
  pub taken : Feeds part (take n bytes) p line q left
  pub next : IsNextReport part (drop n bytes) q left r

-- this many of these bytes were added to the line: all, or those up to the limit, or none, since memory was refused
abbrev pub IsExtended : List ℕ → List ℕ → List ℕ → ℕ → Result (Unit {0}) AuditError → Type 0
IsExtended body old new n (Ok u) = (new ≡ old ++ body) × (n ≡ length body)
IsExtended body old new n (Err LongLine) = (new ≡ old ++ take n body) × (n < length body) × (line_limit ≤ length new)
IsExtended body old new n (Err Memory) = (new ≡ old) × (n ≡ 0)
IsExtended body old new n r = ⊥

-- these bytes end in the first line feed, or no line feed is in them, and no byte is left; or this is reported at the
-- next one
abbrev pub IsLineEnd : Part → List ℕ → List ℕ → Progress → List ℕ → Result (Unit {0}) AuditError → Type 0
IsLineEnd part front behind q left (Ok u) =
    (front ≢ []) × (((body : List ℕ) × EndsLine front body []) ⊎ (HasNoLineFeed front × (behind ≡ [])))
IsLineEnd part front behind q left (Err e) = HasNoLineFeed front × IsNextReport part behind q left (Err e)

-- this many of the first bytes were taken, up to the first line feed, and no others
pub record FeedsLine (part : Part) (bytes : List ℕ) (p : Progress) (line : List ℕ) (q : Progress) (left : List ℕ)
    (n : ℕ) (r : Result (Unit {0}) AuditError) : Type 0 where
  pub front : List ℕ
  pub behind : List ℕ
  pub all : front ++ behind ≡ bytes
  pub count : n ≡ length front
  pub taken : Feeds part front p line q left
  pub ends : IsLineEnd part front behind q left r
