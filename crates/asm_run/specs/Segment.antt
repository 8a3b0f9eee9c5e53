-- A segment whose text comes in pieces.
use Rattle.std.specs.Prelude.{◌≡◌, ◌≢◌, ◌<◌, ◌≤◌, ◌+◌, ◌^◌, ◌⊎◌, ◌++◌, ℕ, List, length, min}
use Rattle.sha2.specs.Hashers.{Holds256}
use Rattle.asm_run.specs.declared.end.RunEnd.{RunEnd}
use Rattle.asm_run.specs.declared.error.ReadError.{ReadError}
use Rattle.asm_run.specs.declared.error.ReadError.TheVariants as read_error
use Rattle.asm_run.specs.declared.name.SegmentName.{SegmentName}
use Rattle.asm_run.specs.declared.segment.SegmentReader.{SegmentReader}
use Rattle.asm_run.specs.Chain.{start_end, start_of, line_of, digest_after, IsNext}

-- these bytes were taken of the segment after this end; a text of `length` bytes was announced
pub record IsTaken (e : RunEnd) (r : SegmentReader) (text : List ℕ) : Type 0 where
  pub next : IsNext e r.name r.next
  pub held : Holds256 r.hasher ((e.digest ++ line_of e.segments e.moves r.name.moves r.name.events r.length) ++ text)
  pub taken : r.taken ≡ min (length text) 18446744073709551615
  pub short : r.length < 18446744073709551615

-- a text of the announced length isn't the one that was saved
abbrev pub IsDamaged : RunEnd → SegmentReader → List ℕ → Type 0
IsDamaged e r text = length text ≡ r.length → r.name.digest ≢ digest_after e r.name.moves r.name.events text

-- why no segment of this name and size comes after this end: the first of these
abbrev pub IsMisplaced : RunEnd → SegmentName → ℕ → ReadError → Type 0
IsMisplaced e n size read_error.Memory = Unit {0}
IsMisplaced e n size read_error.Number = n.number ≢ e.segments
IsMisplaced e n size read_error.Opening =
    (n.number ≡ e.segments) × (n.number ≡ 0) × ((e ≢ start_end) ⊎ (n.moves + n.events ≢ 0))
IsMisplaced e n size read_error.Previous = (n.number ≡ e.segments) × (e ≢ start_of n)
IsMisplaced e n size read_error.Many = (e ≡ start_of n) × (2 ^ 64 ≤ n.first + n.moves)
IsMisplaced e n size read_error.Damaged = (e ≡ start_of n) × (2 ^ 64 ≤ size + 1)
IsMisplaced e n size error = ⊥
