-- The chain of digests of a run.
use Rattle.std.specs.Prelude.{◌≡◌, ◌≢◌, ◌⊎◌, ◌<◌, ◌^◌, ℕ, ◌+◌, List, [], ◌∷◌, ◌++◌, length, decimal, replicate}
use Rattle.sha2.specs.Sha256.{sha256}
use Rattle.hex.specs.Hex.{encode_lower}
use Rattle.asm_run.specs.declared.end.RunEnd.{RunEnd}
use Rattle.asm_run.specs.declared.name.SegmentName.{SegmentName}

-- the end of a run without segments
abbrev pub start_end : RunEnd
start_end = record { segments = 0; moves = 0; digest = replicate 64 48 }

-- the line before the text, without the digest before it: the segment's number, the moves before it, its moves and
-- events, and the length of its text
abbrev pub line_of : ℕ → ℕ → ℕ → ℕ → ℕ → List ℕ
line_of number first moves events size =
    32 ∷ (decimal number ++ (32 ∷ (decimal first ++ (32 ∷
    (decimal moves ++ (32 ∷ (decimal events ++ (32 ∷ (decimal size ++ (10 ∷ []))))))))))

-- what is hashed: the digest before, the line, and the text
abbrev pub hashed : List ℕ → ℕ → ℕ → ℕ → ℕ → List ℕ → List ℕ
hashed previous number first moves events text = (previous ++ line_of number first moves events (length text)) ++ text

-- SHA-256 in hexadecimal digits
abbrev pub hex_digest : List ℕ → List ℕ
hex_digest text = encode_lower (sha256 text)

-- the digest of the next segment, with these moves, events and text
abbrev pub digest_after : RunEnd → ℕ → ℕ → List ℕ → List ℕ
digest_after e moves events text = hex_digest (hashed e.digest e.segments e.moves moves events text)

-- the end of the segments before the one of this name
abbrev pub start_of : SegmentName → RunEnd
start_of n = record { segments = n.number; moves = n.first; digest = n.previous }

-- the end of the segments with it
abbrev pub end_of : SegmentName → RunEnd
end_of n = record { segments = n.number + 1; moves = n.first + n.moves; digest = n.digest }

-- a segment of this name comes next, and the run has the other end with it; segment 0 has no event
pub record IsNext (e : RunEnd) (name : SegmentName) (end : RunEnd) : Type 0 where
  pub before : e ≡ start_of name
  pub behind : end ≡ end_of name
  pub opening : name.number ≡ 0 → (e ≡ start_end) × (name.moves + name.events ≡ 0)
  pub few_segments : name.number < 100000000
  pub few_moves : name.first + name.moves < 2 ^ 64
  pub few_events : name.events < 2 ^ 64

-- a file with this name and text is the next segment
pub record Follows (e : RunEnd) (name : SegmentName) (text : List ℕ) (end : RunEnd) : Type 0 where
  pub next : IsNext e name end
  pub digest : name.digest ≡ digest_after e name.moves name.events text
  pub short : length text < 2 ^ 64

-- these files are the next segments, in order
abbrev pub AreChained : RunEnd → List (SegmentName × List ℕ) → RunEnd → Type 0
AreChained e [] end = end ≡ e
AreChained e (s ∷ segments) end = (next : RunEnd) × Follows e s.0 s.1 next × AreChained next segments end

-- segments of these names come next, in order
abbrev pub AreNext : RunEnd → List SegmentName → RunEnd → Type 0
AreNext e [] end = end ≡ e
AreNext e (n ∷ names) end = (next : RunEnd) × IsNext e n next × AreNext next names end

-- two texts that have one digest
abbrev pub Collision : Type 0
Collision = (x y : List ℕ) × (x ≢ y) × (hex_digest x ≡ hex_digest y)

-- as many segments, after two ends, with one last digest: then they are the same, with each text, and so are the digests
-- before them, or a collision is known
abbrev pub Binds : Type 0
Binds = (e f : RunEnd) (one other : List (SegmentName × List ℕ)) (x y : RunEnd) → length e.digest ≡ length f.digest →
    AreChained e one x → AreChained f other y → length one ≡ length other → x.digest ≡ y.digest →
    ((e.digest ≡ f.digest) × (one ≡ other)) ⊎ Collision
