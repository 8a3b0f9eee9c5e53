-- An input, as it is read chunk by chunk.
use Rattle.std.proofs.Common.{◌≡◌, ℕ, List, [], ◌++◌, take, Option, Some, None, IfSome, Err, refl, sym, ap, subst, ◌∙◌, append-nil, append_assoc}
use Rattle.std.specs.Io.KnownBytes.{Consumes, IsAtEnd}
use Rattle.asm_update.specs.Fire.{Part}
use Rattle.asm_audit.specs.declared.error.AuditError.{AuditError}
use Rattle.asm_audit.specs.declared.progress.Progress.{Progress}
use Rattle.asm_audit.specs.Fault.{IsFaulty}
use Rattle.asm_audit.specs.Fed.{IsFed, Feeds, IsFedAnswer}

-- of the text some bytes were fed, and these are left
pub record IsReadTo (part : Part) (text : List ℕ) (p : Progress) (line : List ℕ) (left : Option (List ℕ)) : Type 0 where
  pub done : List ℕ
  pub rest : List ℕ
  pub known : left ≡ Some rest
  pub all : done ++ rest ≡ text
  pub fed : IsFed part done p line

-- a chunk was read after what was fed, and these are left then
pub record IsChunk (part : Part) (text : List ℕ) (p : Progress) (line bytes : List ℕ) (left : Option (List ℕ)) : Type 0
  where
    pub done : List ℕ
    pub rest : List ℕ
    pub known : left ≡ Some rest
    pub all : done ++ (bytes ++ rest) ≡ text
    pub fed : IsFed part done p line

after : (xs bytes : List ℕ) (new : Option (List ℕ)) → Consumes (Some xs) new bytes →
    (rest : List ℕ) × (new ≡ Some rest) × (xs ≡ bytes ++ rest)
after xs bytes None taken = absurd taken
after xs bytes (Some rest) taken = (rest, refl, taken)

pub read_chunk : (part : Part) (text : List ℕ) (p : Progress) (line bytes : List ℕ) (old new : Option (List ℕ)) →
    IsReadTo part text p line old → Consumes old new bytes → IsChunk part text p line bytes new
read_chunk part text p line bytes old new read taken =
    let left = after read.rest bytes new (subst (λ (o : Option (List ℕ)). Consumes o new bytes) read.known taken) in
    record {
      done = read.done;
      rest = left.0;
      known = left.1;
      all = ap (λ (l : List ℕ). read.done ++ l) (sym left.2) ∙ read.all;
      fed = read.fed;
    }

-- the chunk was fed, or this is reported of the complete text
pub chunk_fed : (part : Part) (text : List ℕ) (p q : Progress) (line next bytes : List ℕ) (left : Option (List ℕ)) →
    IsChunk part text p line bytes left → Feeds part bytes p line q next → IsReadTo part text q next left
chunk_fed part text p q line next bytes left chunk taken = record {
  done = chunk.done ++ bytes;
  rest = chunk.rest;
  known = chunk.known;
  all = append_assoc chunk.done bytes chunk.rest ∙ chunk.all;
  fed = taken chunk.done chunk.fed;
}

pub chunk_fault : (part : Part) (text : List ℕ) (p q : Progress) (line next bytes : List ℕ) (left : Option (List ℕ))
    (e : AuditError) → IsChunk part text p line bytes left → IsFedAnswer part bytes p line q next (Err e) →
    IsFaulty part text e
chunk_fault part text p q line next bytes left e chunk answer =
    subst (λ (t : List ℕ). IsFaulty part t e) chunk.all (answer chunk.done chunk.rest chunk.fed)

-- no byte was left
pub all_fed : (part : Part) (text : List ℕ) (p : Progress) (line buffer : List ℕ) (left : Option (List ℕ)) (n : ℕ) → n ≡ 0 →
    IsChunk part text p line (take n buffer) left → IsAtEnd left → IsFed part text p line
all_fed part text p line buffer left n none chunk end =
    let nothing : take n buffer ≡ [] = ap (λ k. take k buffer) none in
    let last : chunk.rest ≡ [] = subst IsAtEnd chunk.known end in
    let same : chunk.done ≡ text =
    sym (append-nil chunk.done) ∙ ap (λ (l : List ℕ). chunk.done ++ l) (sym last)
    ∙ ap (λ (l : List ℕ). chunk.done ++ (l ++ chunk.rest)) (sym nothing) ∙ chunk.all in
    subst (λ (t : List ℕ). IsFed part t p line) same chunk.fed

-- what holds if the bytes are known
pub where_known : (known : Option (List ℕ)) (P Q : List ℕ → Type 0) → ((xs : List ℕ) → P xs → Q xs) → IfSome known P →
    IfSome known Q
where_known None P Q more h = tt
where_known (Some xs) P Q more h = more xs h
