-- The last digest binds all segments.
use Rattle.std.proofs.Common.{◌≡◌, ◌≢◌, ◌⊎◌, inl, inr, ⊎_elim, Bool, true, false, true≢false, ℕ, ◌*◌, ◌<◌, ◌^◌, List}
use Rattle.std.proofs.Common.{[], ◌∷◌, ◌++◌, length, append_assoc, refl, sym, ap, ap₂, ◌∙◌, arith, lit<}
use Rattle.std.specs.Prelude.{bytes_eq, decimal}
use Rattle.std.proofs.lemmas.Slice.Eq.{bytes_eq-Decides}
use Rattle.sha2.specs.Sha256.{sha256}
use Rattle.sha2.proofs.Facts256.{length-sha256}
use Rattle.hex.specs.Hex.{lower_digits}
use Rattle.hex.proofs.HexLemmas.{length-encode_with}
use Rattle.asm_run.specs.declared.end.RunEnd.{RunEnd}
use Rattle.asm_run.specs.declared.name.SegmentName.{SegmentName}
use Rattle.asm_run.specs.Chain.{hashed, hex_digest, AreChained, Collision, Binds}
use Rattle.asm_run.proofs.Cuts.{same_name}
use Rattle.asm_run.proofs.Lines.{same_fronts, same_number}

length-hex_digest : (x : List ℕ) → length (hex_digest x) ≡ 64
length-hex_digest x = length-encode_with lower_digits (sha256 x) ∙ ap (λ n. 2 * n) (length-sha256 x)

same_or : (a b : List ℕ) → (a ≡ b) ⊎ (a ≢ b)
same_or a b = by (bytes_eq a b) refl
  where
    by : (t : Bool) → bytes_eq a b ≡ t → (a ≡ b) ⊎ (a ≢ b)
    by true e = inl ((bytes_eq-Decides a b).0 e)
    by false e = inr (λ h. true≢false (sym ((bytes_eq-Decides a b).1 h) ∙ e))

-- what is hashed, as one list of words
abbrev flat : List ℕ → ℕ → ℕ → ℕ → ℕ → List ℕ → List ℕ
flat p n f a v s =
    p ++ (32 ∷ (decimal n ++ (32 ∷ (decimal f ++ (32 ∷
    (decimal a ++ (32 ∷ (decimal v ++ (32 ∷ (decimal (length s) ++ (10 ∷ s)))))))))))

hashed_flat : (p : List ℕ) (n f a v : ℕ) (s : List ℕ) → hashed p n f a v s ≡ flat p n f a v s
hashed_flat p n f a v s = simp append_assoc

-- what is hashed determines what goes in
record Same (p q : List ℕ) (n m f g a b v w : ℕ) (s t : List ℕ) : Type 0 where
  before : p ≡ q
  number : n ≡ m
  first : f ≡ g
  moves : a ≡ b
  events : v ≡ w
  text : s ≡ t

same_flat : (p q : List ℕ) (n m f g a b v w : ℕ) (s t : List ℕ) → length p ≡ length q →
    n < 2 ^ 64 → m < 2 ^ 64 → f < 2 ^ 64 → g < 2 ^ 64 → a < 2 ^ 64 → b < 2 ^ 64 → v < 2 ^ 64 → w < 2 ^ 64 →
    length s < 2 ^ 64 → length t < 2 ^ 64 →
    flat p n f a v s ≡ flat q m g b w t → Same p q n m f g a b v w s t
same_flat p q n m f g a b v w s t l hn hm hf hg ha hb hv hw hs ht e =
    let front = same_fronts p q _ _ l e in
    let e1 : decimal n ++
    (32 ∷ (decimal f ++ (32 ∷ (decimal a ++ (32 ∷ (decimal v ++ (32 ∷ (decimal (length s) ++ (10 ∷ s))))))))) ≡
    decimal m ++
    (32 ∷ (decimal g ++ (32 ∷ (decimal b ++ (32 ∷ (decimal w ++ (32 ∷ (decimal (length t) ++ (10 ∷ t))))))))) =
    (let h = front.1 in cc) in
    let number = same_number 32 n m _ _ (lit< tt) hn hm e1 in
    let first = same_number 32 f g _ _ (lit< tt) hf hg number.1 in
    let moves = same_number 32 a b _ _ (lit< tt) ha hb first.1 in
    let events = same_number 32 v w _ _ (lit< tt) hv hw moves.1 in
    let text = same_number 10 (length s) (length t) _ _ (lit< tt) hs ht events.1 in
    record { before = front.0; number = number.0; first = first.0; moves = moves.0; events = events.0; text = text.1 }

-- the runs after two ends of one length of digest
bound : (e f : RunEnd) (one other : List (SegmentName × List ℕ)) (x y : RunEnd) → length e.digest ≡ length f.digest →
    AreChained e one x → AreChained f other y → length one ≡ length other → x.digest ≡ y.digest →
    ((e.digest ≡ f.digest) × (one ≡ other)) ⊎ Collision
bound e f [] [] x y l p q len d = inl (
  sym (ap (λ (z : RunEnd). z.digest) p) ∙ d ∙
      ap (λ (z : RunEnd). z.digest) q,
  refl,
)
bound e f [] (t ∷ other) x y l p q len d = absurd (omega arith)
bound e f (s ∷ one) [] x y l p q len d = absurd (omega arith)
bound e f (s ∷ one) (t ∷ other) x y l p q len d =
    let sp = p.1 in let sq = q.1 in
    let dp : p.0.digest ≡ hex_digest (hashed e.digest e.segments e.moves s.0.moves s.0.events s.1) =
    ap (λ (z : RunEnd). z.digest) sp.next.behind ∙ sp.digest in
    let dq : q.0.digest ≡ hex_digest (hashed f.digest f.segments f.moves t.0.moves t.0.events t.1) =
    ap (λ (z : RunEnd). z.digest) sq.next.behind ∙ sq.digest in
    let lengths : length p.0.digest ≡ length q.0.digest =
    ap length dp ∙ length-hex_digest _ ∙ sym (length-hex_digest _) ∙ sym (ap length dq) in
    let rest : length one ≡ length other = omega arith in
    ⊎_elim
    (λ h. ⊎_elim
    (λ same.
    let np : e.segments ≡ s.0.number = ap (λ (z : RunEnd). z.segments) sp.next.before in
    let nq : f.segments ≡ t.0.number = ap (λ (z : RunEnd). z.segments) sq.next.before in
    let fp : e.moves ≡ s.0.first = ap (λ (z : RunEnd). z.moves) sp.next.before in
    let fq : f.moves ≡ t.0.first = ap (λ (z : RunEnd). z.moves) sq.next.before in
    let es : e.segments < 2 ^ 64 = (let lt = sp.next.few_segments in omega arith) in
    let fs : f.segments < 2 ^ 64 = (let lt = sq.next.few_segments in omega arith) in
    let em : e.moves < 2 ^ 64 = (let lt = sp.next.few_moves in omega arith) in
    let fm : f.moves < 2 ^ 64 = (let lt = sq.next.few_moves in omega arith) in
    let sm : s.0.moves < 2 ^ 64 = (let lt = sp.next.few_moves in omega arith) in
    let tm : t.0.moves < 2 ^ 64 = (let lt = sq.next.few_moves in omega arith) in
    let words : flat e.digest e.segments e.moves s.0.moves s.0.events s.1 ≡ flat f.digest f.segments f.moves t.0.moves
    t.0.events t.1 = sym (hashed_flat _ _ _ _ _ _) ∙ same ∙ hashed_flat _ _ _ _ _ _ in
    let all = same_flat e.digest f.digest e.segments f.segments e.moves f.moves s.0.moves t.0.moves s.0.events
    t.0.events s.1 t.1 l es fs em fm sm tm sp.next.few_events sq.next.few_events sp.short sq.short words in
    let previous : s.0.previous ≡ t.0.previous = sym (ap (λ (z : RunEnd). z.digest) sp.next.before) ∙ all.before ∙
    ap (λ (z : RunEnd). z.digest) sq.next.before in
    let digest : s.0.digest ≡ t.0.digest = sym (ap (λ (z : RunEnd). z.digest) sp.next.behind) ∙ h.0 ∙
    ap (λ (z : RunEnd). z.digest) sq.next.behind in
    let name : s.0 ≡ t.0 = same_name s.0 t.0 (sym np ∙ all.number ∙ nq)
    (sym fp ∙ all.first ∙ fq) all.moves all.events previous digest in
    let segment : s ≡ t = ap₂ (λ (n : SegmentName) (z : List ℕ). (n, z)) name all.text in
    inl (all.before, ap₂ (λ (z : SegmentName × List ℕ) (zs : List (SegmentName × List ℕ)). z ∷ zs) segment h.1))
    (λ differ. inr (_, _, differ, sym dp ∙ h.0 ∙ dq))
    (same_or (hashed e.digest e.segments e.moves s.0.moves s.0.events s.1)
    (hashed f.digest f.segments f.moves t.0.moves t.0.events t.1)))
    (λ collision. inr collision)
    (bound p.0 q.0 one other x y lengths p.2 q.2 rest d)

pub binds : Binds
binds = bound
