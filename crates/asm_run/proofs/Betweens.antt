-- Segments between two ends, as their names say.
use Rattle.std.proofs.Common.{◌≡◌, ℕ, ◌+◌, ◌<◌, ◌^◌, List, [], ◌∷◌, ◌++◌, length, replicate, refl, sym, ap, ◌∙◌}
use Rattle.std.proofs.Common.{subst, arith, suc, zero}
use Rattle.std.specs.Prelude.{All, IsTrue}
use Rattle.std.proofs.lemmas.List.Elements.{All-cons, All-nil}
use Rattle.asm_run.specs.declared.end.RunEnd.{RunEnd}
use Rattle.asm_run.specs.declared.name.SegmentName.{SegmentName}
use Rattle.asm_run.specs.Chain.{start_end, end_of, IsNext, AreChained, AreNext}
use Rattle.asm_run.specs.Name.{is_hex_digit, IsDigest, IsName}
use Rattle.asm_run.specs.Protocol.{Segment}
use Rattle.asm_run.specs.Run.{AreNamed, AreTitles, AreBetween, EndsOnce}
use Rattle.asm_run.proofs.Cuts.{one_name}

titles_push : (segments : List Segment) (names : List SegmentName) (s : Segment) (n : SegmentName) →
    AreTitles segments names → IsName s.0 n → AreTitles (segments ++ s ∷ []) (names ++ n ∷ [])
titles_push [] [] s n h is = (is, tt)
titles_push [] (m ∷ names) s n h is = absurd h
titles_push (r ∷ segments) [] s n h is = absurd h
titles_push (r ∷ segments) (m ∷ names) s n h is = (h.0, titles_push segments names s n h.1 is)

next_push : (e : RunEnd) (names : List SegmentName) (m end : RunEnd) (n : SegmentName) → AreNext e names m →
    IsNext m n end → AreNext e (names ++ n ∷ []) end
next_push e [] m end n h is = (end, subst (λ (x : RunEnd). IsNext x n end) h is, refl)
next_push e (k ∷ names) m end n h is = (h.0, h.1, next_push h.0 names m end n h.2 is)

-- one more segment
pub between_push : (e : RunEnd) (segments : List Segment) (m end : RunEnd) (s : Segment) (n : SegmentName) →
    AreBetween e segments m → IsName s.0 n → IsNext m n end → AreBetween e (segments ++ s ∷ []) end
between_push e segments m end s n h is next = record {
  names = h.names ++ n ∷ [];
  titles = titles_push segments h.names s n h.titles is;
  next = next_push e h.names m end n h.next next;
}

pub none_between : (e end : RunEnd) → end ≡ e → AreBetween e [] end
none_between e end same = record { names = []; titles = tt; next = same }

count : (e : RunEnd) (segments : List Segment) (names : List SegmentName) (end : RunEnd) → AreTitles segments names →
    AreNext e names end → end.segments ≡ e.segments + length segments
count e [] [] end h c = let same : end.segments ≡ e.segments = ap (λ (x : RunEnd). x.segments) c in omega arith
count e [] (n ∷ names) end h c = absurd h
count e (s ∷ segments) [] end h c = absurd h
count e (s ∷ segments) (n ∷ names) end h c =
    let before : e.segments ≡ n.number = ap (λ (x : RunEnd). x.segments) c.1.before in
    let one : c.0.segments ≡ n.number + 1 = ap (λ (x : RunEnd). x.segments) c.1.behind in
    let rest : end.segments ≡ c.0.segments + length segments = count c.0 segments names end h.1 c.2 in
    omega arith

pub between_count : (e : RunEnd) (segments : List Segment) (end : RunEnd) → AreBetween e segments end →
    end.segments ≡ e.segments + length segments
between_count e segments end h = count e segments h.names end h.titles h.next

-- the names of named segments
names_of : List (SegmentName × List ℕ) → List SegmentName
names_of [] = []
names_of (p ∷ pairs) = p.0 ∷ names_of pairs

titles_of : (segments : List Segment) (pairs : List (SegmentName × List ℕ)) → AreNamed segments pairs →
    AreTitles segments (names_of pairs)
unfolding names_of
titles_of [] [] h = tt
titles_of [] (p ∷ pairs) h = absurd h
titles_of (s ∷ segments) [] h = absurd h
titles_of (s ∷ segments) (p ∷ pairs) h = (h.0, titles_of segments pairs h.2)

next_of : (e : RunEnd) (pairs : List (SegmentName × List ℕ)) (end : RunEnd) → AreChained e pairs end →
    AreNext e (names_of pairs) end
unfolding names_of
next_of e [] end h = h
next_of e (p ∷ pairs) end h = (h.0, h.1.next, next_of h.0 pairs end h.2)

pub between_of : (e : RunEnd) (segments : List Segment) (pairs : List (SegmentName × List ℕ)) (end : RunEnd) →
    AreNamed segments pairs → AreChained e pairs end → AreBetween e segments end
between_of e segments pairs end named chained = record {
  names = names_of pairs;
  titles = titles_of segments pairs named;
  next = next_of e pairs end chained;
}

split : (e : RunEnd) (xs ys : List Segment) (names : List SegmentName) (end : RunEnd) → AreTitles (xs ++ ys) names →
    AreNext e names end → (m : RunEnd) × AreBetween m ys end
split e [] ys names end h c = (e, record { names = names; titles = h; next = c })
split e (x ∷ xs) ys [] end h c = absurd h
split e (x ∷ xs) ys (n ∷ names) end h c = split c.0 xs ys names end h.1 c.2

-- the last of them
pub between_last : (e : RunEnd) (xs ys : List Segment) (end : RunEnd) → AreBetween e (xs ++ ys) end →
    (m : RunEnd) × AreBetween m ys end
between_last e xs ys end h = split e xs ys h.names end h.titles h.next

one_end : (d e x y : RunEnd) (s : Segment) (segments : List Segment) (ns ms : List SegmentName) →
    AreTitles (s ∷ segments) ns → AreTitles (s ∷ segments) ms → AreNext d ns x → AreNext e ms y → x ≡ y
one_end d e x y s segments [] ms t u p q = absurd t
one_end d e x y s segments (n ∷ ns) [] t u p q = absurd u
one_end d e x y s [] (n ∷ []) (m ∷ []) t u p q =
    let a = p.1.few_moves in
    let b = q.1.few_moves in
    let af : n.first < 2 ^ 64 = omega arith in
    let bf : m.first < 2 ^ 64 = omega arith in
    let am : n.moves < 2 ^ 64 = omega arith in
    let bm : m.moves < 2 ^ 64 = omega arith in
    let same = one_name s.0 n m af bf am bm p.1.few_events q.1.few_events t.0 u.0 in
    p.2 ∙ p.1.behind ∙ ap end_of same ∙ sym q.1.behind ∙ sym q.2
one_end d e x y s [] (n ∷ k ∷ ns) ms t u p q = absurd t.1
one_end d e x y s [] (n ∷ []) (m ∷ k ∷ ms) t u p q = absurd u.1
one_end d e x y s (r ∷ segments) (n ∷ ns) (m ∷ ms) t u p q = one_end p.0 q.0 x y r segments ns ms t.1 u.1 p.2 q.2

pub ends_once : EndsOnce
ends_once d e s segments x y p q = one_end d e x y s segments p.names q.names p.titles q.titles p.next q.next

zeros : (k : ℕ) → All (λ b. IsTrue (is_hex_digit b)) (replicate k 48)
zeros zero = All-nil (λ b'. IsTrue (is_hex_digit b'))
zeros (suc k) = All-cons (λ b'. IsTrue (is_hex_digit b')) 48 (replicate k 48) refl (zeros k)

-- what an end says is a digest
last_digest : (e : RunEnd) (segments : List Segment) (names : List SegmentName) (end : RunEnd) → IsDigest e.digest →
    AreTitles segments names → AreNext e names end → IsDigest end.digest
last_digest e [] [] end is h c = subst (λ (x : RunEnd). IsDigest x.digest) (sym c) is
last_digest e [] (n ∷ names) end is h c = absurd h
last_digest e (s ∷ segments) [] end is h c = absurd h
last_digest e (s ∷ segments) (n ∷ names) end is h c = last_digest c.0 segments names end
    (subst (λ (x : RunEnd). IsDigest x.digest) (sym c.1.behind) h.0.digest) h.1 c.2

pub end_digest : (segments : List Segment) (end : RunEnd) → AreBetween start_end segments end → IsDigest end.digest
end_digest segments end h = last_digest start_end segments h.names end
    (record { size = refl; digits = zeros 64 }) h.titles h.next
