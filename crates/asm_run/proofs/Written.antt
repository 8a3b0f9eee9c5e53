-- The name that is written.
use Rattle.std.proofs.Common.{◌≡◌, ℕ, zero, suc, ◌+◌, ◌-◌, ◌<◌, ◌≤◌, ◌^◌, List, ◌∷◌, ◌++◌, length, take, drop}
use Rattle.std.proofs.Common.{replicate, refl, sym, ap, ◌∙◌, subst, arith, lit<, length-append, append_assoc, take_at}
use Rattle.std.proofs.Common.{drop_at, Some, None, cond}
use Rattle.std.specs.Prelude.{decimal}
use Rattle.std.specs.Str.Parse.{AllDigits, digits_value}
use Rattle.std.proofs.lemmas.Fmt.{decimal_is_IsNumeral, length-decimal-le}
use Rattle.std.proofs.lemmas.List.{length-replicate}
use Rattle.std.proofs.lemmas.Slice.Eq.{bytes_eq-Decides}
use Rattle.asm_run.specs.declared.name.SegmentName.{SegmentName}
use Rattle.asm_run.specs.Name.{IsEight, IsDigest, IsName, number_in, name_text, from_first}
use Rattle.asm_run.proofs.Cuts.{journal}

zeros_digits : (k : ℕ) (ds : List ℕ) → AllDigits 10 ds → AllDigits 10 (replicate k 48 ++ ds)
zeros_digits zero ds h = h
zeros_digits (suc k) ds h = (lit< tt, zeros_digits k ds h)

zeros_value : (k : ℕ) (ds : List ℕ) → digits_value 10 (replicate k 48 ++ ds) ≡ digits_value 10 ds
zeros_value zero ds = refl
zeros_value (suc k) ds = zeros_value k ds

restored : (k : ℕ) → k ≤ 8 → 8 - k + k ≡ 8
restored k h = omega arith

pub eight_written : (n : ℕ) → n < 100000000 → IsEight n (replicate (8 - length (decimal n)) 48 ++ decimal n)
eight_written n lt =
    let small : n < 2 ^ 64 = omega arith in
    let numeral = decimal_is_IsNumeral n small in
    let short : length (decimal n) ≤ 8 = length-decimal-le 8 n (lit< tt)
    (let at : n < 10 ^ 8 = omega arith in at) small in
    record {
      eight = length-append (replicate (8 - length (decimal n)) 48) (decimal n) ∙
          ap (λ k. k + length (decimal n)) (length-replicate (8 - length (decimal n)) 48) ∙
          restored (length (decimal n)) short;
      digits = zeros_digits (8 - length (decimal n)) (decimal n) numeral.0.1;
      number = zeros_value (8 - length (decimal n)) (decimal n) ∙ numeral.1;
    }

pub number_at : (text : List ℕ) (n : SegmentName) → IsName text n → number_in text ≡ Some n.number
unfolding number_in
number_at text n is =
    let front =
    is.front ++
    (45 ∷ (decimal n.first ++ (45 ∷ (decimal n.moves ++
    (45 ∷ (decimal n.events ++ (45 ∷ (n.previous ++ (45 ∷ n.digest))))))))) in
    let split : front ++ journal ≡ is.front ++ (45 ∷ from_first n) = simp append_assoc in
    let all : text ≡ front ++ journal = is.all ∙ sym split in
    let long : length (front ++ journal) ≡ length front + 8 = length-append front journal in
    let end : drop (length text - 8) text ≡ journal = subst (λ (t : List ℕ). drop (length t - 8) t ≡ journal)
    (sym all) (drop_at front journal (length (front ++ journal) - 8) (omega arith)) in
    let begin : take 8 text ≡ is.front = subst (λ (t : List ℕ). take 8 t ≡ is.front) (sym is.all)
    (take_at is.front (45 ∷ from_first n) 8 is.number.eight) in
    ap (λ b. cond b (Some (digits_value 10 (take 8 text))) None)
    ((bytes_eq-Decides (drop (length text - 8) text) journal).1 end) ∙
    ap Some (ap (digits_value 10) begin ∙ is.number.number)

-- the name that is written is one
pub name_written : (n : SegmentName) → n.number < 100000000 → IsDigest n.previous → IsDigest n.digest →
    IsName (name_text n) n
name_written n small previous digest = record {
  front = replicate (8 - length (decimal n.number)) 48 ++ decimal n.number;
  number = eight_written n.number small;
  previous = previous;
  digest = digest;
  all = refl;
}
