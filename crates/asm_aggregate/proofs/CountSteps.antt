-- A sum of increments, one step of a loop at a time.
use Rattle.std.proofs.Common.{◌≡◌, ℕ, ◌+◌, ◌*◌, ◌≤◌, ℤ, pos, ◌+ℤ◌, ◌≤ℤ◌, neg_ℤ, List, [], ◌∷◌, ◌++◌, length, take}
use Rattle.std.proofs.Common.{sym, ap, ◌∙◌, arith}
use Rattle.std.specs.Prelude.{FitsSigned}
use Rattle.std.specs.Int.{w64}
use Rattle.std.proofs.lemmas.Int.{ints}
use Rattle.std.proofs.lemmas.List.{take_more, take_all}
use Rattle.asm_update.specs.declared.action.Action.{Action}
use Rattle.asm_aggregate.specs.CountMeaning.{increment, total}
use Rattle.asm_aggregate.proofs.SetSteps.{IsItem}

-- the sum of the first actions of a list, each of which adds a number in the range of i64
pub record Counted (xs : List Action) (i : ℕ) (sum : ℤ) : Type 0 where
  pub is : sum ≡ total (take i xs)
  pub below : sum ≤ℤ pos (i * 9223372036854775808)
  pub above : neg_ℤ (pos (i * 9223372036854775808)) ≤ℤ sum

total-append : (xs ys : List Action) → total (xs ++ ys) ≡ total xs +ℤ total ys
total-append [] ys = omega (arith, ints)
total-append (x ∷ xs) ys = let rest = total-append xs ys in omega (arith, ints, rest)

total_more : (xs : List Action) (i : ℕ) (x : Action) → IsItem xs i x →
    total (take (i + 1) xs) ≡ total (take i xs) +ℤ increment x
total_more xs i x item =
    let one : increment x +ℤ pos 0 ≡ increment x = omega (arith, ints) in
    ap total (take_more xs i x item.within ∙ ap (λ y. take i xs ++ y ∷ []) (sym item.read))
    ∙ total-append (take i xs) (x ∷ []) ∙ ap (λ n. total (take i xs) +ℤ n) one

pub counted_more : (xs : List Action) (i : ℕ) (x : Action) (sum n new : ℤ) → IsItem xs i x → n ≡ increment x →
    FitsSigned w64 n → new ≡ sum +ℤ n → Counted xs i sum → Counted xs (i + 1) new
counted_more xs i x sum n new item got fits step had =
    let more = total_more xs i x item in
    let is = had.is in
    let below = had.below in
    let above = had.above in
    record {
      is = step ∙ (λ k. is k +ℤ got k) ∙ sym more;
      below = omega (arith, ints, below, fits, step);
      above = omega (arith, ints, above, fits, step);
    }

pub counted_all : (xs : List Action) (i : ℕ) (sum : ℤ) → length xs ≤ i → Counted xs i sum → sum ≡ total xs
counted_all xs i sum whole had = had.is ∙ ap total (take_all i xs whole)
