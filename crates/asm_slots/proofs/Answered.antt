-- What a call answers, by what it does.
use Rattle.std.proofs.Common.{◌≡◌, ◌≢◌, ◌∙◌, ℤ, Result, Ok, Err, OnErr, inl, inr, of_z, refl, to_z, w32}
use Rattle.std.proofs.Math.Facts.{to_z-of_z}
use Rattle.std.specs.Prelude.{FitsSigned, MatchResult}
use Rattle.asm_slots.specs.Codes.{ASM_DONE, Answers, Replies, answer_of, number_of}
use Rattle.asm_slots.specs.declared.codes.Code.{Code}

pub answered : (D : Type 0) (R : Code → Type 0) (r : Result (Unit {0}) Code) (n : ℤ) → n ≡ answer_of r → FitsSigned w32 n →
    MatchResult r (λ done. D) R → Answers (to_z w32 (of_z w32 n)) D R
answered D R (Ok x) n is fits done = inl (to_z-of_z {w = w32} fits ∙ is, done)
answered D R (Err c) n is fits none = inr (c, to_z-of_z {w = w32} fits ∙ is, none)

pub unanswered : (P : Type 0) (r : Result (Unit {0}) Code) (n : ℤ) → n ≡ answer_of r → FitsSigned w32 n → OnErr r P →
    to_z w32 (of_z w32 n) ≢ ASM_DONE → P
unanswered P (Ok x) n is fits kept other = absurd (other (to_z-of_z {w = w32} fits ∙ is))
unanswered P (Err c) n is fits kept other = kept

pub refused : (D : Type 0) (R : Code → Type 0) (c : Code) (n : ℤ) → n ≡ number_of c → FitsSigned w32 n → R c →
    Answers (to_z w32 (of_z w32 n)) D R
refused D R c n is fits none = inr (c, to_z-of_z {w = w32} fits ∙ is, none)

pub done : (D : Type 0) (R : Code → Type 0) → D → Answers ASM_DONE D R
done D R is = inl (refl, is)

pub replied : (P : Result (Unit {0}) Code → Type 0) (r : Result (Unit {0}) Code) (n : ℤ) → n ≡ answer_of r → FitsSigned w32 n → P r →
    Replies (to_z w32 (of_z w32 n)) P
replied P r n is fits holds = (r, to_z-of_z {w = w32} fits ∙ is, holds)

pub ruleset answers = (answered, unanswered, refused, done, replied)
