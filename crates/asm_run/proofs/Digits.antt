-- The hexadecimal digits of bytes.
use Rattle.std.proofs.Common.{◌≡◌, ⊎_elim, Bool, true, ◌&&◌, ℕ, zero, suc, ◌*◌, ◌/◌, ◌%◌, ◌<◌, ◌^◌, List, [], ◌∷◌}
use Rattle.std.proofs.Common.{◌++◌, refl, ap, ◌∙◌, subst, arith}
use Rattle.std.specs.Prelude.{slice_index, All, IsTrue}
use Rattle.std.proofs.lemmas.Bool.{and_parts, cases_lt}
use Rattle.std.proofs.lemmas.List.Elements.{All-cons, All-nil}
use Rattle.hex.specs.Hex.{encode_with, lower_digits}
use Rattle.hex.proofs.HexLemmas.{length-encode_with}
use Rattle.std.specs.Int.{byte_at, bytes_high_first, to_be_bytes, byte_len, w32}
use Rattle.sha2.specs.Sha256.{sha256, digest_bytes, final_hash, initial_hash_256}
use Rattle.sha2.proofs.Facts256.{length-sha256}
use Rattle.asm_run.specs.Chain.{hex_digest}
use Rattle.asm_run.specs.Name.{is_hex_digit, IsDigest}

abbrev first_are : ℕ → Bool
first_are zero = true
first_are (suc n) = is_hex_digit (slice_index lower_digits n) && first_are n

one_is : (n k : ℕ) → first_are n ≡ true → k < n → is_hex_digit (slice_index lower_digits k) ≡ true
one_is zero k h lt = absurd (omega arith)
one_is (suc n) k h lt =
    let parts = and_parts (is_hex_digit (slice_index lower_digits n)) (first_are n) h in
    ⊎_elim (λ below. one_is n k parts.1 below) (λ top. subst (λ m. is_hex_digit (slice_index lower_digits m) ≡ true)
    (let e : n ≡ k = omega arith in e) parts.0) (cases_lt k n)

digit_is : (k : ℕ) → k < 16 → IsTrue (is_hex_digit (slice_index lower_digits k))
digit_is k lt = one_is 16 k refl lt

abbrev pub AreBytes : List ℕ → Type 0
AreBytes [] = Unit {0}
AreBytes (b ∷ bytes) = (b < 256) × AreBytes bytes

all_digits : (bytes : List ℕ) → AreBytes bytes → All (λ b. IsTrue (is_hex_digit b)) (encode_with lower_digits bytes)
unfolding encode_with
all_digits [] h = All-nil (λ b'. IsTrue (is_hex_digit b'))
all_digits (b ∷ bytes) h =
    let high : b / 16 < 16 = (let lt = h.0 in omega arith) in
    let low : b % 16 < 16 = omega arith in
    All-cons (λ b'. IsTrue (is_hex_digit b')) (slice_index lower_digits (b / 16))
    (slice_index lower_digits (b % 16) ∷ encode_with lower_digits bytes) (digit_is (b / 16) high)
    (All-cons (λ b'. IsTrue (is_hex_digit b')) (slice_index lower_digits (b % 16)) (encode_with lower_digits bytes)
    (digit_is (b % 16) low) (all_digits bytes h.1))

both_bytes : (xs ys : List ℕ) → AreBytes xs → AreBytes ys → AreBytes (xs ++ ys)
both_bytes [] ys p q = q
both_bytes (x ∷ xs) ys p q = (p.0, both_bytes xs ys p.1 q)

byte_small : (k n : ℕ) → byte_at k n < 256
byte_small zero n = omega arith
byte_small (suc k) n = let q = n / 256 ^ suc k in let lt : q % 256 < 256 = omega arith in lt

word_bytes : (k n : ℕ) → AreBytes (bytes_high_first k n)
word_bytes zero n = tt
word_bytes (suc k) n = (byte_small k n, word_bytes k n)

hash_bytes : (h : List ℕ) (n : ℕ) → AreBytes (digest_bytes h n)
unfolding digest_bytes
hash_bytes h zero = tt
hash_bytes h (suc n) = both_bytes (digest_bytes h n) (to_be_bytes w32 (slice_index h n)) (hash_bytes h n)
    (word_bytes (byte_len w32) (slice_index h n))

sha256_bytes : (m : List ℕ) → AreBytes (sha256 m)
unfolding sha256
sha256_bytes m = hash_bytes (final_hash initial_hash_256 m) 8

pub is_digest : (m : List ℕ) → IsDigest (hex_digest m)
is_digest m = record {
  size = length-encode_with lower_digits (sha256 m) ∙ ap (λ n. 2 * n) (length-sha256 m);
  digits = all_digits (sha256 m) (sha256_bytes m);
}
