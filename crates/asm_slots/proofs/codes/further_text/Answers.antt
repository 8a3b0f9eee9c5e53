use Rattle.std.proofs.Common.{◌≡◌, ◌≤◌, ◌<◌, ◌-◌, ◌+◌, ℕ, ℤ, pos, negsuc, false, int_lt, codes, w32, of_z, arith, ap, refl, sym}
use Rattle.std.proofs.Math.Arith.{lt_of_le-ne}
use Rattle.std.proofs.lemmas.Bool.{ltb-false}
use Rattle.std.proofs.lemmas.List.{get_or_past}
use Rattle.asm_slots.specs.Codes.{further, further_texts, text_among}
use Rattle.asm_slots.proofs.codes.further_text.Goals as goal

-- the code is another number than this one
abbrev IsNot : ℤ → ℕ → Type 0
IsNot code k = of_z w32 code ≡ k → ⊥

next : (k n : ℕ) → k ≤ n → (n ≡ k → ⊥) → k + 1 ≤ n
next k n le other = let lt : k < n = lt_of_le-ne le (λ e. other (sym e)) in omega (arith, lt)

-- a code above these has no text
no_text : (code : ℤ) → int_lt code (pos 23) ≡ false → IsNot code 23 → IsNot code 24 → IsNot code 25 → IsNot code 26 →
    IsNot code 27 → IsNot code 28 → IsNot code 29 → IsNot code 30 → IsNot code 31 → IsNot code 32 → IsNot code 33 →
    IsNot code 34 → IsNot code 35 → IsNot code 36 → IsNot code 37 → IsNot code 38 → IsNot code 39 → IsNot code 40 →
    IsNot code 41 → IsNot code 42 → IsNot code 43 → IsNot code 44 → IsNot code 45 →
    codes "no code of this library" ≡ text_among further_texts (further code)
no_text (negsuc n) above n23 n24 n25 n26 n27 n28 n29 n30 n31 n32 n33 n34 n35 n36 n37 n38 n39 n40 n41 n42 n43 n44 n45
    = refl
no_text (pos n) above n23 n24 n25 n26 n27 n28 n29 n30 n31 n32 n33 n34 n35 n36 n37 n38 n39 n40 n41 n42 n43 n44 n45 =
    let from : 23 ≤ n = ltb-false n 23 above in
    let s24 : 24 ≤ n = next 23 n from (λ x. n23 (ap (λ q. of_z w32 (pos q)) x)) in
    let s25 : 25 ≤ n = next 24 n s24 (λ x. n24 (ap (λ q. of_z w32 (pos q)) x)) in
    let s26 : 26 ≤ n = next 25 n s25 (λ x. n25 (ap (λ q. of_z w32 (pos q)) x)) in
    let s27 : 27 ≤ n = next 26 n s26 (λ x. n26 (ap (λ q. of_z w32 (pos q)) x)) in
    let s28 : 28 ≤ n = next 27 n s27 (λ x. n27 (ap (λ q. of_z w32 (pos q)) x)) in
    let s29 : 29 ≤ n = next 28 n s28 (λ x. n28 (ap (λ q. of_z w32 (pos q)) x)) in
    let s30 : 30 ≤ n = next 29 n s29 (λ x. n29 (ap (λ q. of_z w32 (pos q)) x)) in
    let s31 : 31 ≤ n = next 30 n s30 (λ x. n30 (ap (λ q. of_z w32 (pos q)) x)) in
    let s32 : 32 ≤ n = next 31 n s31 (λ x. n31 (ap (λ q. of_z w32 (pos q)) x)) in
    let s33 : 33 ≤ n = next 32 n s32 (λ x. n32 (ap (λ q. of_z w32 (pos q)) x)) in
    let s34 : 34 ≤ n = next 33 n s33 (λ x. n33 (ap (λ q. of_z w32 (pos q)) x)) in
    let s35 : 35 ≤ n = next 34 n s34 (λ x. n34 (ap (λ q. of_z w32 (pos q)) x)) in
    let s36 : 36 ≤ n = next 35 n s35 (λ x. n35 (ap (λ q. of_z w32 (pos q)) x)) in
    let s37 : 37 ≤ n = next 36 n s36 (λ x. n36 (ap (λ q. of_z w32 (pos q)) x)) in
    let s38 : 38 ≤ n = next 37 n s37 (λ x. n37 (ap (λ q. of_z w32 (pos q)) x)) in
    let s39 : 39 ≤ n = next 38 n s38 (λ x. n38 (ap (λ q. of_z w32 (pos q)) x)) in
    let s40 : 40 ≤ n = next 39 n s39 (λ x. n39 (ap (λ q. of_z w32 (pos q)) x)) in
    let s41 : 41 ≤ n = next 40 n s40 (λ x. n40 (ap (λ q. of_z w32 (pos q)) x)) in
    let s42 : 42 ≤ n = next 41 n s41 (λ x. n41 (ap (λ q. of_z w32 (pos q)) x)) in
    let s43 : 43 ≤ n = next 42 n s42 (λ x. n42 (ap (λ q. of_z w32 (pos q)) x)) in
    let s44 : 44 ≤ n = next 43 n s43 (λ x. n43 (ap (λ q. of_z w32 (pos q)) x)) in
    let s45 : 45 ≤ n = next 44 n s44 (λ x. n44 (ap (λ q. of_z w32 (pos q)) x)) in
    let s46 : 46 ≤ n = next 45 n s45 (λ x. n45 (ap (λ q. of_z w32 (pos q)) x)) in
    let past : 23 ≤ n - 23 = omega (arith, s46) in
    sym (get_or_past further_texts (n - 23) (codes "no code of this library") past)

pub returns-in_default : goal.returns-in_default
returns-in_default c =
    let r = c.in_default.in_default-own.rest in
    no_text c.args.code c.requires r.0.0.0.0.0.0.0.0.0.0.0.0.0.0.0.0.0.0.0.0.0.0.1
    r.0.0.0.0.0.0.0.0.0.0.0.0.0.0.0.0.0.0.0.0.0.1 r.0.0.0.0.0.0.0.0.0.0.0.0.0.0.0.0.0.0.0.0.1
    r.0.0.0.0.0.0.0.0.0.0.0.0.0.0.0.0.0.0.0.1 r.0.0.0.0.0.0.0.0.0.0.0.0.0.0.0.0.0.0.1
    r.0.0.0.0.0.0.0.0.0.0.0.0.0.0.0.0.0.1 r.0.0.0.0.0.0.0.0.0.0.0.0.0.0.0.0.1 r.0.0.0.0.0.0.0.0.0.0.0.0.0.0.0.1
    r.0.0.0.0.0.0.0.0.0.0.0.0.0.0.1 r.0.0.0.0.0.0.0.0.0.0.0.0.0.1 r.0.0.0.0.0.0.0.0.0.0.0.0.1 r.0.0.0.0.0.0.0.0.0.0.0.1
    r.0.0.0.0.0.0.0.0.0.0.1 r.0.0.0.0.0.0.0.0.0.1 r.0.0.0.0.0.0.0.0.1 r.0.0.0.0.0.0.0.1 r.0.0.0.0.0.0.1 r.0.0.0.0.0.1
    r.0.0.0.0.1 r.0.0.0.1 r.0.0.1 r.0.1 r.1
