-- A text in pieces.
use Rattle.std.proofs.Common.{◌≡◌, ℕ, ◌-◌, ◌==◌, true, List, [], ◌++◌, take, drop, length, Option, sym, ap, subst, ◌∙◌}
use Rattle.std.proofs.Common.{append_assoc, append-nil, take-append-drop, arith}
use Rattle.std.proofs.KnownBytes.{Appends-kept}
use Rattle.std.specs.Prelude.{Result, Ok, Err, OnOk}
use Rattle.std.proofs.Math.Seq.{take-append_seam}
use Rattle.std.specs.Io.KnownBytes.{Appends, Keeps}
use Rattle.std.proofs.lemmas.Grind.{common_steps}

pub drop_whole : (n : ℕ) (s : List ℕ) → take (length s - n) (drop n s) ≡ drop n s
drop_whole n s = grind (arith, common_steps)

-- the piece moves from what is left to what is done
pub moved : (n : ℕ) (text done rest : List ℕ) → text ≡ done ++ rest →
    text ≡ (done ++ take n rest) ++ take (length rest - n) (drop n rest)
moved n text done rest e =
    e ∙ ap (λ l. done ++ l) (sym (take-append-drop n rest)) ∙ sym (append_assoc done (take n rest) (drop n rest))
    ∙ ap (λ l. (done ++ take n rest) ++ l) (sym (drop_whole n rest))

-- nothing is left, and the flush retained what had gone out
pub whole_out : (a b c : Option (List ℕ)) (text done rest : List ℕ) → text ≡ done ++ rest → rest ≡ [] →
    Appends a b done → Keeps b c → Appends a c text
whole_out a b c text done rest e nil p q =
    subst (Appends a c) (sym (e ∙ ap (λ l. done ++ l) nil ∙ append-nil done)) (Appends-kept a b c done p q)

pub nothing_left : (s : List ℕ) → true ≡ (length s == 0) → s ≡ []
nothing_left s e = grind (arith, common_steps)

-- what had gone out is a beginning of the text
pub some_out : (a b c : Option (List ℕ)) (text done rest : List ℕ) → text ≡ done ++ rest → Appends a b done →
    Keeps b c → (n : ℕ) × Appends a c (take n text)
some_out a b c text done rest e p q =
    let front : take (length done) text ≡ done = ap (take (length done)) e ∙ take-append_seam done rest in
    (length done, subst (Appends a c) (sym front) (Appends-kept a b c done p q))

-- what holds in any case holds without an error
pub on_ok : {T E P : Type 0} (r : Result T E) → P → OnOk r P
on_ok (Ok x) p = p
on_ok (Err e) p = tt
