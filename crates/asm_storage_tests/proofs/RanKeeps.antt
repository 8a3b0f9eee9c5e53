-- A closure that is called several times keeps what each call keeps.
use Rattle.std.proofs.Common.{◌≡◌, ◌∙◌, ℕ, zero, suc, refl, subst}
use Rattle.asm_storage.specs.Calls.{Ran}

-- what each call keeps, all calls keep, and the name that none of them changes
pub ran_keeps : {F X : Type 0} (step : F → F → Type 0) (P : F → Type 0) (name : F → X)
    → ((f g : F) → step f g → P f → P g × (name g ≡ name f))
    → (f : F) (n : ℕ) (g : F) → Ran step f n g → P f → P g × (name g ≡ name f)
ran_keeps step P name keeps f zero g same p = subst (λ h. P h × (name h ≡ name f)) same (p, refl)
ran_keeps step P name keeps f (suc n) g ran p =
    let here = keeps f ran.0 ran.1 p in
    let rest = ran_keeps step P name keeps ran.0 n g ran.2 here.0 in
    (rest.0, rest.1 ∙ here.1)
