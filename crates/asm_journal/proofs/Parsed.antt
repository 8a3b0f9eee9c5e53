-- What reading said, by what it answered.
use Rattle.std.proofs.Common.{◌≡◌, Bool, false, Option, Some, None, sym, subst, ◌∙◌, true≢false}
use Rattle.std.specs.Prelude.{IsTrue, IfSome}
use Rattle.asm_journal.specs.Shape.{IsParsed}

pub IsParsed-some : {X J : Type 0} (F : X → J → Type 0) (d : J) (o : Option X) (x : X) → o ≡ Some x → IsParsed F d o → F x d
IsParsed-some F d o x e h = subst (IsParsed F d) e h

pub IsParsed-none : {X J : Type 0} (F : X → J → Type 0) (d : J) (o : Option X) → o ≡ None → IsParsed F d o → (x : X) → F x d → ⊥
IsParsed-none F d o e h = subst (IsParsed F d) e h

pub parsed_some : {X J : Type 0} (F : X → J → Type 0) (d : J) (o : Option X) → IsParsed F d o → IfSome o (λ x. F x d)
parsed_some F d None h = tt
parsed_some F d (Some x) h = h

-- no test is both met and unmet
pub true_and_false : (b : Bool) → IsTrue b → b ≡ false → ⊥
true_and_false b met unmet = true≢false (sym met ∙ unmet)
