use Rattle.asm_element.specs.declared.element.Element.{Element}
use Rattle.std.proofs.Common.{◌≡◌, List, ℕ, length, subst, sym, refl}
use Rattle.asm_element.specs.Chunks.{there, AreChunks}
use Rattle.asm_element.proofs.Edits.{empty_chunks}
use Rattle.asm_element.proofs.chunks.Chunks.new.Goals as goal

pub invariant_of-result : goal.invariant_of-result
invariant_of-result g c =
    subst (λ (xs : List (List (Element × ℕ))). AreChunks xs × (0 ≡ length (there xs))) (sym c.new.ensures.items) (empty_chunks, refl)
