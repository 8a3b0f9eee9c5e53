use Rattle.std.proofs.Common.{◌≡◌, List, ℕ, [], ◌∷◌, ◌++◌, length, subst, sym, ap, ◌∙◌, arith}
use Rattle.asm_element.specs.declared.element.Element.{Element}
use Rattle.asm_element.specs.Chunks.{there, AreChunks}
use Rattle.asm_element.proofs.Trees.{there_one, chunks_one}
use Rattle.asm_element.proofs.chunks.Chunks.of.Goals as goal

pub invariant_of-result : goal.invariant_of-result
invariant_of-result g c =
    let es : List (Element × ℕ) = c.args.pairs.items in
    let is : c.push.new.self.items ≡ es ∷ [] = c.in_ok-push.ensures.items ∙ (λ i. c.new-chunks.ensures.items i ++ c.in_ok-of.ensures i ∷ []) in
    subst (λ (cs : List (List (Element × ℕ))). AreChunks cs × (c.len-len.result ≡ length (there cs))) (sym is)
    (chunks_one es c.requires.ascending (omega (arith, c.requires.some)), omega (arith, c.len-len.ensures, ap length (there_one es c.requires.positive)))

pub returns : goal.returns
returns g c =
    let es : List (Element × ℕ) = c.args.pairs.items in
    let is : c.push.new.self.items ≡ es ∷ [] = c.in_ok-push.ensures.items ∙ (λ i. c.new-chunks.ensures.items i ++ c.in_ok-of.ensures i ∷ []) in
    ap there is ∙ there_one es c.requires.positive
