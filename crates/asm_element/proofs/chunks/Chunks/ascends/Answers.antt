use Rattle.asm_element.specs.declared.element.Element.{Element}
use Rattle.std.proofs.Common.{◌≡◌, List, ℕ, subst, sym}
use Rattle.std.specs.Map.{keys_of}
use Rattle.asm_element.specs.Element.{element_cmp}
use Rattle.std.specs.List.Sorted.{IsStrictlySortedBy}
use Rattle.asm_element.specs.Slots.{joined}
use Rattle.asm_element.proofs.Order.{sorted_live}
use Rattle.asm_element.proofs.chunks.Chunks.ascends.Goals as goal

pub returns : goal.returns
returns g c =
    subst (λ (es : List (Element × ℕ)). IsStrictlySortedBy element_cmp (keys_of es)) c.self.view_is (sorted_live element_cmp (joined c.self.inside.chunks.items) c.self.invariant.0.ordered)
