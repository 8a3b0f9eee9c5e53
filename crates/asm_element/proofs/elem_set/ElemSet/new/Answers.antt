use Rattle.std.proofs.Common.{◌≡◌, List, All, ℕ, ap, sym, subst, ◌∙◌, not}
use Rattle.std.specs.Prelude.{is_some}
use Rattle.std.specs.Map.{keys_of}
use Rattle.std.specs.List.Sorted.{IsStrictlySortedBy}
use Rattle.asm_element.specs.declared.element.Element.{Element}
use Rattle.asm_element.specs.Element.{element_cmp, IsProper}
use Rattle.asm_element.specs.Tests.{on_err}
use Rattle.asm_element.specs.Set as set
use Rattle.std.proofs.lemmas.List.Elements.{All-nil}
use Rattle.asm_element.proofs.Edits.{none_sorted}
use Rattle.asm_element.proofs.elem_set.ElemSet.new.Goals as goal

pub invariant_of-result : goal.invariant_of-result
invariant_of-result c =
    subst (λ (es : List (Element × ℕ)). IsStrictlySortedBy element_cmp (keys_of es) × All IsProper (keys_of es)) (sym c.new.ensures) (none_sorted, All-nil IsProper)
