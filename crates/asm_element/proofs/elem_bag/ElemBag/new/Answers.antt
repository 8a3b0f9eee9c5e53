use Rattle.std.proofs.Common.{◌≡◌, ◌≤◌, ◌<◌, List, All, ℕ, ap, sym, subst, ◌∙◌, arith}
use Rattle.std.specs.FinMap as map
use Rattle.std.specs.Map.{keys_of, values_of}
use Rattle.std.specs.List.Sorted.{IsStrictlySortedBy}
use Rattle.asm_element.specs.declared.element.Element.{Element}
use Rattle.asm_element.specs.Element.{element_cmp, element_cmp_total, IsProper}
use Rattle.asm_element.specs.Tests.{on_err}
use Rattle.asm_element.specs.Bag as bag
use Rattle.std.proofs.lemmas.List.Elements.{All-nil}
use Rattle.asm_element.proofs.Edits.{none_sorted}
use Rattle.asm_element.proofs.elem_bag.ElemBag.new.Goals as goal

pub invariant_of-result : goal.invariant_of-result
invariant_of-result c =
    subst (λ (es : List (Element × ℕ)). bag.AreBagEntries es) (sym c.new.ensures) (record { ordered = none_sorted; elements = All-nil IsProper; counts = All-nil bag.IsCount })
