use Rattle.std.proofs.Common.{◌≡◌, ◌++◌, List, vec_len}
use Rattle.asm_element.specs.declared.element.Element.{Element}
use Rattle.asm_journal.specs.Set.{IsSetOf}
use Rattle.asm_journal.proofs.form.set.set_of.Given as goal

abbrev pub decreases-loop-element : goal.decreases-loop-element
decreases-loop-element l = vec_len l.elements

-- the set is that of the last elements
abbrev pub invariant-loop-element : goal.invariant-loop-element
invariant-loop-element l = record {
  done : List Element;
  whole : l.elements.items ++ done ≡ l.fn.elements.items;
  made : IsSetOf l.set done;
}
