use Rattle.std.proofs.Common.{◌+◌, ◌*◌, length}
use Rattle.asm_journal.specs.Element.{IsElementForm}
use Rattle.asm_journal.proofs.Compact.{AreRead}
use Rattle.asm_journal.proofs.front.element.+front_element.Given as goal

abbrev pub decreases-front_element : goal.decreases-front_element
decreases-front_element l = 4 * l.levels

abbrev pub decreases-front_list : goal.decreases-front_list
decreases-front_list l = 4 * l.levels + 3

abbrev pub decreases-some_elements : goal.decreases-some_elements
decreases-some_elements l = 4 * l.levels + 1

abbrev pub invariant-some_elements-items : goal.invariant-some_elements-items
invariant-some_elements-items l = AreRead IsElementForm l.fn.text l.found.items l.rest

abbrev pub decreases-some_elements-items : goal.decreases-some_elements-items
decreases-some_elements-items l = length l.rest

abbrev pub decreases-first_elements : goal.decreases-first_elements
decreases-first_elements l = 4 * l.levels + 2
