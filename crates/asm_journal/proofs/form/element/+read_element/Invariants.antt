use Rattle.std.proofs.Common.{suc}
use Rattle.std.specs.Prelude.{take}
use Rattle.serde_json.specs.Data.{depth, items_depth}
use Rattle.serde_json.specs.View.{view, items_view}
use Rattle.asm_journal.specs.Element.{IsElementForm}
use Rattle.asm_journal.specs.Shape.{AreForms}
use Rattle.asm_journal.proofs.form.element.+read_element.Given as goal

-- how deep the value nests
abbrev pub decreases-read_element : goal.decreases-read_element
decreases-read_element l = depth (view l.json.now)

abbrev pub decreases-read_list : goal.decreases-read_list
decreases-read_list l = suc (items_depth (items_view l.items.now))

-- the elements so far
abbrev pub invariant-read_list-loop-index : goal.invariant-read_list-loop-index
invariant-read_list-loop-index l = AreForms IsElementForm l.found.items (items_view (take l.index l.items))
