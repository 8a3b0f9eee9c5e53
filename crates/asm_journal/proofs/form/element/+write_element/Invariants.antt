use Rattle.std.proofs.Common.{◌≡◌, map}
use Rattle.std.specs.Prelude.{take}
use Rattle.serde_json.specs.View.{view}
use Rattle.asm_element.specs.Datum.{depth}
use Rattle.asm_element.specs.View.{datum}
use Rattle.asm_journal.specs.Element.{element_json_of}
use Rattle.asm_journal.proofs.form.element.+write_element.Given as goal

-- how deep lists nest in the element
abbrev pub decreases-write_element : goal.decreases-write_element
decreases-write_element l = depth (datum l.element.now)

-- the items so far
abbrev pub invariant-loop-item : goal.invariant-loop-item
invariant-loop-item l = map view l.items.items ≡ map element_json_of (take l.item-index l.item-items)
