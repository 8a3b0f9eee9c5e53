use Rattle.std.specs.Prelude.{take}
use Rattle.serde_json.specs.View.{items_view}
use Rattle.asm_journal.specs.Shape.{AreForms}
use Rattle.asm_slots.specs.AgentAnswers.{IsScanForm}
use Rattle.asm_slots.proofs.reading_scans.read_each.Given as goal

abbrev pub invariant-loop-item : goal.invariant-loop-item
invariant-loop-item l = AreForms IsScanForm l.found.items (items_view (take l.item-index l.items))
