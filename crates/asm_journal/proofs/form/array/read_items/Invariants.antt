use Rattle.std.specs.Prelude.{take}
use Rattle.serde_json.specs.View.{items_view}
use Rattle.asm_journal.specs.Shape.{AreForms}
use Rattle.asm_journal.proofs.form.array.read_items.Given as goal

abbrev pub invariant-loop-index : goal.invariant-loop-index
invariant-loop-index g l = AreForms g.T.FromJson.is_form l.found.items (items_view (take l.index l.items))
