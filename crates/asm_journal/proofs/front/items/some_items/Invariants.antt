use Rattle.std.proofs.Common.{length}
use Rattle.asm_journal.proofs.Compact.{AreRead}
use Rattle.asm_journal.proofs.front.items.some_items.Given as goal

abbrev pub invariant-items : goal.invariant-items
invariant-items g l = AreRead g.T.FromJson.is_form l.fn.text l.found.items l.rest

abbrev pub decreases-items : goal.decreases-items
decreases-items g l = length l.rest
