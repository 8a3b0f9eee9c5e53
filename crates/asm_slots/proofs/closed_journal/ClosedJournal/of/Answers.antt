use Rattle.std.proofs.Common.{◌∙◌}
use Rattle.asm_aggregate.specs.Standard.{standard_meaning}
use Rattle.asm_slots.proofs.NextStorages.{leaves}
use Rattle.asm_slots.proofs.closed_journal.ClosedJournal.of.Goals as goal

pub invariant_of-result : goal.invariant_of-result
unfolding standard_meaning
invariant_of-result c =
    let h = c.args.closing.now in
    leaves _ _ h c.in_ok-text.ensures (c.text_reads_back.ensures h c.requires.proper c.requires)
    (c.in_ok-left-2.ensures.ok ∙ c.in_ok-left.ensures)
