use Rattle.asm_trace.proofs.Making.{differing_is}
use Rattle.asm_trace.proofs.bags.differing_elements.Goals as goal

pub returns : goal.returns
returns c =
    differing_is c.args.old.now c.args.new.now c.new-set.result c.note_all.new.set c.note_all-2.new.set c.new-set.ensures
    c.in_ok-note_all.ensures c.in_ok-note_all-2.ensures
