use Rattle.asm_aggregate.proofs.BagSteps.{named_both}
use Rattle.asm_aggregate.proofs.bag_agg.named_by.Goals as goal

pub returns : goal.returns
returns c =
    named_both _ _ _ c.args.first.now c.args.second.now c.new-elements.ensures c.in_ok-note_elements.ensures
    c.in_ok-note_elements-2.ensures
