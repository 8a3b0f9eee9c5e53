use Rattle.std.proofs.Common.{sym, ap, map, take, ◌∙◌}
use Rattle.std.proofs.lemmas.List.{take_all}
use Rattle.asm_aggregate.specs.Bundle.{bundle_of}
use Rattle.asm_aggregate.specs.Stretch.{referred}
use Rattle.asm_aggregate.proofs.Arranged.{actions_more}
use Rattle.asm_aggregate.proofs.groups.Bundle.of.Goals as goal

pub loop-instruction-preserved : goal.loop-instruction-preserved
loop-instruction-preserved c =
    c.in_ok-add.ensures (map (λ i. i.action) (referred (take c.loop-instruction.instruction-index c.args.instructions.now)))
    c.loop-instruction.invariant
    ∙ ap bundle_of (sym (actions_more c.args.instructions.now c.loop-instruction.instruction-index
    c.instruction-item.result c.loop-instruction-test.true c.instruction-item.is))

pub returns : goal.returns
returns c =
    c.loop-instruction.invariant
    ∙ ap (λ rs. bundle_of (map (λ i. i.action) (referred rs)))
    (take_all c.loop-instruction.instruction-index c.args.instructions.now c.loop-instruction-test.false)
