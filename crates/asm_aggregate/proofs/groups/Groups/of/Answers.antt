use Rattle.std.proofs.Common.{take, subst}
use Rattle.asm_update.specs.Move.{Move}
use Rattle.asm_aggregate.specs.Bundle.{AreGroups}
use Rattle.asm_aggregate.proofs.Grouped.{none_grouped, taken_more}
use Rattle.asm_aggregate.proofs.groups.Groups.of.Goals as goal

pub loop-i-init : goal.loop-i-init
loop-i-init c = none_grouped c.new-groups.result c.new-groups.ensures

pub loop-i-preserved : goal.loop-i-preserved
loop-i-preserved c =
    subst (λ (M : Move). AreGroups M c.add.new.self)
    (taken_more c.args.instructions.now c.loop-i.i c.get.result.now c.get.ensures)
    (c.in_ok-add.ensures (take c.loop-i.i c.args.instructions.now) c.loop-i.invariant)
