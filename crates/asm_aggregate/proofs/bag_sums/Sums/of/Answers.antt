use Rattle.std.proofs.Common.{ap}
use Rattle.std.specs.Map.{lookup}
use Rattle.std.specs.BTreeMap.{is_at}
use Rattle.asm_aggregate.specs.Sums.{ref_cmp}
use Rattle.asm_aggregate.proofs.BagSums.{no_sums, sums_more}
use Rattle.asm_aggregate.proofs.bag_sums.Sums.of.Goals as goal

pub loop-action-init : goal.loop-action-init
loop-action-init c = no_sums _ (λ q. ap (lookup (is_at (ref_cmp q))) c.new-by_element.ensures.empty)

pub loop-action-preserved : goal.loop-action-preserved
loop-action-preserved c =
    sums_more _ _ _ _ _ (record { within = c.loop-action-test.true; read = c.action-item.is })
    c.in_ok-add_to.ensures c.loop-action.invariant
