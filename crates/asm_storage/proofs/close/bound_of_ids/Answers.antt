use Rattle.std.proofs.Common.{arith, ◌+◌}
use Rattle.asm_storage.proofs.Accounts.{id_bound_more, ord_max_is}
use Rattle.asm_storage.proofs.close.bound_of_ids.Goals as goal

pub loop-agent-preserved : goal.loop-agent-preserved
loop-agent-preserved g c =
    omega (arith, id_bound_more c.args.agents.now c.loop-agent.agent-index c.agent-item.result c.loop-agent-test.true c.agent-item.is, c.max-bound.ensures, ord_max_is c.loop-agent.bound (c.id.result + 1), c.loop-agent.invariant, c.id.ensures.id)
