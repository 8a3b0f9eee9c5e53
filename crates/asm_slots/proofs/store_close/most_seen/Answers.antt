use Rattle.std.proofs.Common.{arith}
use Rattle.asm_storage.proofs.Accounts.{most_more, ord_max_is}
use Rattle.asm_slots.proofs.store_close.most_seen.Goals as goal

pub loop-agent-preserved : goal.loop-agent-preserved
loop-agent-preserved c =
    omega (arith, most_more c.args.agents.now c.loop-agent.agent-index c.agent-item.result c.loop-agent-test.true c.agent-item.is, c.max-seen.ensures, ord_max_is c.loop-agent.seen c.seen.result, c.loop-agent.invariant, c.seen.ensures)
