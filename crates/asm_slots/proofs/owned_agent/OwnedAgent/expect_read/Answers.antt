use Rattle.asm_slots.proofs.ShortLines.{looked_own}
use Rattle.asm_slots.proofs.owned_agent.OwnedAgent.expect_read.Goals as goal

pub returns : goal.returns
returns g c =
    looked_own c.args.self.now c.state.result.now _ c.expect_read.result c.state.ensures.following c.state.ensures.number c.expect_read.ensures
