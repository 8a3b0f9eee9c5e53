use Rattle.std.proofs.Common.{subst}
use Rattle.asm_storage.specs.Calls.{IsFire}
use Rattle.asm_storage.specs.Part.{agent_of}
use Rattle.asm_storage.specs.Storage.{AgentAt}
use Rattle.asm_storage.proofs.Scanning.{no_scans}
use Rattle.asm_storage.proofs.agent.Agent.try_fire_shared_with.Goals as goal

pub returns-clause-fire : goal.returns-clause-fire
returns-clause-fire g c =
    let meaning = g.A.Aggregator.meaning in
    let reads = c.args.reads.now in
    let instrs = c.args.instrs.now in
    let before = agent_of c.self.inside.storage.now c.self.inside.part in
    let after = agent_of c.self.inside.storage.now c.try_fire_over.new.self in
    subst (λ (a : AgentAt g.row.A.Denot). IsFire meaning a after reads instrs c.try_fire_over.result) c.self.view_is
    (no_scans meaning before after reads instrs c.try_fire_over.result c.try_fire_over.ensures.fire)
