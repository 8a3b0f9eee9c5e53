use Rattle.asm_storage.proofs.Scanning.{no_scans}
use Rattle.asm_storage.proofs.agent.Agent.try_fire_with.Goals as goal

pub returns-clause-fire : goal.returns-clause-fire
returns-clause-fire g c =
    no_scans g.A.Aggregator.meaning c.args.self.now c.try_fire_over_with.new.self c.args.reads.now c.args.instrs.now
    c.try_fire_over_with.result c.try_fire_over_with.ensures.fire
