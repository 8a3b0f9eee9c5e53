use Rattle.asm_storage.proofs.PartInvariant.{learnt_part}
use Rattle.asm_storage.proofs.part.AgentPart.learn.Goals as goal

pub returns-clause-part : goal.returns-clause-part
returns-clause-part g c =
    learnt_part g.A.Aggregator.meaning c.args.storage.now c.args.self.now c.learn.new.self c.requires.part
    c.learn.ensures.kept c.learn.ensures.mine
