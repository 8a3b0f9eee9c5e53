use Rattle.std.proofs.Common.{sym, ◌∙◌}
use Rattle.asm_storage.proofs.NamedReads.{read_fresh}
use Rattle.asm_storage.proofs.part.AgentPart.read_named.Goals as goal

pub returns-in_ok-read_own_named-in-None-clause-answered : goal.returns-in_ok-read_own_named-in-None-clause-answered
returns-in_ok-read_own_named-in-None-clause-answered g c =
    read_fresh g.A.Aggregator.meaning c.args.storage.now c.args.self.now c.follow_row.new.self c.read_own_named.new.self
    c.args.reads.now c.in_ok-read_own_named-in-None.field-0 c.in_ok-follow_row.ensures.polls c.in_ok-follow_row.ensures.level
    (sym c.in-None.is ∙ c.in_ok-at.ensures) c.in_ok-read_own_named-in-None.ensures.read
