use Rattle.asm_storage.specs.Agents.{moves_seen}
use Rattle.asm_storage.specs.Storage.{machine_of}
use Rattle.asm_storage.proofs.PartInvariant.{stands_for_all}
use Rattle.asm_storage.proofs.Scanning.{named_as}
use Rattle.asm_storage.proofs.part.AgentPart.named_over.Goals as goal

pub returns : goal.returns
returns g c =
    let p = c.args.self.now in
    let m = machine_of g.A.Aggregator.meaning c.args.storage.now in
    let seen = p.progress.seen in
    named_as m (moves_seen seen) c.args.reads.now c.args.scans.now c.in_ok-found.found c.named_with.result c.named_with.ensures
    (c.in_ok-found.ensures m.part m.init (moves_seen seen)
    (λ some. stands_for_all m seen p.state c.requires.part.following (c.requires.level some)))
