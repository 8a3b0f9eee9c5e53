use Rattle.std.proofs.Common.{List, subst}
use Rattle.std.proofs.lemmas.Bool.{OnTrue_at}
use Rattle.asm_state.specs.declared.named.Named.{Named}
use Rattle.asm_storage.specs.Part.{IsSure}
use Rattle.asm_storage.proofs.SureFires.{sure_judged}
use Rattle.asm_storage.proofs.part.AgentPart.refusal.Goals as goal

pub returns-then-is_sure-clause-judged : goal.returns-then-is_sure-clause-judged
returns-then-is_sure-clause-judged g c =
    let p = c.args.self.now in
    let sure = subst (λ (rs : List Named). IsSure p.progress rs c.args.scans.now c.args.instrs.now) c.as_slice.ensures
    (OnTrue_at c.if-is_sure.true c.is_sure.ensures) in
    sure_judged g.A.Aggregator.meaning c.args.storage.now p c.args.reads.now c.args.scans.now c.args.instrs.now
    c.requires.part sure
