use Rattle.std.proofs.lemmas.Result.{IfOk-weaker}
use Rattle.asm_audit.specs.SoFar.{IsStateSoFar, IsFedStateSoFar}
use Rattle.asm_audit.proofs.SoFar.{fed_state}
use Rattle.asm_audit.proofs.byte_auditor.ByteAuditor.state.Goals as goal

pub returns : goal.returns
returns g c =
    let self = c.args.self.now in
    let p = self.auditor.progress in
    let part = (g.A.Aggregator.meaning self.auditor.aggregator).part in
    IfOk-weaker c.state.result (IsStateSoFar part p) (IsFedStateSoFar part p self.line.items)
    (λ s is. fed_state part p self.line.items s is) c.state.ensures
