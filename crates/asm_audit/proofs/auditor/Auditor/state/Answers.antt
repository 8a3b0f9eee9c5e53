use Rattle.std.proofs.Common.{Option}
use Rattle.std.proofs.lemmas.Result.{IfOk-weaker}
use Rattle.asm_update.specs.Fire.{Part}
use Rattle.asm_update.specs.State.{State}
use Rattle.asm_audit.specs.SoFar.{IsStateSoFar}
use Rattle.asm_audit.proofs.auditor.Auditor.state.Goals as goal

pub returns : goal.returns
returns g c =
    let p = c.args.self.now.progress in
    let part = (g.A.Aggregator.meaning c.args.self.now.aggregator).part in
    IfOk-weaker c.state.result (λ (s : Option State). (q : Part) → IsStateSoFar q p s) (IsStateSoFar part p) (λ s is. is part)
    c.state.ensures
