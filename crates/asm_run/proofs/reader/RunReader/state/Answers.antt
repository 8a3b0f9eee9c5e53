use Rattle.std.proofs.Common.{List, Option}
use Rattle.asm_update.specs.State.{State}
use Rattle.asm_audit.specs.SoFar.{IsFedStateSoFar}
use Rattle.asm_run.specs.Protocol.{Segment}
use Rattle.asm_run.specs.Reader.{HasReadParts, IsStateAfter}
use Rattle.asm_run.proofs.States as states
use Rattle.asm_run.proofs.Trails as trails
use Rattle.asm_run.proofs.reader.RunReader.state.Goals as goal

pub returns : goal.returns
returns g c =
    let part = (g.A.Aggregator.meaning c.args.self.now.judge.auditor.auditor.aggregator).part in
    let old = c.args.self.now in
    let p = old.judge.auditor.auditor.progress in
    let line = old.judge.auditor.line.items in
    trails.if_ok (IsFedStateSoFar part p line) (λ (s : Option State). (skipped segments : List Segment) →
    HasReadParts part old.trail p line old.judge.fault skipped segments →
    IsStateAfter part segments s) c.state.result
    (λ s so skipped segments h. states.state_after part segments p line _ _ h.before.run h.fed s so) c.state.ensures
