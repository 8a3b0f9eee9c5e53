use Rattle.std.proofs.Common.{string_bytes}
use Rattle.asm_driver.specs.Report.{outcome_line}
use Rattle.asm_driver.proofs.Lines.{numbered_more}
use Rattle.asm_driver.proofs.reporting.push_agent.Goals as goal

pub loop-step-preserved : goal.loop-step-preserved
loop-step-preserved c =
    let l = c.loop-step in
    numbered_more (λ s. outcome_line c.args.agent s.0 s.1) (string_bytes c.args.text.now) (string_bytes l.text)
    (string_bytes c.push_outcome.new.text) c.args.outcomes.now l.step c.index-outcomes-step.result
    c.loop-step-test.true c.index-outcomes-step.is l.invariant c.in_ok-push_outcome.ensures
