use Rattle.std.proofs.Common.{string_bytes, ◌++◌, ◌∙◌, ap}
use Rattle.asm_driver.specs.Report.{agent_lines}
use Rattle.asm_driver.proofs.Lines.{numbered_more}
use Rattle.asm_driver.proofs.reporting.push_outcomes.Goals as goal

pub loop-agent-preserved : goal.loop-agent-preserved
loop-agent-preserved c =
    let l = c.loop-agent in
    let os = c.index-agents-agent.result in
    let added = c.in_ok-push_agent.ensures
    ∙ ap (λ o. string_bytes l.text ++ agent_lines (l.agent, o)) c.as_slice.ensures in
    numbered_more agent_lines (string_bytes c.args.text.now) (string_bytes l.text)
    (string_bytes c.push_agent.new.text) c.args.agents.now l.agent os
    c.loop-agent-test.true c.index-agents-agent.is l.invariant added
