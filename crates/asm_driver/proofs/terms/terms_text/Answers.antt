use Rattle.std.proofs.Common.{ap, string_bytes, subst, ◌∙◌}
use Rattle.asm_driver.proofs.TermLines.{agents_more}
use Rattle.asm_driver.proofs.terms.terms_text.Goals as goal

pub loop-agent-preserved : goal.loop-agent-preserved
loop-agent-preserved c =
    let l = c.loop-agent in
    agents_more c.args.terms.now l.agent c.index-terms-agent.result (string_bytes l.text)
    (string_bytes c.push_agent.new.text) c.loop-agent-test.true c.index-terms-agent.is l.invariant
    (rw c.as_slice.ensures at c.in_ok-push_agent.ensures)
