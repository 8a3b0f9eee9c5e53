use Rattle.std.proofs.Common.{string_bytes}
use Rattle.asm_driver.proofs.TermLines.{lines_more}
use Rattle.asm_driver.proofs.terms.push_agent.Goals as goal

pub loop-reported-preserved : goal.loop-reported-preserved
loop-reported-preserved c =
    let l = c.loop-reported in
    lines_more c.args.agent c.args.steps.now l.reported-index c.reported-item.result (string_bytes c.args.text.now)
    (string_bytes l.text) (string_bytes c.push_line.new.text) c.loop-reported-test.true c.reported-item.is l.invariant
    c.in_ok-push_line.ensures
