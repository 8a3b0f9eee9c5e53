use Rattle.std.proofs.Common.{string_bytes}
use Rattle.std.specs.Prelude.{take}
use Rattle.asm_driver.specs.Report.{AreAgentsTermLines}
use Rattle.asm_driver.proofs.terms.terms_text.Given as goal

abbrev pub invariant-loop-agent : goal.invariant-loop-agent
invariant-loop-agent l = AreAgentsTermLines 0 (take l.agent l.terms) (string_bytes l.text)
