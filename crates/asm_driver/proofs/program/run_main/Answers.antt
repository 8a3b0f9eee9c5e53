use Rattle.std.proofs.Common.{rules}
use Rattle.asm_driver.proofs.Runs.{runs_over}
use Rattle.asm_driver.proofs.program.run_main.Goals as goal

pub returns-clause-runs : goal.returns-clause-runs
returns-clause-runs g c =
    runs_over _ _ _ _ _ _ _ _ _ _ _ _ _ (search rules) (search rules) (search rules) (search rules)
    c.run_noted.ensures.runs
