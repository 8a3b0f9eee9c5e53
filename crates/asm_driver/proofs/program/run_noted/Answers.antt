use Rattle.std.proofs.Common.{◌≡◌, [], ap, map, string_bytes, subst}
use Rattle.asm_driver.specs.Words.{Words, faults}
use Rattle.asm_driver.proofs.Ending.{run_of}
use Rattle.asm_driver.proofs.Faulting.{faults_run}
use Rattle.asm_driver.proofs.Runs.{run_taken}
use Rattle.asm_driver.proofs.program.run_noted.Goals as goal

pub returns-clause-runs : goal.returns-clause-runs
returns-clause-runs g c = run_of _ _ _ _ _ (ap (map string_bytes) c.as_slice.ensures.value) c.run_words.ensures.runs

pub returns-clause-faults : goal.returns-clause-faults
returns-clause-faults g c = faults_run _ _ _ _ c.run_words.ensures.runs

pub returns-clause-taken : goal.returns-clause-taken
returns-clause-taken g c =
    run_taken _ _ _ _ (run_of _ _ _ _ _ (ap (map string_bytes) c.as_slice.ensures.value) c.run_words.ensures.runs)

pub returns-clause-unread : goal.returns-clause-unread
returns-clause-unread g c =
    subst (λ (w : Words). ¬ (faults w ≡ []) → c.run_words.new.input ≡ c.args.input.now)
    (ap (map string_bytes) c.as_slice.ensures.value) c.run_words.ensures.unread
