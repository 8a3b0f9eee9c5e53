use Rattle.std.proofs.Common.{refl}
use Rattle.std.specs.Fmt.{digits}
use Rattle.asm_driver_tests.proofs.refusals.rare_refusals.Goals as goal

pub returns-clause-missing : goal.returns-clause-missing
unfolding digits
returns-clause-missing c = refl

pub returns-clause-last_missing : goal.returns-clause-last_missing
unfolding digits
returns-clause-last_missing c = refl

pub returns-clause-late_line : goal.returns-clause-late_line
unfolding digits
returns-clause-late_line c = refl
