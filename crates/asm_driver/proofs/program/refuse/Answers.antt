use Rattle.std.proofs.Common.{refl, inr}
use Rattle.asm_driver.specs.Refusal.{has_number}
use Rattle.asm_driver.specs.declared.program.refusal.Refusal.TheVariants.{Memory}
use Rattle.asm_driver.proofs.Runs.{otherwise}
use Rattle.asm_driver.proofs.program.refuse.Goals as goal

pub returns-in-Err-clause-refuses : goal.returns-in-Err-clause-refuses
returns-in-Err-clause-refuses g c = (
  Memory,
  inr (refl, otherwise (has_number c.args.refusal) c.in-Err.ensures.known),
  c.write_out-in-Err.ensures.writes,
)
