use Rattle.std.proofs.Common.{subst}
use Rattle.std.proofs.lemmas.Bool.{OnTrue_at}
use Rattle.asm_update.specs.Move.{Move}
use Rattle.asm_step.specs.Outcomes.{ArePuts}
use Rattle.asm_step.proofs.puts.are_puts.Goals as goal

pub returns-then-is_one_put : goal.returns-then-is_one_put
returns-then-is_one_put c =
    subst (λ (M : Move). ArePuts M) c.as_slice-list.ensures (OnTrue_at c.if-is_one_put.true c.is_one_put.ensures)
