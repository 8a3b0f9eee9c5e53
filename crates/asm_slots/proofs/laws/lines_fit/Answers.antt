use Rattle.asm_slots.proofs.FittingLines.{fires_fit, reads_fit, states_fit}
use Rattle.asm_slots.proofs.laws.lines_fit.Goals as goal

pub returns-clause-fires : goal.returns-clause-fires
returns-clause-fires c = fires_fit

pub returns-clause-reads : goal.returns-clause-reads
returns-clause-reads c = reads_fit

pub returns-clause-states : goal.returns-clause-states
returns-clause-states c = states_fit
