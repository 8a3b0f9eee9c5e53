use Rattle.std.proofs.Common.{Option, subst}
use Rattle.asm_storage.specs.Calls.{ReadingView}
use Rattle.asm_script.specs.Sequencing.{IsStepMove}
use Rattle.asm_play.specs.Trying.{read_value}
use Rattle.asm_play.proofs.player.move_of.Goals as goal

pub returns-clause-stands : goal.returns-clause-stands
returns-clause-stands g c =
    subst (λ (o : Option ReadingView). IsStepMove (g.A.Aggregator.meaning c.args.aggregator.now) (read_value o)
    c.args.step.now c.step_move.result) c.as_ref-reading.ensures.value c.step_move.ensures

pub returns-clause-laws : goal.returns-clause-laws
returns-clause-laws g c = g.met.A.Aggregator.laws
