use Rattle.std.proofs.Common.{Option, List, sym, subst, ◌∙◌}
use Rattle.asm_state.specs.declared.named.Named.{Named}
use Rattle.asm_play.specs.Trying.{HasTried, IsTry}
use Rattle.asm_play.specs.declared.step_end.StepEnd.{StepEnd}
use Rattle.asm_play.proofs.Tries.{ended_by_fault, ended_by_fire}
use Rattle.asm_play.proofs.player.Player.one_try.Goals as goal

-- the step has no move
pub returns-in-Err : goal.returns-in-Err
returns-in-Err g c =
    let meaning = g.A.Aggregator.meaning in
    ended_by_fault meaning (meaning c.args.self.now.aggregator.now) c.args.agent.now c.read.new.agent
    c.move_of.ensures.laws c.args.step.now c.args.places.now c.in_ok-reading.reading
    c.requires.reads c.in_ok-reading.ensures c.in-Err.fault
    c.in_ok-stopped-in-Err.field-0 c.in_ok-stopped-in-Err.ensures c.in-Err.ensures.stands

-- the move was fired
pub returns : goal.returns
returns g c =
    let meaning = g.A.Aggregator.meaning in
    let own = meaning c.args.self.now.aggregator.now in
    let named = c.in_ok-reads.ensures ∙ c.in_ok-names.ensures in
    let tried = subst (λ (ns : List Named). HasTried meaning c.read.new.agent c.fire.new.agent ns c.in-Ok.instrs
    c.in_ok-reply.reply) named c.in_ok-reply.ensures in
    subst (λ (o : Option StepEnd). IsTry meaning own c.args.agent.now c.fire.new.agent c.args.step.now c.args.places.now o)
    (sym c.end_of.ensures)
    (ended_by_fire meaning own c.args.agent.now c.read.new.agent
    c.move_of.ensures.laws c.args.step.now c.args.places.now c.in_ok-reading.reading
    c.requires.reads c.in_ok-reading.ensures c.fire.new.agent c.in-Ok.instrs c.in-Ok.ensures.stands c.in_ok-reply.reply
    tried)
