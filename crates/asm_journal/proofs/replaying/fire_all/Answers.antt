use Rattle.std.proofs.Common.{Err, ◌∙◌, subst}
use Rattle.std.proofs.lemmas.Result.{on_ok_weaker}
use Rattle.asm_update.specs.State.{val}
use Rattle.asm_update.specs.declared.clash.AggError.{AggError}
use Rattle.asm_aggregate.specs.Bundle.{IsAggregate}
use Rattle.asm_journal.proofs.Moves.{after_updates, after_clash}
use Rattle.asm_journal.proofs.replaying.fire_all.Goals as goal

pub returns-in-Ok : goal.returns-in-Ok
returns-in-Ok g c =
    let part = (g.A.Aggregator.meaning c.args.aggregator.now).part in
    let is = after_updates part c.args.state.now c.args.instructions.now c.in-Ok.updates c.in-Ok.ensures in
    on_ok_weaker c.write_updates.result (λ w. w ∙ is) c.write_updates.ensures

pub returns-in-Err-Clash : goal.returns-in-Err-Clash
returns-in-Err-Clash g c =
    let part = (g.A.Aggregator.meaning c.args.aggregator.now).part in
    after_clash part c.args.state.now c.args.instructions.now c.in-Err-Clash.field-0-0 (subst (λ (e : AggError). IsAggregate part (val c.args.state.now) c.args.instructions.now (Err e)) c.in-Err-Clash.field-0-is c.in-Err-Clash.ensures)
