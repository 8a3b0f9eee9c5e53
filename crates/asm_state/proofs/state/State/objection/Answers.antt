use Rattle.std.proofs.Common.{Some, Err, refl, sym, ap, ◌∙◌, subst}
use Rattle.std.specs.Prelude.{IsOk}
use Rattle.asm_update.specs.declared.clash.AggError.{AggError}
use Rattle.asm_aggregate.specs.Bundle.{IsAdmission}
use Rattle.asm_state.specs.View.{value_at}
use Rattle.asm_state.proofs.Judged.{updates_is, clash_is}
use Rattle.asm_state.proofs.state.State.objection.Goals as goal

pub returns-in-Some : goal.returns-in-Some
returns-in-Some g c = λ init q stands.
    let part = (g.A.Aggregator.meaning c.args.aggregator.now).part in
    sym (c.in-Some.ensures part init q stands)
    ∙ ap Some (sym c.in_ok-copy-in-Some.ensures)

pub returns-in-Ok : goal.returns-in-Ok
returns-in-Ok g c = λ init q stands.
    let part = (g.A.Aggregator.meaning c.args.aggregator.now).part in
    let (updates, is) = c.in-Ok.ensures in (
      sym (c.in-None.ensures part init q stands),
      subst IsOk (sym (updates_is part init q c.args.self.now stands c.args.instructions.now updates is)) refl,
    )

pub returns-in-Err-Clash : goal.returns-in-Err-Clash
returns-in-Err-Clash g c = λ init q stands.
    let part = (g.A.Aggregator.meaning c.args.aggregator.now).part in (
      sym (c.in-None.ensures part init q stands),
      clash_is part init q c.args.self.now stands c.args.instructions.now c.in-Err-Clash.clash
          (subst (λ (e : AggError). IsAdmission part (value_at c.args.self.now) c.args.instructions.now (Err e))
          c.in-Err-Clash.field-0-is c.in-Err-Clash.ensures),
    )
