use Rattle.std.proofs.Common.{Ok, Some, ap, ◌∙◌, subst}
use Rattle.std.specs.Prelude.{Option}
use Rattle.asm_update.specs.Fire.{state_of}
use Rattle.asm_state.specs.declared.verdict.Objection.{Objection}
use Rattle.asm_state.specs.Verdict.{IsObjection}
use Rattle.asm_storage.proofs.FireTurns.{fires, clashes, full_or_none}
use Rattle.asm_storage.proofs.part.judging.judged.Goals as goal

pub returns-in-Some-Stale : goal.returns-in-Some-Stale
returns-in-Some-Stale g c = λ init q stands.
    let part = (g.A.Aggregator.meaning c.args.aggregator.now).part in
    subst (λ (o : Option Objection). IsObjection part init q c.args.reads.now c.args.instrs.now (Ok o))
    (c.in-Some-Stale.is ∙ ap Some c.in-Some-Stale.field-0-is) (c.in_ok-at.ensures init q stands)

pub returns-in-Some-Clash : goal.returns-in-Some-Clash
returns-in-Some-Clash g c = λ init q stands.
    let part = (g.A.Aggregator.meaning c.args.aggregator.now).part in
    let reported = subst (λ (o : Option Objection). IsObjection part init q c.args.reads.now c.args.instrs.now (Ok o))
    (c.in-Some-Clash.is ∙ ap Some c.in-Some-Clash.field-0-is) (c.in_ok-at.ensures init q stands) in
    (reported.0, clashes part (state_of part init q) c.args.instrs.now c.in-Some-Clash.clash reported.1)

pub returns-in-None : goal.returns-in-None
returns-in-None g c = λ init q stands.
    let part = (g.A.Aggregator.meaning c.args.aggregator.now).part in
    let reported = subst (λ (o : Option Objection). IsObjection part init q c.args.reads.now c.args.instrs.now (Ok o))
    c.in-None.is (c.in_ok-at.ensures init q stands) in
    full_or_none part init q c.args.is_full c.args.reads.now c.args.instrs.now c.full_or_none.result
    c.full_or_none.ensures reported.0 (fires part (state_of part init q) c.args.instrs.now reported.1)
