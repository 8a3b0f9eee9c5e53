use Rattle.std.proofs.Common.{All, refl, subst}
use Rattle.std.proofs.lemmas.List.{take_all}
use Rattle.std.proofs.lemmas.List.Elements.{All-more}
use Rattle.asm_storage.specs.History.{EventFits}
use Rattle.asm_storage.proofs.history.all_fit.Goals as goal

pub loop-event-preserved : goal.loop-event-preserved
loop-event-preserved c =
    let fits = EventFits c.args.agents in
    let here = subst fits c.event-item.is (c.if-not-fits.ensures.0 refl) in
    All-more fits c.args.events.now c.loop-event.event-index c.event-item.result c.loop-event-test.true
    c.loop-event.invariant here

pub returns : goal.returns
returns c =
    let whole = take_all c.loop-event.event-index c.args.events.now c.loop-event-test.false in
    (λ _. subst (All (EventFits c.args.agents)) whole c.loop-event.invariant, λ _. refl)
