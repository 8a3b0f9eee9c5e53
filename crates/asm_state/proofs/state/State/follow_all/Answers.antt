use Rattle.std.proofs.Common.{◌≡◌, ◌+◌, Err, ap, ◌∙◌, subst}
use Rattle.asm_update.specs.declared.clash.AggError.{AggError}
use Rattle.asm_aggregate.specs.Bundle.{IsAggregate}
use Rattle.std.specs.FinMap as map
use Rattle.asm_element.specs.Place.{Place}
use Rattle.asm_state.specs.Follow.{entry_after}
use Rattle.asm_state.specs.View.{StateView, value_at}
use Rattle.asm_state.proofs.Followed.{followed_fired, followed_clashed}
use Rattle.asm_state.proofs.state.State.follow_all.Goals as goal

pub returns-in-Ok-clause-followed : goal.returns-in-Ok-clause-followed
returns-in-Ok-clause-followed g c =
    let part = (g.A.Aggregator.meaning c.args.aggregator.now).part in
    let old = c.args.self.now in
    let number = ap (λ (s : StateView). s.number + 1) c.self.view_is in
    followed_fired part old c.write_all.new.self c.args.instructions.now c.in-Ok.results c.in-Ok.ensures (c.in_ok-write_all-in-Ok.ensures.number ∙ number)
    c.in_ok-write_all-in-Ok.ensures.base
    (subst (λ n. (l : Place) → map.get c.write_all.new.self.entries l ≡ entry_after n (map.get c.in-Ok.results l) (map.get old.entries l)) number c.in_ok-write_all-in-Ok.ensures.written)

pub returns-in-Err-Clash-clause-followed : goal.returns-in-Err-Clash-clause-followed
returns-in-Err-Clash-clause-followed g c =
    let part = (g.A.Aggregator.meaning c.args.aggregator.now).part in
    let old = c.args.self.now in
    let number = ap (λ (s : StateView). s.number + 1) c.self.view_is in
    let is = subst (λ (e : AggError). IsAggregate part (value_at old) c.args.instructions.now (Err e)) c.in-Err-Clash.field-0-is c.in-Err-Clash.ensures in
    followed_clashed part old c.count.new.self c.args.instructions.now c.in-Err-Clash.field-0-0 is (ap (λ (s : StateView). s.number) c.count.ensures ∙ number)
    (ap (λ (s : StateView). s.base) c.count.ensures) (ap (λ (s : StateView). s.entries) c.count.ensures)
