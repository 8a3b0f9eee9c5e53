use Rattle.std.proofs.Common.{◌≡◌, ◌+◌, ◌∙◌, ap, sym, subst}
use Rattle.std.specs.Prelude.{Err}
use Rattle.std.specs.Arc.{arc_value}
use Rattle.std.specs.FinMap as map
use Rattle.asm_update.specs.Aggregator.{IsOutcome}
use Rattle.asm_update.specs.Move.{Move}
use Rattle.asm_update.specs.State.{State, val}
use Rattle.asm_update.specs.declared.error.ResultError.{ResultError}
use Rattle.asm_state.specs.Change.{IsChanged, IsOneChange}
use Rattle.asm_state.specs.Follow.{IsFollowed}
use Rattle.asm_state.specs.View.{Entries, StateView, value_over}
use Rattle.asm_state.proofs.ChangedInPlace.{changed_settled, changed_followed, unchanged_followed}
use Rattle.asm_state.proofs.state.State.follow_at.Goals as goal

pub invariant_of-self : goal.invariant_of-self
invariant_of-self g c =
    let part = (g.A.Aggregator.meaning c.args.aggregator.now).part in
    let (w, is, given) = c.in-Ok.ensures.ok in
    let changed = subst (λ (B : State). IsChanged part (value_over (val B c.args.at.now) (map.get c.self.inside.entries c.args.at.now)) c.args.group.now (c.self.inside.number + 1) w) c.deref.ensures given in
    let s : StateView = record { number = c.self.inside.number; base = arc_value c.self.inside.base; entries = c.self.inside.entries } in
    changed_settled part s c.args.at.now c.args.group.now c.change_at.new.self w is changed c.self.invariant

pub returns-in-Ok-clause-followed : goal.returns-in-Ok-clause-followed
returns-in-Ok-clause-followed g c =
    let part = (g.A.Aggregator.meaning c.args.aggregator.now).part in
    let (w, is, given) = c.in-Ok.ensures.ok in
    let changed = subst (λ (B : State). IsChanged part (value_over (val B c.args.at.now) (map.get c.self.inside.entries c.args.at.now)) c.args.group.now (c.self.inside.number + 1) w) c.deref.ensures given in
    let s : StateView = record { number = c.self.inside.number; base = arc_value c.self.inside.base; entries = c.self.inside.entries } in
    subst (λ (old : StateView). (M : Move) → IsOneChange M c.args.at.now c.args.group.now → IsFollowed part old M (record { number = s.number + 1; base = s.base; entries = c.change_at.new.self })) c.self.view_is
    (changed_followed part s c.args.at.now c.args.group.now c.change_at.new.self w is changed)

pub returns-in-Err-Cause-clause-followed : goal.returns-in-Err-Cause-clause-followed
returns-in-Err-Cause-clause-followed g c =
    let part = (g.A.Aggregator.meaning c.args.aggregator.now).part in
    let s : StateView = record { number = c.self.inside.number; base = arc_value c.self.inside.base; entries = c.self.inside.entries } in
    let given = λ (B : State). part (value_over (val B c.args.at.now) (map.get c.self.inside.entries c.args.at.now)) c.args.group.now.regular c.args.group.now.partials in
    let gave = ap given (sym c.deref.ensures) ∙ subst (λ (e : ResultError). IsOutcome (Err e) (given c.deref.result.now)) c.in-Err-Cause.field-0-is c.in-Err-Cause.ensures.cause in
    let left : c.count.new.self ≡ record { number = s.number + 1; base = s.base; entries = s.entries } =
    c.count.ensures ∙ ap (λ (es : Entries). let n : StateView = record { number = s.number + 1; base = s.base; entries = es } in n) c.in-Err-Cause.ensures.err in
    subst (λ (old : StateView). (M : Move) → IsOneChange M c.args.at.now c.args.group.now → IsFollowed part old M c.count.new.self) c.self.view_is
    (unchanged_followed part s c.args.at.now c.args.group.now c.in-Err-Cause.field-0-0 c.count.new.self gave left)
