use Rattle.std.proofs.Common.{[], ◌∷◌, map, ap, subst, ◌∙◌}
use Rattle.std.proofs.lemmas.Result.{IfOk-weaker}
use Rattle.std.specs.Prelude.{Err}
use Rattle.serde_json.specs.View.{view}
use Rattle.serde_json.specs.Data.{Data}
use Rattle.asm_update.specs.declared.error.ResultError.{ResultError}
use Rattle.asm_update.specs.Aggregator.{IsOutcome}
use Rattle.asm_state.specs.View.{value_at}
use Rattle.asm_journal.specs.Shape.{list_of}
use Rattle.asm_trace.specs.Change.{AreSameTo, changes_at}
use Rattle.asm_trace.specs.Text.{changes_json_of}
use Rattle.asm_trace.proofs.Local.{reported_alike}
use Rattle.asm_trace.proofs.changes.group_json.Goals as goal

pub returns-in-Ok : goal.returns-in-Ok
returns-in-Ok g c =
    let part = (g.A.Aggregator.meaning c.args.aggregator.now).part in
    let l = c.args.at.now in
    let v = value_at c.args.state.now l in
    let w = c.in_ok-old.old in
    let group = c.args.group.now in
    let alike : AreSameTo c.partials.result.now v w =
    subst (λ x. AreSameTo c.partials.result.now x w) c.get.ensures.value c.in_ok-old.ensures in
    let is = reported_alike part v w group.regular group.partials c.partials.result.now _ c.requires.local c.requires.alone
    c.partials.ensures.partials alike c.in-Ok.ensures in
    IfOk-weaker c.array_of_one.result _ _
    (λ json e. e ∙ ap (λ (d : Data). list_of (d ∷ [])) c.in_ok-value_change_json-in-Ok.ensures
    ∙ ap (λ o. changes_json_of (changes_at l o)) is)
    c.array_of_one.ensures

pub returns-in-Err-Cause : goal.returns-in-Err-Cause
returns-in-Err-Cause g c =
    let part = (g.A.Aggregator.meaning c.args.aggregator.now).part in
    let l = c.args.at.now in
    let v = value_at c.args.state.now l in
    let w = c.in_ok-old.old in
    let group = c.args.group.now in
    let alike : AreSameTo c.partials.result.now v w =
    subst (λ x. AreSameTo c.partials.result.now x w) c.get.ensures.value c.in_ok-old.ensures in
    let gave = subst (λ (e : ResultError). IsOutcome (Err e) (part w group.regular group.partials)) c.in-Err-Cause.field-0-is
    c.in-Err-Cause.ensures in
    let is = reported_alike part v w group.regular group.partials c.partials.result.now _ c.requires.local c.requires.alone
    c.partials.ensures.partials alike gave in
    c.array_of.ensures ∙ ap (λ vs. list_of (map view vs)) c.new.ensures.items
    ∙ ap (λ o. changes_json_of (changes_at l o)) is
