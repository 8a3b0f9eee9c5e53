use Rattle.std.proofs.Common.{◌≡◌, Ok, Err, map, sym, ap, subst, ◌∙◌}
use Rattle.std.proofs.lemmas.Result.{IfOk-weaker}
use Rattle.serde_json.specs.View.{view}
use Rattle.asm_update.specs.Fire.{aggregated}
use Rattle.asm_update.specs.declared.clash.AggError.{AggError}
use Rattle.asm_update.proofs.FireLemmas.{aggregated-update_set, aggregated-clash}
use Rattle.asm_aggregate.specs.Bundle.{IsAggregate}
use Rattle.asm_state.specs.View.{value_at}
use Rattle.asm_journal.specs.Shape.{list_of}
use Rattle.asm_trace.specs.Change.{changes_or_none}
use Rattle.asm_trace.specs.Text.{changes_json_of}
use Rattle.asm_trace.proofs.changes.updated_json.Goals as goal

pub returns-in-Ok : goal.returns-in-Ok
returns-in-Ok g c =
    let part = (g.A.Aggregator.meaning c.args.aggregator.now).part in
    let old = value_at c.args.state.now in
    let M = c.args.instructions.now in
    let is : aggregated part old M ≡ Ok c.in-Ok.updates = (aggregated-update_set part old M c.in-Ok.updates).1 c.in-Ok.ensures in
    IfOk-weaker c.updates_json.result _ _ (λ json e. e ∙ ap (λ r. changes_json_of (changes_or_none old r)) (sym is)) c.updates_json.ensures

pub returns-in-Err-Clash : goal.returns-in-Err-Clash
returns-in-Err-Clash g c =
    let part = (g.A.Aggregator.meaning c.args.aggregator.now).part in
    let old = value_at c.args.state.now in
    let M = c.args.instructions.now in
    let clash = c.in-Err-Clash.field-0-0 in
    let least = subst (λ (e : AggError). IsAggregate part old M (Err e)) c.in-Err-Clash.field-0-is c.in-Err-Clash.ensures in
    let is : aggregated part old M ≡ Err clash = (aggregated-clash part old M clash).1 least in
    c.array_of.ensures ∙ ap (λ vs. list_of (map view vs)) c.new.ensures.items
    ∙ ap (λ r. changes_json_of (changes_or_none old r)) (sym is)
