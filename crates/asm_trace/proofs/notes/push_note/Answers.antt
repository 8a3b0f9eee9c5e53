use Rattle.std.proofs.Common.{option_map, sym, subst, ap, ◌∙◌}
use Rattle.std.proofs.lemmas.Result.{on_ok_weaker}
use Rattle.serde_json.specs.View.{view}
use Rattle.asm_state.specs.View.{value_at}
use Rattle.asm_storage.specs.History.{move_of}
use Rattle.asm_trace.specs.Change.{changes_of}
use Rattle.asm_trace.specs.Text.{event_with}
use Rattle.asm_trace.proofs.Unchanged.{HasNoFloat, event_no_float, some_right_no_float, some_changes_no_float}
use Rattle.asm_trace.proofs.Noted.{noted_step}
use Rattle.asm_trace.proofs.notes.push_note.Goals as goal

pub push_line-requires : goal.push_line-requires
push_line-requires g c =
    let part = (g.A.Aggregator.meaning c.args.aggregator.now).part in
    let e = c.args.event.now in
    let judged = c.in_ok-right.ensures in
    let right = subst HasNoFloat (sym judged.1) (some_right_no_float e.answer judged.0) in
    let plain = subst HasNoFloat (sym c.in_ok-changes.ensures) (some_changes_no_float (option_map (changes_of part (value_at c.args.state.now)) (move_of e))) in
    rw c.in_ok-json.ensures (event_no_float c.args.number e (option_map view c.in_ok-right.right) (option_map view c.in_ok-changes.changes) right plain)

pub returns : goal.returns
returns g c =
    let part = (g.A.Aggregator.meaning c.args.aggregator.now).part in
    let judged = c.in_ok-right.ensures in
    let changes = option_map view c.in_ok-changes.changes in
    on_ok_weaker c.push_line.result
    (λ appended. noted_step part c.args.capacity c.args.number c.args.event.now c.args.state.now c.other_json.new.state judged.0
    changes (view c.in_ok-json.json) _ _ judged.2 c.in_ok-changes.ensures
    (c.in_ok-json.ensures ∙ ap (λ o. event_with c.args.number c.args.event.now o changes) judged.1) appended)
    c.push_line.ensures
