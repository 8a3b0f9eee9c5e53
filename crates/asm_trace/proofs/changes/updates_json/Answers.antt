use Rattle.std.proofs.Common.{map, ap, ◌∙◌}
use Rattle.asm_state.specs.View.{value_at}
use Rattle.asm_journal.specs.Shape.{list_of}
use Rattle.asm_journal.proofs.Arrays.{written_more, written_all}
use Rattle.asm_trace.proofs.Making.{update_json_of, updates_json_is}
use Rattle.asm_trace.proofs.changes.updates_json.Goals as goal

pub loop-at-preserved : goal.loop-at-preserved
loop-at-preserved c =
    let l = c.loop-at in
    written_more (update_json_of (value_at c.args.state.now)) l.list.items c.push.new.self.items _ (c.in-Some.at.now, c.in-Some.value.now)
    l.at-iterator c.next.new.self _ l.invariant c.in-Some.ensures.steps c.in_ok-push.ensures.items c.in_ok-change_json.ensures

pub returns : goal.returns
returns c =
    let l = c.loop-at in
    let old = value_at c.args.state.now in
    let f = update_json_of old in
    let start = c.into_iter-at-iterator.ensures.into_iter_gives ∙ c.iter-at-items.ensures.entries in
    let done = written_all f l.list.items l.at-iterator _ l.invariant c.in-None.ensures.steps.0 in
    c.array_of.ensures ∙ ap list_of (done ∙ ap (map f) start) ∙ updates_json_is old c.args.updates.now
