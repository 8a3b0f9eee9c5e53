use Rattle.std.proofs.Common.{map, ap, ◌∙◌}
use Rattle.asm_journal.specs.Shape.{list_of}
use Rattle.asm_journal.specs.Value.{pair_json_of}
use Rattle.asm_journal.proofs.Arrays.{written_more, written_all}
use Rattle.asm_journal.proofs.form.state.pairs_json.Goals as goal

pub loop-at-preserved : goal.loop-at-preserved
loop-at-preserved c =
    let l = c.loop-at in
    written_more pair_json_of l.list.items c.push.new.self.items _ (c.in-Some.at.now, c.in-Some.value.now) l.at-iterator c.next.new.self _ l.invariant c.in-Some.ensures.steps c.in_ok-push.ensures.items c.in_ok-pair_json.ensures

pub returns : goal.returns
returns c =
    let l = c.loop-at in
    let done = written_all pair_json_of l.list.items l.at-iterator _ l.invariant c.in-None.ensures.steps.0 in
    c.array_of.ensures ∙ ap list_of (done ∙ ap (map pair_json_of) c.into_iter-at-iterator.ensures.into_iter_gives)
