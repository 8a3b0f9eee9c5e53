use Rattle.std.proofs.Common.{ap, ◌∙◌}
use Rattle.asm_aggregate.specs.Bundle.{by_place}
use Rattle.asm_aggregate.proofs.Composing.{composing_starts, first_composed, composing_goes_on, composing_refuses}
use Rattle.asm_aggregate.proofs.composition.composed_list.Goals as goal

pub loop-at-init : goal.loop-at-init
loop-at-init g c =
    composing_starts _ c.args.first.now c.args.second.now _ _ _ _
    c.in_ok-firsts.ensures c.in_ok-seconds.ensures
    (ap by_place c.into_iter-at-iterator.ensures.into_iter_gives ∙ c.into_entries-at-items.ensures)
    c.new-list.ensures.items

pub composed_at-requires : goal.composed_at-requires
composed_at-requires g c =
    first_composed _ _ _ c.in-Some.at.now _ _ _ _ _
    (ap by_place c.in-Some.ensures.steps) c.loop-at.invariant _ c.take.ensures.taken

pub loop-at-preserved : goal.loop-at-preserved
loop-at-preserved g c =
    composing_goes_on _ _ _ c.in-Some.at.now _ _ _ _ _
    (ap by_place c.in-Some.ensures.steps) c.loop-at.invariant _ _ _ _ c.take.ensures.taken
    c.in-Ok.ensures c.take.ensures.rest c.in_ok-append-in-Ok.ensures

pub returns-in-Err : goal.returns-in-Err
returns-in-Err g c =
    composing_refuses _ _ _ c.in-Some.at.now _ _ _ _ _
    (ap by_place c.in-Some.ensures.steps) c.loop-at.invariant _ c.in-Err.error _ c.take.ensures.taken
    c.in-Err.ensures c.refusal_at.ensures
