use Rattle.std.proofs.Common.{◌≡◌, refl, ap, ◌∙◌, rules}
use Rattle.std.specs.Ordering.{is_lt}
use Rattle.std.proofs.lemmas.List.{take_all}
use Rattle.std.proofs.lemmas.List.Sorted.{answers_always}
use Rattle.asm_element.specs.Place.{location_cmp}
use Rattle.asm_aggregate.proofs.Arranged.{arranged, below_ranks, is_below, listed_more}
use Rattle.asm_aggregate.proofs.stretches.ascending.Goals as goal

pub loop-instruction-preserved : goal.loop-instruction-preserved
loop-instruction-preserved c =
    listed_more c.as_slice-instruction-items.result.now c.loop-instruction.instruction-index c.instruction-item.result
    c.loop-instruction.list.items _ _ c.loop-instruction-test.true c.instruction-item.is c.loop-instruction.invariant
    c.in_ok-push.ensures.items refl

pub returns : goal.returns
returns c =
    arranged c.args.instructions.now c.loop-instruction.list.items _
    (c.loop-instruction.invariant
    ∙ take_all c.loop-instruction.instruction-index c.as_slice-instruction-items.result.now c.loop-instruction-test.false
    ∙ c.as_slice-instruction-items.ensures)
    (c.in_ok-sort_by.ensures.sorted is_below below_ranks (answers_always _ _ _ (λ f a r g h.
    let is : r ≡ location_cmp a.0.now.now.at a.1.0.now.now.at = search rules in ap is_lt is)))
    (c.sort_by.ensures.stable is_below below_ranks (answers_always _ _ _ (λ f a r g h.
    let is : r ≡ location_cmp a.0.now.now.at a.1.0.now.now.at = search rules in ap is_lt is)))
