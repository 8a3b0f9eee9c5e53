use Rattle.std.proofs.Common.{◌++◌, length, length-append, append_assoc, append-nil, ap, sym, ◌∙◌, arith, List}
use Rattle.asm_aggregate.specs.Bundle.{by_place}
use Rattle.asm_aggregate.specs.Compose.{placed}
use Rattle.asm_element.specs.Place.{Place}
use Rattle.asm_step.specs.Outcomes.{Outcome}
use Rattle.asm_step.proofs.Stacked.{listed_from, placed_many}
use Rattle.asm_step.proofs.listing.listing.Goals as goal

pub loop-at-init : goal.loop-at-init
loop-at-init c =
    let start = ap by_place c.into_iter-at-iterator.ensures.into_iter_gives ∙ c.into_entries-at-items.ensures in
    (λ i. c.new-list.ensures i ++ listed_from (start i))

pub append_to-requires : goal.append_to-requires
append_to-requires c =
    let rest = listed_from (by_place c.next.new.self) in
    let step = ap (λ (es : List (Place × Outcome)). c.loop-at.list ++ listed_from es) (sym (ap by_place c.in-Some.ensures.steps)) ∙ c.loop-at.invariant in
    let all = ap length (sym step) ∙ length-append c.loop-at.list _ in
    let first = placed_many c.in-Some.at.now c.in-Some.held.actions rest in
    omega (arith, all, first, c.requires)

pub loop-at-preserved : goal.loop-at-preserved
loop-at-preserved c =
    let rest = listed_from (by_place c.next.new.self) in
    ap (λ M. M ++ rest) c.in_ok-append_to.ensures
    ∙ append_assoc c.loop-at.list (placed c.in-Some.at.now c.in-Some.held.actions) rest
    ∙ ap (λ (es : List (Place × Outcome)). c.loop-at.list ++ listed_from es) (sym (ap by_place c.in-Some.ensures.steps)) ∙ c.loop-at.invariant

pub returns : goal.returns
returns c =
    sym (append-nil c.loop-at.list)
    ∙ ap (λ (es : List (Place × Outcome)). c.loop-at.list ++ listed_from es) (sym (ap by_place c.in-None.ensures.steps.0)) ∙ c.loop-at.invariant
