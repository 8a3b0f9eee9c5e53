use Rattle.std.proofs.Common.{◌++◌, ◌∷◌, [], append_assoc, append-nil, ap, sym, ◌∙◌, List}
use Rattle.asm_aggregate.specs.Bundle.{by_place}
use Rattle.asm_element.specs.Place.{Place}
use Rattle.asm_step.specs.Outcomes.{Outcome}
use Rattle.asm_step.proofs.Stacked.{dependencies_from, dependencies_first, dependencies_not}
use Rattle.asm_step.proofs.listing.dependency_places.Goals as goal

pub loop-at-init : goal.loop-at-init
loop-at-init c =
    let start = ap by_place c.into_iter-at-iterator.ensures.into_iter_gives ∙ c.into_entries-at-items.ensures in
    (λ i. c.new-places.ensures.items i ++ dependencies_from (start i))

pub loop-at-preserved-in_ok-push : goal.loop-at-preserved-in_ok-push
loop-at-preserved-in_ok-push c =
    let had = c.loop-at.places.items in
    let left = by_place c.next.new.self in
    let k = c.in-Some.at.now in
    ap (λ ls. ls ++ dependencies_from left) (c.in_ok-push.ensures.items ∙ ap (λ l. had ++ l ∷ []) c.in_ok-copy.ensures)
    ∙ append_assoc had (k ∷ []) (dependencies_from left)
    ∙ ap (λ ls. had ++ ls) (sym (dependencies_first k c.in-Some.held left (sym c.depends.ensures ∙ c.if-depends.true)))
    ∙ ap (λ (es : List (Place × Outcome)). had ++ dependencies_from es) (sym (ap by_place c.in-Some.ensures.steps)) ∙ c.loop-at.invariant

pub loop-at-preserved : goal.loop-at-preserved
loop-at-preserved c =
    let had = c.loop-at.places.items in
    let left = by_place c.next.new.self in
    let k = c.in-Some.at.now in
    ap (λ ls. had ++ ls) (sym (dependencies_not k c.in-Some.held left (sym c.depends.ensures ∙ c.if-depends.false)))
    ∙ ap (λ (es : List (Place × Outcome)). had ++ dependencies_from es) (sym (ap by_place c.in-Some.ensures.steps)) ∙ c.loop-at.invariant

pub returns : goal.returns
returns c =
    sym (append-nil c.loop-at.places.items)
    ∙ ap (λ (es : List (Place × Outcome)). c.loop-at.places.items ++ dependencies_from es) (sym (ap by_place c.in-None.ensures.steps.0)) ∙ c.loop-at.invariant
