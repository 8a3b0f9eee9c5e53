use Rattle.std.proofs.Common.{ap, sym, subst, ◌∙◌}
use Rattle.std.specs.FinMap as map
use Rattle.std.specs.List.Sorted.{IsStrictlySortedBy}
use Rattle.std.specs.Map.{keys_of}
use Rattle.asm_element.specs.Place.{location_cmp}
use Rattle.asm_aggregate.specs.Bundle.{by_place}
use Rattle.asm_aggregate.proofs.Listed.{below_from, sorted_more, listed_last}
use Rattle.asm_aggregate.proofs.result_list.Results.push.Goals as goal

pub invariant_of-self-2 : goal.invariant_of-self-2
invariant_of-self-2 c =
    let low = below_from c.self.inside.list.items c.args.self.now c.args.at.now c.self.view_is c.requires in
    subst (λ xs. IsStrictlySortedBy location_cmp (keys_of (by_place xs))) (sym c.in_ok-push.ensures.items)
    (sorted_more c.self.inside.list.items c.args.at c.args.value c.self.invariant low)

pub returns : goal.returns
returns c =
    let low = below_from c.self.inside.list.items c.args.self.now c.args.at.now c.self.view_is c.requires in
    ap (λ xs. map.from_entries (by_place xs)) c.in_ok-push.ensures.items
    ∙ listed_last c.self.inside.list.items c.args.at c.args.value low
    ∙ ap (λ m. map.insert m c.args.at.now c.args.value) c.self.view_is
