use Rattle.std.proofs.Common.{ap, sym, ◌∙◌, unwrap_or}
use Rattle.std.specs.FinMap as finite
use Rattle.asm_element.specs.Place.{location_cmp}
use Rattle.asm_aggregate.specs.Bundle.{Bundle}
use Rattle.asm_aggregate.proofs.Grouped.{get-shown, taken}
use Rattle.asm_aggregate.proofs.groups.Groups.take.Goals as goal

pub returns-clause-taken : goal.returns-clause-taken
returns-clause-taken c =
    let found = c.remove.ensures.value ∙ sym (get-shown c.self.inside.tree c.args.at)
    ∙ ap (λ (m : finite.FinMap location_cmp Bundle). finite.get m c.args.at.now) c.self.view_is in
    c.unwrap_or.ensures ∙ (λ i. unwrap_or (found i) (c.new.ensures i))

pub returns-clause-rest : goal.returns-clause-rest
returns-clause-rest c =
    taken c.self.inside.tree c.remove.new.self c.args.at c.remove.ensures.updates.0
    ∙ ap (λ (m : finite.FinMap location_cmp Bundle). finite.remove m c.args.at.now) c.self.view_is
