use Rattle.std.proofs.Common.{sym, ap, ◌∙◌}
use Rattle.std.specs.Option.{option_copied}
use Rattle.asm_element.specs.Tests.{true_from_not, false_from_not}
use Rattle.asm_aggregate.proofs.Bundles.{first_regular, equal_regular, other_regular}
use Rattle.asm_aggregate.proofs.groups.Bundle.add_regular.Goals as goal

pub returns-in-None : goal.returns-in-None
returns-in-None c =
    λ G h. first_regular G c.args.value.now _ c.self.inside.differ c.self.inside.partials.items (c.self.view_is ∙ h)
    (ap option_copied c.in-None.is)

pub returns-then-ne : goal.returns-then-ne
returns-then-ne c =
    λ G h. other_regular G c.args.value.now _ c.self.inside.differ c.self.inside.partials.items
    (c.self.view_is ∙ h) c.in-Some.first.now (ap option_copied c.in-Some.is)
    (false_from_not _ _ c.ne.ensures c.if-ne.true)

pub returns-else-ne : goal.returns-else-ne
returns-else-ne c =
    λ G h. sym c.self.view_is
    ∙ equal_regular G c.args.value.now _ c.self.inside.differ c.self.inside.partials.items
    (c.self.view_is ∙ h) c.in-Some.first.now (ap option_copied c.in-Some.is)
    (true_from_not _ _ c.ne.ensures c.if-ne.false)
