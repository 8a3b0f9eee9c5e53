use Rattle.std.proofs.Common.{◌++◌, ◌∷◌, [], ap, ◌∙◌}
use Rattle.std.specs.Option.{option_copied}
use Rattle.asm_aggregate.proofs.Bundles.{one_partial, parts, partial_unless}
use Rattle.asm_aggregate.proofs.groups.Bundle.add.Goals as goal

pub returns-in_ok-push-in_default : goal.returns-in_ok-push-in_default
returns-in_ok-push-in_default c = λ G h.
    ap (parts (option_copied c.self.inside.regular) c.self.inside.differ)
    (c.in_ok-push-in_default.ensures.items
    ∙ ap (λ x. c.self.inside.partials.items ++ x ∷ []) c.in_ok-clone-in_default.ensures.cases)
    ∙ one_partial G c.args.action.now _ c.self.inside.differ c.self.inside.partials.items (c.self.view_is ∙ h)
    (partial_unless _ (λ v k. c.in_default.not-Regular v k))
