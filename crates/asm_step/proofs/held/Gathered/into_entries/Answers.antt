use Rattle.std.proofs.Common.{ap, ◌∙◌}
use Rattle.asm_aggregate.specs.Bundle.{by_place}
use Rattle.asm_aggregate.proofs.Grouped.{walk-shown}
use Rattle.asm_step.proofs.held.Gathered.into_entries.Goals as goal

pub returns : goal.returns
returns c = ap by_place c.into_iter.ensures.into_iter_gives.0
    ∙ walk-shown c.self.inside.tree c.args.self c.self.invariant c.self.view_is
