use Rattle.std.proofs.Common.{◌∙◌}
use Rattle.asm_update.proofs.Walks.{walked, ascending}
use Rattle.asm_update.proofs.plain_state.PlainStateIntoIterator.into_iter.Goals as goal

pub returns : goal.returns
returns c =
    let gives = c.into_iter.ensures.into_iter_gives in
    record {
      into_iter_gives = (
        gives.0 ∙ walked c.self.inside.values.entries c.self.invariant.ordered c.args.self c.self.view_is,
        ascending c.self.inside.values.entries c.self.invariant.ordered c.args.self c.self.view_is,
        gives.2,
      );
    }
