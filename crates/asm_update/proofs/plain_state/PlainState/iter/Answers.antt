use Rattle.std.proofs.Common.{◌∙◌}
use Rattle.asm_update.proofs.Walks.{walked, ascending}
use Rattle.asm_update.proofs.plain_state.PlainState.iter.Goals as goal

pub returns-clause-entries : goal.returns-clause-entries
returns-clause-entries c = c.iter.ensures.rest ∙ walked c.self.inside.values.entries c.self.invariant.ordered c.args.self.now c.self.view_is

pub returns-clause-ascending : goal.returns-clause-ascending
returns-clause-ascending c = ascending c.self.inside.values.entries c.self.invariant.ordered c.args.self.now c.self.view_is
