use Rattle.asm_aggregate.proofs.Listed.{entries_listed}
use Rattle.asm_aggregate.proofs.result_list.Results.into_vec.Goals as goal

pub returns : goal.returns
returns c = entries_listed c.self.inside.list.items c.args.self c.self.invariant c.self.view_is
