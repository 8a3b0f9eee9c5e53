use Rattle.std.proofs.Common.{◌∙◌}
use Rattle.asm_aggregate.proofs.Listed.{len_listed}
use Rattle.asm_aggregate.proofs.result_list.Results.len.Goals as goal

pub returns : goal.returns
returns c =
    c.len.ensures ∙ c.self.inside.list.ok.0
    ∙ len_listed c.self.inside.list.items c.args.self.now c.self.invariant c.self.view_is
