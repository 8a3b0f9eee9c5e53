use Rattle.std.proofs.Common.{Err}
use Rattle.asm_aggregate.proofs.Composing.{limited_list, refused_list, keeps_sequence}
use Rattle.asm_aggregate.proofs.composition.compose.Goals as goal

pub returns-in-Ok-clause-sequence : goal.returns-in-Ok-clause-sequence
returns-in-Ok-clause-sequence g c =
    keeps_sequence
    (g.met.A.Aggregator.laws c.args.aggregator.now) c.args.first.now c.args.second.now c.limited.result
    c.proper.ensures c.proper-2.ensures
    (limited_list
    (g.A.Aggregator.meaning c.args.aggregator.now) c.args.first.now c.args.second.now _ c.limited.result
    c.in-Ok.ensures c.limited.ensures)

pub returns-in-Err-clause-sequence : goal.returns-in-Err-clause-sequence
returns-in-Err-clause-sequence g c =
    keeps_sequence (g.met.A.Aggregator.laws c.args.aggregator.now) c.args.first.now c.args.second.now
    (Err c.in-Err.error) c.proper.ensures c.proper-2.ensures
    (refused_list
    (g.A.Aggregator.meaning c.args.aggregator.now) c.args.first.now c.args.second.now c.in-Err.error
    c.in-Err.ensures)
