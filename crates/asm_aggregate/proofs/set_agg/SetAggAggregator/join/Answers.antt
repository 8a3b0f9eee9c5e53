use Rattle.asm_aggregate.proofs.Exits.{table_refused}
use Rattle.asm_aggregate.proofs.set_agg.SetAggAggregator.join.Goals as goal

pub returns-in-Err : goal.returns-in-Err
returns-in-Err c = table_refused _ _ c.in-Err.error _ c.in-Err.ensures.err
