use Rattle.asm_aggregate.proofs.Listed.{sorted_none}
use Rattle.asm_aggregate.proofs.result_list.Results.with_room.Goals as goal

pub invariant_of-result : goal.invariant_of-result
invariant_of-result c = sorted_none c.in_ok-with_capacity.field-0.items c.in_ok-with_capacity.ensures.items
