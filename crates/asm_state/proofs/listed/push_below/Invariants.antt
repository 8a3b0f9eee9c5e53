use Rattle.std.proofs.Common.{◌≡◌, ◌++◌, ◌-◌, All, drop, length}
use Rattle.asm_state.specs.Listed.{by_value}
use Rattle.asm_state.specs.Merging.{IsListed, from_on, seen_below}
use Rattle.asm_state.proofs.listed.push_below.Given as goal

abbrev pub invariant-loop-next : goal.invariant-loop-next
invariant-loop-next l = record {
  list : by_value l.list.items ++ seen_below l.at (by_value (drop l.next l.written))
      ≡ by_value l.fn.list.items ++ seen_below l.at (by_value (drop l.from l.written));
  left : from_on l.at (by_value (drop l.next l.written)) ≡ from_on l.at (by_value (drop l.from l.written));
  listed : All IsListed (by_value l.fn.list.items) → All IsListed (by_value l.list.items);
}

abbrev pub decreases-loop-next : goal.decreases-loop-next
decreases-loop-next l = length l.written - l.next
