use Rattle.std.proofs.Common.{◌≡◌, ◌++◌, All, drop}
use Rattle.asm_state.specs.Listed.{by_value}
use Rattle.asm_state.specs.Merging.{IsListed, listing}
use Rattle.asm_state.proofs.listed.merged.Given as goal

abbrev pub invariant-loop-at : goal.invariant-loop-at
invariant-loop-at l = record {
  list : by_value l.list.items ++ listing (by_value (drop l.at-index l.opening)) (by_value (drop l.next l.written))
      ≡ listing (by_value l.opening) (by_value l.written);
  listed : All IsListed (by_value l.list.items);
}
