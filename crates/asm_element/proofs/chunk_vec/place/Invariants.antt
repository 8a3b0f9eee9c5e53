use Rattle.std.proofs.Common.{◌≡◌, ◌<◌, ◌≤◌, ◌-◌, ◌+◌, length, take, drop, ℕ}
use Rattle.std.specs.Map.{keys_of}
use Rattle.asm_element.specs.Slots.{joined, AllBelow, AllAbove}
use Rattle.asm_element.proofs.chunk_vec.place.Given as goal

abbrev pub invariant-loop-low : goal.invariant-loop-low
invariant-loop-low g l = record {
  range : l.low < l.high;
  end : l.high ≤ length l.chunks;
  below : AllBelow l.key (keys_of (joined (take l.low l.chunks)));
  above : AllAbove l.key (keys_of (joined (drop l.high l.chunks)));
}

abbrev pub decreases-loop-low : goal.decreases-loop-low
decreases-loop-low g l = l.high - l.low
