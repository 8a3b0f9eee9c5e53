use Rattle.std.proofs.Common.{◌≡◌, ◌-◌, length}
use Rattle.asm_storage.specs.Part.{HasPolledRow}
use Rattle.asm_storage.proofs.part.AgentPart.poll.Given as goal

-- what was found so far was seen, and no look has missed yet
abbrev pub invariant-loop : goal.invariant-loop
invariant-loop g l = record {
  polls : HasPolledRow g.A.Aggregator.meaning l.storage l.initial.self l.self;
  misses : l.self.progress.misses ≡ l.initial.self.progress.misses;
  state : l.self.state ≡ l.initial.self.state;
}

abbrev pub decreases-loop : goal.decreases-loop
decreases-loop g l = length l.storage.row - length l.self.progress.seen
