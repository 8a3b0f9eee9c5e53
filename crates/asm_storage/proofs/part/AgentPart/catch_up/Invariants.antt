use Rattle.std.proofs.Common.{◌≡◌, ◌≤◌, ◌-◌, length}
use Rattle.asm_storage.specs.Part.{IsPartOf}
use Rattle.asm_storage.proofs.part.AgentPart.catch_up.Given as goal

-- only the state has changed
abbrev pub invariant-loop-alloc : goal.invariant-loop-alloc
invariant-loop-alloc g l = record {
  part : IsPartOf g.A.Aggregator.meaning l.storage l.self;
  kept : l.self ≡ record l.initial.self { state = l.self.state };
  onward : l.initial.self.state.number ≤ l.self.state.number;
}

abbrev pub decreases-loop-alloc : goal.decreases-loop-alloc
decreases-loop-alloc g l = length l.self.progress.seen - l.self.state.number
