use Rattle.std.specs.Prelude.{◌≡◌, true}
use Rattle.asm_storage.specs.Calls.{HasOffered, Ran, is_plain_over}
use Rattle.asm_storage.specs.Part.{IsAsked, agent_of, HasPolledRow}
use Rattle.asm_storage.proofs.part.AgentPart.fire.Given as goal

-- each turn so far lost one offer, and the fire is still asked for
abbrev pub invariant-loop-lost : goal.invariant-loop-lost
invariant-loop-lost g l = record {
  callable : goal.F-IsAlwaysCallable g l.between;
  pending : IsAsked l.initial.self.id l.fn.asked.reads l.fn.asked.instrs l.pending;
  polls : HasPolledRow g.A.Aggregator.meaning l.storage l.initial.self l.self;
  unmoved : is_plain_over l.fn.asked.reads l.scans l.fn.asked.instrs ≡ true → l.self.state.number ≡ l.initial.self.state.number;
  counted : HasOffered (agent_of l.storage l.initial.self) (agent_of l.storage l.self) l.lost l.lost;
  calls : Ran (λ p q. goal.F-step g p tt q) l.initial.between l.lost l.between;
}
