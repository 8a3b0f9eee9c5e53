use Rattle.std.proofs.Common.{◌≡◌, ap}
use Rattle.std_alloc.specs.Arc.{arc_value}
use Rattle.asm_aggregate.specs.Standard.{standard_meaning}
use Rattle.asm_storage.specs.Calls.{IsFire}
use Rattle.asm_storage.specs.Part.{agent_of}
use Rattle.asm_slots.specs.Standard.{meaning}
use Rattle.asm_slots.specs.declared.shared.Shared.{Shared}
use Rattle.asm_slots.proofs.OwnAgents.{lent, part_fires}
use Rattle.asm_slots.proofs.owned_agent.OwnedAgent.fire.Goals as goal

pub returns : goal.returns
unfolding standard_meaning
returns c =
    let fired = c.try_fire_owned in
    let storage = (arc_value c.self.inside.shared).storage in
    let lent : c.deref.result.now.storage ≡ storage = ap (λ (s : Shared). s.storage) c.deref.ensures in
    let is : IsFire meaning c.args.self.now (agent_of storage fired.new.self) c.args.reads c.args.instrs fired.result =
    part_fires storage c.deref.result.now.storage c.self.inside.part fired.new.self c.args.self.now c.args.reads
    c.args.instrs fired.result lent c.self.view_is fired.ensures.fire in
    record {
      answered = record {
        same = is.same;
        seen = is.seen;
        refused = is.refused;
        busy = is.busy;
        offers = is.offers;
        few = is.few;
        missed = is.missed;
        lost = is.lost;
      };
      replied = is.answered;
      coherent = is.coherent;
      many = is.many;
    }

pub try_fire_owned-requires-clause-part : goal.try_fire_owned-requires-clause-part
unfolding standard_meaning
try_fire_owned-requires-clause-part c κs = lent _ _ c.self.inside.part c.deref.ensures c.self.invariant
