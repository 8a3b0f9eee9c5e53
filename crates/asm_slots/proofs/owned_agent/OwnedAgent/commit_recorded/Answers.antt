use Rattle.std.proofs.Common.{◌≡◌, ap}
use Rattle.std_alloc.specs.Arc.{arc_value}
use Rattle.asm_aggregate.specs.Standard.{standard_meaning}
use Rattle.asm_transaction.specs.Record.{Records}
use Rattle.asm_slots.specs.Standard.{meaning}
use Rattle.asm_slots.specs.declared.shared.Shared.{Shared}
use Rattle.asm_slots.proofs.OwnAgents.{lent, of_part}
use Rattle.asm_slots.proofs.owned_agent.OwnedAgent.commit_recorded.Goals as goal

pub returns : goal.returns
unfolding standard_meaning
returns c =
    let storage = (arc_value c.self.inside.shared).storage in
    let lent : c.deref.result.now.storage ≡ storage = ap (λ (s : Shared). s.storage) c.deref.ensures in
    of_part (λ x y. Records meaning x y c.args.transaction.now c.commit_recorded_in.result) storage
    c.deref.result.now.storage c.self.inside.part c.commit_recorded_in.new.part c.args.self.now lent c.self.view_is c.commit_recorded_in.ensures.records

pub commit_recorded_in-requires-clause-part : goal.commit_recorded_in-requires-clause-part
unfolding standard_meaning
commit_recorded_in-requires-clause-part c κs = lent _ _ c.self.inside.part c.deref.ensures c.self.invariant
