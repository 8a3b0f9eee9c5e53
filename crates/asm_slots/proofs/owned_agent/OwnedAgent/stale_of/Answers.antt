use Rattle.std.proofs.Common.{◌≡◌, IfOk, ap, ◌∙◌, subst}
use Rattle.std_alloc.specs.Arc.{arc_value}
use Rattle.asm_storage.specs.Calls.{IsStaleRead}
use Rattle.asm_storage.specs.Part.{agent_of}
use Rattle.asm_storage.specs.Storage.{AgentAt, StorageView}
use Rattle.asm_aggregate.specs.Standard.{standard_meaning}
use Rattle.asm_slots.specs.Standard.{Standard, meaning}
use Rattle.asm_slots.specs.declared.shared.Shared.{Shared}
use Rattle.asm_slots.proofs.OwnAgents.{lent}
use Rattle.asm_slots.proofs.owned_agent.OwnedAgent.stale_of.Goals as goal

pub returns-clause-stale : goal.returns-clause-stale
unfolding standard_meaning
returns-clause-stale c =
    let reported = c.stands-stale in
    let part = c.into_part-part.result in
    let storage = (arc_value c.self.inside.shared).storage in
    let here : c.of-agent.result.storage ≡ storage =
    ap (λ (a : AgentAt Standard). a.storage) c.of-agent.ensures ∙ ap (λ (s : Shared). s.storage) c.deref.ensures in
    let new_is : reported.new.self ≡ agent_of storage part =
    c.into_part-part.ensures.agent ∙ ap (λ (s : StorageView Standard). agent_of s part) (reported.ensures.same.storage ∙ here) in
    subst (λ (a : AgentAt Standard). IfOk reported.result (IsStaleRead {A = Standard} meaning a c.args.reads.now)) new_is
    reported.ensures.stale

pub of-agent-requires-after_bounds : goal.of-agent-requires-after_bounds
unfolding standard_meaning
of-agent-requires-after_bounds c κs = lent _ _ c.self.inside.part c.deref.ensures c.self.invariant
