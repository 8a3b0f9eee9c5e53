use Rattle.std.proofs.Common.{◌≡◌, ◌++◌, ◌∷◌, [], All, length, subst, sym, ap, ◌∙◌, arith}
use Rattle.std.proofs.lemmas.List.Elements.{All-push, All-same, All-tail}
use Rattle.asm_storage.specs.Part.{agent_of, IsPartOf}
use Rattle.asm_storage.specs.Storage.{IsOf, StorageView}
use Rattle.asm_aggregate.specs.Standard.{standard_meaning}
use Rattle.asm_slots.specs.Standard.{Standard, meaning}
use Rattle.asm_slots.proofs.PartsAndAgents.{more_apart}
use Rattle.asm_slots.proofs.store_close.parts_of.Goals as goal

pub loop-agent-preserved : goal.loop-agent-preserved
unfolding standard_meaning
loop-agent-preserved c =
    let l = c.loop-agent.invariant in
    let s = c.args.storage.now in
    let agent = c.in-Some.agent in
    let left = c.loop-agent.agent-iterator.rest.items in
    let rest = c.next.new.self.rest.items in
    let part = c.into_part.result in
    let step : left ≡ agent ∷ rest = c.in-Some.ensures.steps.0 in
    let pushed : c.push.new.self.items ≡ c.loop-agent.parts.items ++ part ∷ [] = rw c.unwrap.ensures at c.push.ensures.items in
    let each : All (IsOf s) (agent ∷ rest) = subst (All (IsOf s)) step l.left in
    let here : agent.storage ≡ s = each 0 agent (omega arith) in
    let is : agent_of s part ≡ agent = ap (λ (x : StorageView Standard). agent_of x part) (sym here) ∙ sym c.into_part.ensures.agent in
    record {
      made = more_apart (agent_of s) c.loop-agent.parts.items c.push.new.self.items part agent left rest _ l.made step pushed is;
      parts = All-same (IsPartOf meaning s) c.push.new.self.items (c.loop-agent.parts.items ++ part ∷ []) pushed
          (All-push (IsPartOf meaning s) c.loop-agent.parts.items part l.parts
          (subst (λ (x : StorageView Standard). IsPartOf meaning x part) here c.into_part.ensures.part));
      left = All-tail (IsOf s) agent rest each;
      room = omega (arith, l.room, ap length step, ap length pushed, c.push.ensures.capacity);
    }
