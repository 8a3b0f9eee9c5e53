use Rattle.std.proofs.Common.{◌≡◌, ◌++◌, ◌∷◌, [], All, length, subst, ap, arith}
use Rattle.std.proofs.lemmas.List.Elements.{All-head, All-rest}
use Rattle.asm_storage.specs.Part.{agent_of, IsPartOf}
use Rattle.asm_aggregate.specs.Standard.{standard_meaning}
use Rattle.asm_slots.specs.Standard.{meaning}
use Rattle.asm_slots.proofs.PartsAndAgents.{more_made}
use Rattle.asm_slots.proofs.store_close.agents_of.Goals as goal

pub loop-part-preserved : goal.loop-part-preserved
loop-part-preserved c =
    let l = c.loop-part.invariant in
    let s = c.args.storage.now in
    let part = c.in-Some.part in
    let left = c.loop-part.part-iterator.rest.items in
    let rest = c.next.new.self.rest.items in
    let step : left ≡ part ∷ rest = c.in-Some.ensures.steps.0 in
    let pushed : c.push.new.self.items ≡ c.loop-part.agents.items ++ c.of.result ∷ [] = rw c.unwrap.ensures at c.push.ensures.items in
    record {
      made = more_made (agent_of s) c.loop-part.agents.items c.push.new.self.items c.of.result part left rest _ l.made step pushed c.of.ensures;
      left = All-rest (IsPartOf meaning s) part rest left step l.left;
      room = omega (arith, l.room, ap length step, ap length pushed, c.push.ensures.capacity);
    }

pub of-requires-after_bounds : goal.of-requires-after_bounds
unfolding standard_meaning
of-requires-after_bounds c κs =
    let s = c.args.storage.now in
    let part = c.in-Some.part in
    let rest = c.next.new.self.rest.items in
    All-head (IsPartOf meaning s) part rest (subst (All (IsPartOf meaning s)) c.in-Some.ensures.steps.0 c.loop-part.invariant.left)
