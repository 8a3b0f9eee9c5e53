use Rattle.std.proofs.Common.{◌≡◌, List, [], ◌∷◌, ◌++◌, Some, slice_get, arith, ap, subst}
use Rattle.asm_update.specs.Move.{Move}
use Rattle.asm_update.specs.State.{State}
use Rattle.asm_state.specs.FollowsFrom.{FollowsFrom}
use Rattle.asm_storage.specs.declared.part.AgentPart.{AgentPart}
use Rattle.asm_storage.specs.Storage.{machine_of}
use Rattle.asm_storage.proofs.PartInvariant.{following_next}
use Rattle.asm_storage.proofs.part.AgentPart.catch_up.Goals as goal

pub loop-alloc-preserved : goal.loop-alloc-preserved
loop-alloc-preserved g c =
    let p = c.loop-alloc.self in
    let meaning = g.A.Aggregator.meaning in
    let entry = c.at-entry.result.now in
    let part = c.loop-alloc.invariant.part in
    let here : slice_get p.progress.seen p.state.number ≡ Some entry =
    subst (λ k. slice_get p.progress.seen k ≡ Some entry) c.number-in-loop-alloc.ensures c.at-entry.ensures in
    let next = subst (λ agg. (init : State) (q : List Move) → FollowsFrom (meaning agg).part init p.state q →
    FollowsFrom (meaning agg).part init c.follow.new.self (q ++ entry.instrs ∷ []))
    c.aggregator.ensures c.in_ok-follow.ensures.ok in
    record {
      part = record {
        row = part.row;
        few = part.few;
        counted = part.counted;
        agent = part.agent;
        following = following_next (machine_of meaning c.args.storage.now) p.progress.seen p.state c.follow.new.self entry
            part.following here c.in_ok-follow.ensures.number next;
      };
      kept = ap (λ (old : AgentPart). record old { state = c.follow.new.self }) c.loop-alloc.invariant.kept;
      onward = omega (arith, c.loop-alloc.invariant.onward, c.in_ok-follow.ensures.number);
    }
