use Rattle.std.proofs.Common.{[], ◌∷◌, ◌++◌, sym, ◌∙◌, arith}
use Rattle.std.proofs.lemmas.List.FromFn.{map-range_with_len_more}
use Rattle.asm_storage.specs.Storage.{at_start}
use Rattle.asm_storage.proofs.storage.Storage.agents.Goals as goal

pub loop-id-preserved : goal.loop-id-preserved
loop-id-preserved g c =
    let last = c.in_ok-agent.ensures in
    let more = map-range_with_len_more (at_start c.args.self.now) 0 c.loop-id.id c.loop-id.id (omega arith) in
    c.in_ok-push.ensures.items ∙ (λ i. c.loop-id.invariant i ++ last i ∷ []) ∙ sym more
