use Rattle.std.proofs.Common.{ℕ, length, List, ◌++◌, ◌∷◌, [], ◌∙◌, subst, rules}
use Rattle.asm_run.specs.Protocol.{Orders, Saves}
use Rattle.asm_storage.specs.History.{fired_moves}
use Rattle.asm_run.specs.Writer.{IsAfter, IsHanded}
use Rattle.asm_run.specs.Durable.{reported_segments}
use Rattle.asm_run.proofs.Next as next
use Rattle.asm_run.proofs.writer.RunWriter.hand_closed.Goals as goal

pub returns-clause-ok : goal.returns-clause-ok
returns-clause-ok c = λ part history h legal opens.
    let closed = c.args.closed.now in
    subst (λ (text : List ℕ). IsAfter part c.hand.new.self
    (history ++ Orders (Saves (c.in_ok-name.name.items, text)) ∷ [])) c.as_bytes.ensures.value
    (c.in_ok-name.ensures.ok part history h
    (next.closes part (reported_segments history) closed c.as_bytes.result.now _ _ c.moves.result
    c.reads_back.ensures.back (c.as_bytes.ensures.value ∙ c.in_ok-text.ensures) (search rules) c.moves.ensures
    (search rules) c.requires.few legal opens))

pub returns-clause-handed : goal.returns-clause-handed
returns-clause-handed c =
    let closed = c.args.closed.now in
    subst (λ (text : List ℕ). IsHanded c.args.self.now (length (fired_moves closed.events))
    (length closed.events) text c.in_ok-name.name.items c.hand.new.self) c.as_bytes.ensures.value
    (next.counted c.args.self.now c.hand.new.self closed _ _ c.moves.result c.as_bytes.result.now
    c.in_ok-name.name.items (search rules) c.moves.ensures
    (search rules) c.requires.few c.in_ok-name.ensures.handed)
