use Rattle.std.proofs.Common.{◌≡◌, List, ℕ, subst, sym, ap, ◌∙◌, IsTrue, true}
use Rattle.asm_element.specs.Chunks.{there, AreChunks}
use Rattle.asm_element.proofs.Edits.{swept_there, swept_chunks}
use Rattle.asm_element.proofs.chunk_vec.sweep.Goals as goal

pub returns-then-is_dead-clause-same : goal.returns-then-is_dead-clause-same
returns-then-is_dead-clause-same g c =
    ap there c.remove.ensures.items
    ∙ swept_there c.args.chunks.now.items c.requires.chunks c.args.index c.index.result.now c.requires.in_range c.index.ensures (c.is_dead.ensures c.if-is_dead.true)

pub returns-then-is_dead-clause-chunks : goal.returns-then-is_dead-clause-chunks
returns-then-is_dead-clause-chunks g c =
    subst AreChunks (sym c.remove.ensures.items)
    (swept_chunks c.args.chunks.now.items c.requires.chunks c.args.index c.index.result.now c.requires.in_range c.index.ensures)
