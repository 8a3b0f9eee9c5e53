use Rattle.std.proofs.Common.{◌≡◌, List, ℕ, subst, sym, ap, ◌∙◌}
use Rattle.asm_element.specs.Entries.{held}
use Rattle.asm_element.specs.Chunks.{there, AreChunks}
use Rattle.asm_element.proofs.Edits.{ordered_here, found_sides, missing_sides, sides_at}
use Rattle.asm_element.proofs.chunk_vec.count_in.Goals as goal

pub find-requires : goal.find-requires
find-requires g c = ordered_here c.args.chunks.now c.requires c.place.result c.index-chunks-place.result c.place.ensures.in_range c.index-chunks-place.is

pub returns-in-Ok : goal.returns-in-Ok
returns-in-Ok g c =
    sides_at _ _ _ _ _ (found_sides c.args.chunks.now c.requires c.args.key.now c.place.result c.place.ensures c.index-chunks-place.result c.index-chunks-place.is c.in-Ok.at c.in-Ok.ensures.found)
    ∙ ap held (sym c.count.ensures.value)

pub returns-in-Err : goal.returns-in-Err
returns-in-Err g c =
    sides_at _ _ _ _ _ (missing_sides c.args.chunks.now c.requires c.args.key.now c.place.result c.place.ensures c.index-chunks-place.result c.index-chunks-place.is _ c.in-Err.ensures.absent)
