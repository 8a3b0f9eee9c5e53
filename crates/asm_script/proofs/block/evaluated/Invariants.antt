use Rattle.std.proofs.Common.{◌≡◌, length, drop}
use Rattle.asm_script.proofs.BlockMoves.{IsMoved}
use Rattle.asm_script.proofs.block.evaluated.Given as goal

-- the instructions so far, and the move of those that are left, are the move of all
abbrev pub invariant-loop-written : goal.invariant-loop-written
invariant-loop-written g l =
    IsMoved (g.L.Lookup.value_at l.lookup) l.instructions l.written-index l.done.items
    (drop l.written-index l.instructions)
    × (length l.done.items ≡ l.written-index)
