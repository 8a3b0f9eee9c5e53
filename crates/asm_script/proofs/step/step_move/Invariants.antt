use Rattle.std.proofs.Common.{◌≡◌, length, drop}
use Rattle.asm_script.proofs.Advancing.{AreSequenced}
use Rattle.asm_script.proofs.step.step_move.Given as goal

-- the blocks so far are frames, and composed to what is done
abbrev pub invariant-loop-block : goal.invariant-loop-block
invariant-loop-block g l =
    AreSequenced (g.A.Aggregator.meaning l.aggregator) (g.L.Lookup.value_at l.reading) l.step l.overlay l.done
    (drop l.block-index l.block-items) l.step-inside.last
    × (length l.overlay ≡ l.block-index)
