use Rattle.std.proofs.Common.{◌≡◌, ◌+◌, length}
use Rattle.asm_element.specs.Slots.{live}
use Rattle.asm_element.specs.Chunks.{left_from}
use Rattle.asm_element.proofs.marked.Marked.next.Given as goal

abbrev pub invariant-loop-chunk : goal.invariant-loop-chunk
invariant-loop-chunk g l =
    live (left_from l.self-inside.chunks.now l.self-inside.at) ≡ live (left_from l.initial.self-inside.chunks.now l.initial.self-inside.at)

abbrev pub decreases-loop-chunk : goal.decreases-loop-chunk
decreases-loop-chunk g l = length (left_from l.self-inside.chunks.now l.self-inside.at) + length l.self-inside.chunks.now
