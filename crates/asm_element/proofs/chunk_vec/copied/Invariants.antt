use Rattle.std.proofs.Common.{◌≡◌, take}
use Rattle.asm_element.proofs.chunk_vec.copied.Given as goal

abbrev pub invariant-loop-chunk : goal.invariant-loop-chunk
invariant-loop-chunk g l = l.copy.items ≡ take l.chunk-index l.chunks
