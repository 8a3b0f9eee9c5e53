use Rattle.std.proofs.Common.{◌≡◌, take}
use Rattle.asm_transaction.proofs.tracking.copied.Given as goal

-- the reads so far were copied
abbrev pub invariant-loop-read : goal.invariant-loop-read
invariant-loop-read l = l.copies.items ≡ take l.read-index l.reads
