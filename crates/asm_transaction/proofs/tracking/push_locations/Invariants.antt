use Rattle.std.proofs.Common.{◌≡◌, ◌++◌, take}
use Rattle.asm_transaction.specs.View.{places_of}
use Rattle.asm_transaction.proofs.tracking.push_locations.Given as goal

-- the locations of the reads so far were appended
abbrev pub invariant-loop-read : goal.invariant-loop-read
invariant-loop-read l = l.all.items ≡ l.initial.all.items ++ places_of (take l.read-index l.reads)
