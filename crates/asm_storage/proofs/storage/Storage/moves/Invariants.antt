use Rattle.std.proofs.Common.{◌≡◌, ◌-◌, length}
use Rattle.asm_storage.proofs.storage.Storage.moves.Given as goal

-- it walks along this row
abbrev pub invariant-loop : goal.invariant-loop
invariant-loop g l = l.progress.row ≡ l.self.row

abbrev pub decreases-loop : goal.decreases-loop
decreases-loop g l = length l.self.row - length l.progress.seen
