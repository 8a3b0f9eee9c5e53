use Rattle.std.proofs.Common.{◌≡◌, ◌-◌, length}
use Rattle.asm_storage_tests.proofs.row.threads.fill.Given as goal

abbrev pub invariant-loop-alloc : goal.invariant-loop-alloc
invariant-loop-alloc l = l.seat.row ≡ l.row

abbrev pub decreases-loop-alloc : goal.decreases-loop-alloc
decreases-loop-alloc l = length l.seat.row - length l.seat.seen
