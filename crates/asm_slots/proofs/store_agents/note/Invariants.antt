use Rattle.std.proofs.Common.{◌≡◌, ◌++◌, ◌+◌, ◌≤◌, length, vec_capacity}
use Rattle.std.specs.List.{range_with_len}
use Rattle.asm_slots.proofs.store_agents.note.Given as goal

abbrev pub invariant-loop-id : goal.invariant-loop-id
invariant-loop-id l = record {
  noted : l.numbers.items ≡ l.fn.numbers.items ++ range_with_len 0 l.id;
  long : length l.numbers.items ≡ length l.fn.numbers.items + l.id;
  room : length l.fn.numbers.items + l.count ≤ vec_capacity l.numbers;
}
