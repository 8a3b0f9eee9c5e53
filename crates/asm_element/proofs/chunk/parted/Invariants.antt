use Rattle.std.proofs.Common.{◌≡◌, ◌≤◌, ◌+◌, ◌++◌, length}
use Rattle.asm_element.specs.Slots.{slots}
use Rattle.asm_element.specs.Entries.{AllFit}
use Rattle.asm_element.proofs.chunk.parted.Given as goal

abbrev pub invariant-loop-key : goal.invariant-loop-key
invariant-loop-key g l = record {
  so_far : slots l.items.items (g.M.Marks.counts l.marks) ++ l.key-iterator.rest.items ≡ l.fn.pairs.items;
  few : length l.items.items + length l.key-iterator.rest.items ≤ 64;
  long : length (g.M.Marks.counts l.marks) ≡ 64;
  fits : AllFit g.M.Marks.most l.key-iterator.rest.items;
}
