use Rattle.std.proofs.Common.{◌≡◌, ◌≤◌, ◌+◌, ◌-◌, ◌∷◌, ◌++◌, [], take, drop, length, ℕ, List}
use Rattle.asm_element.specs.Slots.{live}
use Rattle.asm_element.specs.Entries.{AllFit}
use Rattle.asm_element.proofs.chunk.Chunk.with.Given as goal

abbrev pub invariant-loop-index : goal.invariant-loop-index
invariant-loop-index g l = record { so_far : l.pairs.items ≡ live (take l.index l.self); few : length l.pairs.items ≤ l.index; fits : AllFit g.M.Marks.most l.pairs.items; kept : l.key ≡ l.fn.key }

abbrev pub invariant-loop-index-2 : goal.invariant-loop-index-2
invariant-loop-index-2 g l = record {
  so_far : l.pairs.items ≡ live (take l.at l.self) ++ (l.fn.key, l.fn.n) ∷ live (take (l.index - l.at) (drop l.at l.self));
  few : length l.pairs.items ≤ l.index + 1;
  fits : AllFit g.M.Marks.most l.pairs.items;
}
