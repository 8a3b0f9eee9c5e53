use Rattle.std.proofs.Common.{◌≡◌, take}
use Rattle.asm_storage.proofs.shared_lists.named_copies.Given as goal

abbrev pub invariant-loop-named : goal.invariant-loop-named
invariant-loop-named l = l.items.items ≡ take l.named-index l.reads
