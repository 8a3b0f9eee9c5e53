use Rattle.std.proofs.Common.{◌≡◌, ◌++◌, All, map}
use Rattle.asm_transaction.proofs.tracking.named_at.Given as goal

-- the locations so far, and those that are left, are all; each so far has the number
abbrev pub invariant-loop-at : goal.invariant-loop-at
invariant-loop-at l = record {
  locations : map (λ r. r.at) l.reads.items ++ l.at-iterator.rest.items ≡ l.fn.locations.items;
  numbers : All (λ r. r.number ≡ l.number) l.reads.items;
}
