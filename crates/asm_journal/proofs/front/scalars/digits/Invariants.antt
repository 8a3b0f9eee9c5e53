use Rattle.std.proofs.Common.{◌≡◌, ◌<◌, ◌≤◌, ◌^◌, ◌++◌, length, decimal}
use Rattle.asm_journal.proofs.front.scalars.digits.Given as goal

abbrev pub invariant-digits : goal.invariant-digits
invariant-digits l = record {
  some : 1 ≤ l.value;
  small : l.value < 2 ^ 63;
  whole : l.fn.text ≡ decimal l.value ++ l.rest;
}

abbrev pub decreases-digits : goal.decreases-digits
decreases-digits l = length l.rest
