use Rattle.std.proofs.Common.{◌≡◌, ◌≤◌, ◌+◌, ◌-◌, false, length, vec_len}
use Rattle.std.specs.Io.KnownBytes.{Consumes}
use Rattle.asm_driver.specs.Limits.{input_limit}
use Rattle.asm_driver.proofs.ports.input.read_input.Given as goal

-- what was read is what the input lost, and no read failed
abbrev pub invariant-loop-bytes : goal.invariant-loop-bytes
invariant-loop-bytes g l = record {
  consumed : Consumes (g.S.Source.remaining l.initial.input) (g.S.Source.remaining l.input) l.bytes.items;
  within : length l.bytes.items ≤ input_limit;
  same_reference : g.S.Source.lender l.input ≡ g.S.Source.lender l.initial.input;
  noted : g.S.Source.failed l.input ≡ false;
}

abbrev pub decreases-loop-bytes : goal.decreases-loop-bytes
decreases-loop-bytes g l = input_limit + 1 - vec_len l.bytes
