use Rattle.std.proofs.Common.{◌≡◌, take}
use Rattle.asm_script.proofs.Gathering.{gathered}
use Rattle.asm_script.proofs.step.gathered_reads.Given as goal

-- what the blocks so far name was appended
abbrev pub invariant-loop-block : goal.invariant-loop-block
invariant-loop-block l = l.places.items ≡ gathered (take l.block-index l.earlier)
