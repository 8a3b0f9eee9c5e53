use Rattle.asm_play.proofs.Readings.{TellsFrom}
use Rattle.asm_play.proofs.read_values.ReadValuesLookup.get.Given as goal

-- the location isn't among those so far
abbrev pub invariant-loop-i : goal.invariant-loop-i
invariant-loop-i l = TellsFrom l.reading l.at l.i
