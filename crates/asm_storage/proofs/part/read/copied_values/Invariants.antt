use Rattle.std.proofs.Common.{◌≡◌, take, map}
use Rattle.asm_storage.proofs.part.read.copied_values.Given as goal

abbrev pub invariant-loop-place : goal.invariant-loop-place
invariant-loop-place g l = l.values.items ≡ map (g.L.Lookup.value_at l.lookup) (take l.place-index l.places)
