use Rattle.std.proofs.Common.{◌≡◌, map, take}
use Rattle.asm_storage.proofs.held_values.have_values.Given as goal

abbrev pub invariant-loop-index : goal.invariant-loop-index
invariant-loop-index g l = map (g.L.Lookup.value_at l.lookup) (take l.index l.locations) ≡ take l.index l.values
