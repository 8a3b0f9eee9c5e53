use Rattle.std.proofs.Common.{◌≡◌, map, take}
use Rattle.asm_storage.proofs.shared_lists.places_named.Given as goal

abbrev pub invariant-loop-named : goal.invariant-loop-named
invariant-loop-named l = l.places.items ≡ map (λ x. x.at) (take l.named-index l.reads)
