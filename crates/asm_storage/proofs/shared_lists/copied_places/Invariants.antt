use Rattle.std.proofs.Common.{◌≡◌, take}
use Rattle.asm_storage.proofs.shared_lists.copied_places.Given as goal

abbrev pub invariant-loop-place : goal.invariant-loop-place
invariant-loop-place l = l.items.items ≡ take l.place-index l.places
