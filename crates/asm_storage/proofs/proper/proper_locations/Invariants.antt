use Rattle.std.proofs.Common.{ℕ, ◌<◌, get_or}
use Rattle.asm_element.specs.Place.{Place, IsProper}
use Rattle.asm_storage.proofs.proper.proper_locations.Given as goal

-- those so far are proper
abbrev pub invariant-loop-at : goal.invariant-loop-at
invariant-loop-at l = (k : ℕ) (d : Place) → k < l.at-index → IsProper (get_or l.places k d)
