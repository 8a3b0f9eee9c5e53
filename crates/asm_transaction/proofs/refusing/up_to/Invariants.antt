use Rattle.std.proofs.Common.{◌≡◌, ◌++◌, filter}
use Rattle.std.specs.Ordering.{is_le}
use Rattle.asm_element.specs.Place.{location_cmp}
use Rattle.asm_transaction.proofs.refusing.up_to.Given as goal

-- those so far, and those of what is left, are those of all
abbrev pub invariant-loop-at : goal.invariant-loop-at
invariant-loop-at l =
    l.kept.items ++ filter (λ p. is_le (location_cmp p l.last)) l.at-iterator.rest.items
    ≡ filter (λ p. is_le (location_cmp p l.last)) l.fn.locations.items
