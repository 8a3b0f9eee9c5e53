-- The two sides of partial updates: what they add, and what they remove.
use Rattle.asm_aggregate.specs.declared.side.Side.{Side}
use Rattle.asm_aggregate.specs.declared.side.Side.TheVariants.{Added, Removed}

-- the other side
abbrev pub other : Side → Side
other Added = Removed
other Removed = Added
