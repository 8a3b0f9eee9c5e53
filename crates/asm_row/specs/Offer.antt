-- Facts of an attempt that won, or lost to an entry.
use Rattle.asm_row.specs.declared.seat.Offer.{Offer}
use Rattle.asm_row.specs.declared.seat.Offer.TheVariants.{Won, Lost}
use Rattle.std.specs.Borrow.{Bor}

-- P where the attempt won
abbrev pub IfWon : {X : Type 0} → Offer X → Type 0 → Type 0
IfWon Won P = P
IfWon (Lost entry) P = Unit {0}

-- P of the entry in the cell, where the attempt lost
abbrev pub IfLost : {X : Type 0} → Offer X → (Bor X → Type 0) → Type 0
IfLost Won P = Unit {0}
IfLost (Lost entry) P = P entry
