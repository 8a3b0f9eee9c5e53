-- What contracts see of a mark.
use Rattle.std.specs.Prelude.{ℕ, List}

-- a mark of a row, with the entries of its first cells
pub record MarkView (X : Type 0) : Type 0 where
  pub row : List ℕ
  pub seen : List X
