-- What contracts see of a seat and of its progress, and what is true of a progress's fields.
use Rattle.std.specs.Prelude.{◌≡◌, ℕ, ◌≤◌, List, length}

-- a seat at a row, or its progress: the entries that it has seen, how many of its attempts to append won, and how
-- many of its polls found an empty cell
pub record SeatView (X : Type 0) : Type 0 where
  pub row : List ℕ
  pub seen : List X
  pub won : ℕ
  pub misses : ℕ

-- the lengths are counted, what was seen fits the row, and no more attempts to append won than entries were seen
pub record IsProgress {X : Type 0} (capacity seen_len won : ℕ) (row : List ℕ) (seen : List X) : Type 0 where
  pub whole : capacity ≡ length row
  pub counted : seen_len ≡ length seen
  pub within : seen_len ≤ capacity
  pub won_within : won ≤ seen_len
