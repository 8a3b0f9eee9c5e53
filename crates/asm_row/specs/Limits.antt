-- The numbers of this project's profile that bound a row.
use Rattle.std.specs.Prelude.{◌≡◌, ◌<◌, ◌⊎◌, ℕ}

-- the most cells of a row
abbrev pub capacity_limit : ℕ
capacity_limit = 1048576

-- no row has this capacity
abbrev pub IsNoCapacity : ℕ → Type 0
IsNoCapacity capacity = (capacity ≡ 0) ⊎ (capacity_limit < capacity)
