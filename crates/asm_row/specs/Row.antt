-- What contracts see of a row.
use Rattle.std.specs.Prelude.{ℕ, List, [], ◌∷◌}
use Rattle.std.specs.declared.alloc.Global.{Global}
use Rattle.once_cell.specs.Once.{cell_name}

-- the names of a row's cells, which distinguish it from other rows
abbrev pub cell_names : List (Global × ℕ) → List ℕ
cell_names [] = []
cell_names (cell ∷ cells) = cell_name cell ∷ cell_names cells
