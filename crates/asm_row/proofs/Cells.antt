-- The names of a row's cells.
use Rattle.std.proofs.Common.{◌≡◌, ℕ, zero, suc, ◌<◌, List, [], ◌∷◌, length, slice_get, get_or, arith, refl, ap, sym}
use Rattle.std.specs.declared.alloc.Global.{Global}
use Rattle.std.specs.declared.option.Option.TheVariants.{Some}
use Rattle.once_cell.specs.Once.{cell_name}
use Rattle.asm_row.specs.Row.{cell_names}

pub length-cell_names : (cells : List (Global × ℕ)) → length (cell_names cells) ≡ length cells
length-cell_names [] = refl
length-cell_names (cell ∷ cells) = ap suc (length-cell_names cells)

pub slice_get-cell_names : (cells : List (Global × ℕ)) (at : ℕ) (cell : Global × ℕ) → at < length cells → cell ≡ get_or cells at cell → slice_get (cell_names cells) at ≡ Some (cell_name cell)
slice_get-cell_names [] at cell within is = absurd (omega arith)
slice_get-cell_names (first ∷ cells) zero cell within is = ap (λ (c : Global × ℕ). Some (cell_name c)) (sym is)
slice_get-cell_names (first ∷ cells) (suc at) cell within is = slice_get-cell_names cells at cell (omega arith) is

pub ruleset names = (length-cell_names, slice_get-cell_names)
