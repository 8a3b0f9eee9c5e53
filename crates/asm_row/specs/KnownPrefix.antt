-- What a `KnownPrefix` owns.
use Rattle.std.specs.Prelude.{ℕ, List, [], ◌∷◌}
use base.Fml.{Fml, ftrue, ffalse, fsep}
use denote.RattleType.{RattleType}
use Rattle.std.specs.declared.option.Option.TheVariants.{Some}
use Rattle.once_cell.specs.Once.{noted}

module _ (R : RattleType) where
  -- a note of each of the first cells of a row, which knows the final entry of that cell
  abbrev pub all_noted : List ℕ → List R.Denot → Fml
  all_noted cells [] = ftrue
  all_noted [] (x ∷ xs) = ffalse
  all_noted (c ∷ cells) (x ∷ xs) = fsep (noted R c (Some x)) (all_noted cells xs)
