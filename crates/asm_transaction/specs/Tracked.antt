-- The locations that a transaction tracks, since the answer to a push or a pop depends on them.
use Rattle.std.specs.Prelude.{◌≡◌, ◌≤◌, ℕ, List, [], ◌∷◌, filter, length}
use Rattle.std.specs.List.{AllWithin}
use Rattle.std.specs.Ordering.{is_le}
use Rattle.std.specs.declared.cmp.Ordering.TheVariants.{Less, Greater}
use Rattle.asm_element.specs.Place.{Place, location_cmp}
use Rattle.asm_update.specs.Move.{Move}
use Rattle.asm_step.specs.Layers.{moves_of}
use Rattle.asm_step.specs.Places.{all_partial_places, partial_places}
use Rattle.asm_step.specs.declared.error.StepError.{StepError}
use Rattle.asm_step.specs.declared.error.StepError.TheVariants.{Clash, Large, Many, Deep, Memory}
use Rattle.asm_transaction.specs.View.{TransactionView}

-- the location, and those up to it at which the move has partial updates
abbrev pub refusal_places_to : Place → Move → List Place
refusal_places_to l M = l ∷ filter (λ k. is_le (location_cmp k l)) (partial_places M)

-- the locations on which a refusal depends: its own with the smaller ones at which the move has partial updates,
-- which fit there; all of these, if the move alone isn't the cause
abbrev pub refusal_places : Move → StepError → List Place
refusal_places M (Clash c) = refusal_places_to c.at M
refusal_places M (Large l) = refusal_places_to l M
refusal_places M Many = partial_places M
refusal_places M Deep = []
refusal_places M Memory = []

-- the locations at which the moves that were pushed last have partial updates
abbrev pub last_partial_places : TransactionView → List Place
last_partial_places t = all_partial_places (moves_of t.layers)

-- in a list in ascending order, the location goes there: those in front are below it, and the others above it
pub record IsPlaceFor (ls : List Place) (l : Place) (i : ℕ) : Type 0 where
  pub within : i ≤ length ls
  pub below : AllWithin (λ k. location_cmp k l ≡ Less) ls 0 i
  pub above : AllWithin (λ k. location_cmp k l ≡ Greater) ls i (length ls)
