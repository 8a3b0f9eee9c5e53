-- Causes that are found in the order of a table.
use Rattle.std.specs.Prelude.{Bool, List, [], ◌∷◌, Result, Ok, Err, if◌then◌else◌}

-- the first cause of the table whose test holds, or else the value
abbrev pub first_cause : {A E : Type 0} → List (Bool × E) → A → Result A E
first_cause [] value = Ok value
first_cause (row ∷ table) value = if row.0 then Err row.1 else first_cause table value
