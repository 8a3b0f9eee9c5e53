-- What a list of jobs gives.
use Rattle.std.specs.Prelude.{◌≡◌, ◌⊎◌, List, [], ◌∷◌, Result, Ok, Err}
use Rattle.asm_play.specs.declared.outcome.RunError.{RunError}
use Rattle.asm_play.specs.declared.outcome.RunError.TheVariants.{NoThread, Memory}

-- each job gave what is at its place
abbrev pub GivesEach : {J X : Type 0} → (J → X → Type 0) → List J → List X → Type 0
GivesEach gives [] [] = Unit {0}
GivesEach gives (j ∷ jobs) (x ∷ done) = gives j x × GivesEach gives jobs done
GivesEach gives [] (x ∷ done) = ⊥
GivesEach gives (j ∷ jobs) [] = ⊥

-- why jobs were not done: a thread is missing, or memory was refused
abbrev pub IsUndone : RunError → Type 0
IsUndone e = (e ≡ NoThread) ⊎ (e ≡ Memory)

-- which of two errors goes before the other: a missing thread before an allocation failure
abbrev pub foremost_error : RunError → RunError → RunError
foremost_error NoThread _ = NoThread
foremost_error _ other = other

-- the error of two halves: that of one, the foremost of two, and an allocation failure where there is none, as what
-- both gave was to be put together
abbrev pub error_of_both : {X Y : Type 0} → Result X RunError → Result Y RunError → RunError
error_of_both (Ok x) (Ok y) = Memory
error_of_both (Ok x) (Err g) = g
error_of_both (Err f) (Ok y) = f
error_of_both (Err f) (Err g) = foremost_error f g
