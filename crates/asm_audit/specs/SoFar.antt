-- What an audit has counted, and the state that the moves so far leave.
use Rattle.std.specs.Prelude.{◌≡◌, ◌≢◌, ◌<◌, ◌⊎◌, ℕ, List, [], ◌∷◌, ◌++◌, length, Option, Some, None}
use Rattle.asm_update.specs.Fire.{Part, state_of}
use Rattle.asm_update.specs.State.{State}
use Rattle.asm_storage.specs.History.{fired_moves}
use Rattle.asm_storage.specs.declared.history.History.{History}
use Rattle.asm_journal.specs.Reading.{HasNoLineFeed}
use Rattle.asm_audit.specs.declared.progress.Counts.{Counts}
use Rattle.asm_audit.specs.declared.progress.Progress.{Progress}
use Rattle.asm_audit.specs.Text.{IsShortLines}
use Rattle.asm_audit.specs.Chain.{last_left, HasLegal, IsGoing}
use Rattle.asm_audit.specs.Fault.{counted}
use Rattle.asm_audit.specs.Audited.{calls_of, moves_of, IsAudited}
use Rattle.asm_audit.specs.Fed.{IsFed}
use Rattle.asm_audit.specs.Run.{all_events}

-- after these complete parts the text ends, or it is the beginning of one more, which is legal so far and lacks an
-- event; these are the histories of all
abbrev pub IsOnward : Part → State → List History → List ℕ → List History → Type 0
IsOnward part first whole rest all =
    ((rest ≡ []) × (all ≡ whole))
    ⊎ ((v count : ℕ) × (h : History) × IsGoing part (last_left part first whole) v count h rest []
    × (length h.events < count) × (all ≡ whole ++ h ∷ []))

-- the text is complete legal parts that continue one another, and perhaps the beginning of one more
pub record IsSoFar (part : Part) (text : List ℕ) (first : State) (whole all : List History) : Type 0 where
  pub rest : List ℕ
  pub has : HasLegal part first whole text rest
  pub onward : IsOnward part first whole rest all

-- the numbers are those of all calls and moves of the text, and of its complete parts
pub record HasCounts (part : Part) (text : List ℕ) (w : Counts) : Type 0 where
  pub first : State
  pub whole : List History
  pub all : List History
  pub so_far : IsSoFar part text first whole all
  pub calls : w.calls ≡ counted (calls_of all)
  pub moves : w.moves ≡ counted (moves_of all)
  pub parts : w.parts ≡ counted (length whole)

-- the state is what all moves of the text leave, in turn, of the state with which its first part opens
pub record HasLeft (part : Part) (text : List ℕ) (s : State) : Type 0 where
  pub first : State
  pub whole : List History
  pub all : List History
  pub so_far : IsSoFar part text first whole all
  pub some : all ≢ []
  pub left : s ≡ state_of part first (fired_moves (all_events all))

-- there is no state if no part has begun
abbrev pub HasState : Part → List ℕ → Option State → Type 0
HasState part text None = text ≡ []
HasState part text (Some s) = HasLeft part text s

-- the numbers of any text that was read
abbrev pub AreSoFar : Part → Progress → Counts → Type 0
AreSoFar part p w = (text : List ℕ) → IsAudited part text p → HasCounts part text w

-- the state of any text that was read
abbrev pub IsStateSoFar : Part → Progress → Option State → Type 0
IsStateSoFar part p s = (text : List ℕ) → IsAudited part text p → HasState part text s

-- these are the lines of the text that have ended
abbrev pub HasEnded : List ℕ → List ℕ → Type 0
HasEnded text ended = (line : List ℕ) × (ended ++ line ≡ text) × IsShortLines ended × HasNoLineFeed line

-- the numbers of the ended lines of any text that was fed
abbrev pub AreFedSoFar : Part → Progress → List ℕ → Counts → Type 0
AreFedSoFar part p line w =
    (text : List ℕ) → IsFed part text p line → (ended : List ℕ) × HasEnded text ended × HasCounts part ended w

-- the state of the ended lines of any text that was fed
abbrev pub IsFedStateSoFar : Part → Progress → List ℕ → Option State → Type 0
IsFedStateSoFar part p line s =
    (text : List ℕ) → IsFed part text p line → (ended : List ℕ) × HasEnded text ended × HasState part ended s
