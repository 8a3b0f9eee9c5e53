-- Whether a transaction stands: whether a commit would find it stale.
use Rattle.std.specs.Prelude.{◌≡◌, ℕ, true, false, List, Option, Some, None, Contains, IsTrue}
use Rattle.asm_element.specs.Place.{Place}
use Rattle.asm_state.specs.FollowsFrom.{is_stale}
use Rattle.asm_state.specs.Scans.{has_name}
use Rattle.asm_update.specs.Aggregator.{Meaning}
use Rattle.asm_update.specs.Fire.{Part}
use Rattle.asm_update.specs.Move.{Move}
use Rattle.asm_update.specs.State.{State}
use Rattle.asm_storage.specs.Storage.{AgentAt}
use Rattle.asm_transaction.specs.Commit.{IsOverwritten}
use Rattle.asm_transaction.specs.View.{TransactionView}

-- a move after the transaction's version has written this location, on which its commit depends; or none that the agent
-- has seen has written one of those
abbrev pub Stands : {A : Type 0} → (A → Meaning) → AgentAt A → TransactionView → Option Place → Type 0
Stands meaning a t (Some l) = IsOverwritten meaning a t l
Stands meaning a t None = (l : Place) → ¬ IsOverwritten meaning a t l

-- ---- one kind of location

-- one of the moves after the first n overwrites this location, which has the property; or none overwrites one that has it
abbrev pub FindsWritten : Part → State → List Move → ℕ → (Place → Type 0) → Option Place → Type 0
FindsWritten part A q n IsOne (Some l) = IsOne l × (is_stale part A q l n ≡ true)
FindsWritten part A q n IsOne None = (l : Place) → IsOne l → is_stale part A q l n ≡ false

-- the location is of a function with one of these names
abbrev pub IsOfOne : List (List ℕ) → Place → Type 0
IsOfOne names l = (name : List ℕ) × Contains names name × IsTrue (has_name name l)
