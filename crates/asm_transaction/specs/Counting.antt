-- What a transaction reports of a function without listing it.
use Rattle.std.specs.Prelude.{◌≡◌, ◌≢◌, ◌↔◌, ℕ, Bool, List, true, false, min}
use Rattle.std.specs.FinMap as map
use Rattle.std.specs.Option.{option_map_or}
use Rattle.asm_element.specs.Place.{Place}
use Rattle.asm_element.specs.Value.{is_undef, undef}
use Rattle.asm_state.specs.Shown.{count_limit}
use Rattle.asm_storage.specs.Storage.{AgentAt}
use Rattle.asm_update.specs.Aggregator.{Meaning}
use Rattle.asm_update.specs.State.{State, val}
use Rattle.asm_transaction.specs.Scanning.{IsScan}
use Rattle.asm_transaction.specs.View.{TransactionView}

-- the answer is whether the scan of the function has a value at a location
abbrev pub IsAnyOf : {A : Type 0} → (A → Meaning) → AgentAt A → TransactionView → List ℕ → Bool → Type 0
IsAnyOf meaning a t name b =
    (P : State) → IsScan meaning a t name P → (b ≡ true) ↔ ((l : Place) × (val P l ≢ undef))

-- the state lists no location that is undef
abbrev pub ListsNoUndef : State → Type 0
ListsNoUndef P = (l : Place) → option_map_or is_undef (map.get P l) false ≡ false

-- the answer is how many locations the scan of the function lists, up to the limit
abbrev pub IsCountIn : {A : Type 0} → (A → Meaning) → AgentAt A → TransactionView → List ℕ → ℕ → Type 0
IsCountIn meaning a t name n =
    (P : State) × IsScan meaning a t name P × ListsNoUndef P × (n ≡ min (map.len P) count_limit)
