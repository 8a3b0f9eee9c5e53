-- The scan of a function by a transaction.
use Rattle.std.specs.Prelude.{◌≡◌, ◌≢◌, ◌≤◌, ◌<◌, ◌+◌, ◌⊎◌, ℕ, List, [], ◌∷◌, ◌++◌, length, Bool, false, Contains, Ok, Option, None, Some, nat_eq, string_bytes, if◌then◌else◌}
use Rattle.std.specs.Cmp.Lexicographic.{pointwise}
use Rattle.std.specs.List.{list_any}
use Rattle.asm_element.specs.Place.{Place, is_name}
use Rattle.asm_element.specs.Value.{undef}
use Rattle.asm_state.specs.Scans.{has_name}
use Rattle.asm_state.specs.declared.scanned.Scanned.{Scanned}
use Rattle.asm_update.specs.Aggregator.{Meaning}
use Rattle.asm_update.specs.State.{State, val}
use Rattle.asm_storage.specs.Limits.{reads_limit}
use Rattle.asm_storage.specs.Storage.{AgentAt}
use Rattle.asm_step.specs.InTurn.{fire_all}
use Rattle.asm_transaction.specs.Reading.{state_at}
use Rattle.asm_transaction.specs.View.{TransactionView, moves_of, names_of}
use Rattle.asm_transaction.specs.declared.error.TransactionError.{TransactionError}
use Rattle.asm_transaction.specs.declared.error.TransactionError.TheVariants as transaction_error

-- the answer has what the state at its version has at each location of this function, once the pushed moves have fired
-- there in turn, and no other location
abbrev pub IsScan : {A : Type 0} → (A → Meaning) → AgentAt A → TransactionView → List ℕ → State → Type 0
IsScan meaning a t name P =
    (S : State) × (fire_all (meaning a.storage.agg).part (Ok (state_at meaning a t.number)) (moves_of t) ≡ Ok S)
    × ((l : Place) → val P l ≡ (if has_name name l then val S l else undef))

-- why a scan isn't listed: a move is pushed, or the text is no name of a function
abbrev pub IsUnlisted : List ℕ → TransactionView → Type 0
IsUnlisted name t = (1 ≤ length t.layers) ⊎ (is_name name ≡ false)

-- the function is scanned: it was already, and nothing changes; or its name is put behind the others
abbrev pub HasScanned : List ℕ → TransactionView → TransactionView → Type 0
HasScanned name old new =
    (Contains old.scanned name × (new ≡ old))
    ⊎ (¬ Contains old.scanned name × (new ≡ record old { scanned = old.scanned ++ name ∷ [] })
    × (length new.tracked + length new.scanned ≤ reads_limit))

-- why the function can't be scanned: it would take one place more
abbrev pub IsUntaken : List ℕ → TransactionView → TransactionError → Type 0
IsUntaken name t transaction_error.Moved = ⊥
IsUntaken name t transaction_error.ManyReads =
    ¬ Contains t.scanned name × (reads_limit ≤ length t.tracked + length t.scanned)
IsUntaken name t transaction_error.Memory = Unit {0}

-- why it isn't: so, or the agent's own state is at this version, which isn't the transaction's
abbrev pub IsUnscanned : List ℕ → ℕ → TransactionView → TransactionError → Type 0
IsUnscanned name n t transaction_error.Moved = n ≢ t.number
IsUnscanned name n t e = IsUntaken name t e

-- whether one of the scans is of the function with this name
abbrev pub has_scan : List ℕ → List Scanned → Bool
has_scan name scans = list_any (λ scan. pointwise nat_eq name (string_bytes scan.name)) scans

-- the name is that of one of the scans; or it isn't, and this is a scan of it at the number, for which the limit leaves
-- room
abbrev pub IsScanFor : ℕ → List Scanned → List ℕ → ℕ → Option Scanned → Type 0
IsScanFor limit scans name number None = Contains (names_of scans) name
IsScanFor limit scans name number (Some scan) =
    (string_bytes scan.name ≡ name) × (scan.number ≡ number) × ¬ Contains (names_of scans) name × (length scans < limit)

-- memory was refused; or the name isn't that of one of the scans, and the limit leaves no room for it
abbrev pub IsNoScanFor : ℕ → List Scanned → List ℕ → TransactionError → Type 0
IsNoScanFor limit scans name e =
    (e ≡ transaction_error.Memory)
    ⊎ ((e ≡ transaction_error.ManyReads) × (limit ≤ length scans) × ¬ Contains (names_of scans) name)
