-- What a closed storage reports.
use Rattle.std.specs.Prelude.{◌≡◌, ◌⊎◌, ◌+◌, ◌≤◌, ℕ, List, length, Option}
use Rattle.asm_storage.specs.declared.history.History.{History}
use Rattle.asm_storage.specs.Agents.{NoneMissing, most_seen}
use Rattle.asm_storage.specs.Closed.{IsClosed}
use Rattle.asm_storage.specs.declared.error.CloseError.TheVariants.{Missing}
use Rattle.asm_storage.specs.History.{Fits}
use Rattle.asm_storage.specs.Storage.{AgentAt, StorageView, accounts, IsMissing}
use Rattle.asm_journal.specs.Text.{text_of}
use Rattle.asm_slots.specs.Standard.{Standard, meaning}
use Rattle.asm_slots.specs.Slots.{Holds, Lacks, a_store}
use Rattle.asm_slots.specs.declared.codes.Code.{Code}
use Rattle.asm_slots.specs.declared.codes.Code.TheVariants as code
use Rattle.asm_slots.specs.declared.content.Content.{Content}
use Rattle.asm_slots.specs.declared.store_close.Unclosed.{Unclosed}
use Rattle.asm_slots.specs.declared.store_close.Unclosed.TheVariants as unclosed

-- the text is the journal of the history of these agents, which is within a journal's limits
abbrev pub IsJournalOf : StorageView Standard → List (AgentAt Standard) → List ℕ → Type 0
IsJournalOf s all text = (history : History) × IsClosed meaning s all history × Fits history × (text ≡ text_of history)

-- the history of these agents is beyond a journal's limits
abbrev pub IsTooLarge : StorageView Standard → List (AgentAt Standard) → Type 0
IsTooLarge s all = (history : History) × IsClosed meaning s all history × ¬ Fits history

-- this is the number of the move after all that these agents have seen, and the storage's row has a cell for it
abbrev pub IsUnseen : StorageView Standard → List (AgentAt Standard) → ℕ → Type 0
IsUnseen s all number = (number ≡ most_seen (accounts all) + 1) × (number ≤ length s.row)

-- no receipt of these agents has the move with this number: either it is the smallest such number of the moves that
-- one of them has seen; or each of these moves has a receipt, and it is the number after them
abbrev pub LacksReceipt : StorageView Standard → List (AgentAt Standard) → ℕ → Type 0
LacksReceipt s all number =
    IsMissing (accounts all) (Missing number) ⊎ (NoneMissing (accounts all) × IsUnseen s all number)

-- why these agents aren't closed: the move with this number lacks a receipt, or their history is beyond a journal's
-- limits; that memory was refused says nothing of them
abbrev pub IsUnclosed : StorageView Standard → List (AgentAt Standard) → Unclosed → Type 0
IsUnclosed s all (unclosed.Missing number) = LacksReceipt s all number
IsUnclosed s all unclosed.Large = IsTooLarge s all
IsUnclosed s all unclosed.Memory = Unit {0}

-- why the history of these agents isn't written: there is a move that none of them has seen, it is beyond a journal's limits,
-- or memory was refused
abbrev pub HasNoJournal : StorageView Standard → List (AgentAt Standard) → History → Unclosed → Type 0
HasNoJournal s all history (unclosed.Missing number) = IsUnseen s all number
HasNoJournal s all history unclosed.Large = ¬ Fits history
HasNoJournal s all history unclosed.Memory = Unit {0}

-- the storage of the slot isn't closed, for want of one, of a receipt of the move with this number, or of room in a
-- journal; without a move, the number is 0
abbrev pub IsNotClosed : Option Content → ℕ → Code → Type 0
IsNotClosed store number code.Empty = (number ≡ 0) × Lacks a_store store
IsNotClosed store number code.Missing = Holds a_store store (λ s. LacksReceipt s.storage s.agents number)
IsNotClosed store number code.ManyCalls = (number ≡ 0) × Holds a_store store (λ s. IsTooLarge s.storage s.agents)
IsNotClosed store number code.Memory = number ≡ 0
IsNotClosed store number _ = ⊥
