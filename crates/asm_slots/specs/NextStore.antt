-- Storages that are opened, and those that continue where others ended.
use Rattle.std.specs.Prelude.{◌≡◌, ◌≢◌, ℕ, List, length, Option, None, Some}
use Rattle.asm_element.specs.Place.{Place}
use Rattle.asm_update.specs.State.{State, IsProper, val}
use Rattle.asm_storage.specs.Storage.{AgentAt, StorageView}
use Rattle.asm_journal.specs.Value.{IsStateForm}
use Rattle.asm_slots.specs.AgentCalls.{IsNoCapacity, IsOpened}
use Rattle.asm_slots.specs.Bytes.{ReadAsState}
use Rattle.asm_slots.specs.LongLines.{IsLongState}
use Rattle.asm_slots.specs.Answers.{IsUnreadAs}
use Rattle.asm_slots.specs.ClosedJournal.{Leaves}
use Rattle.asm_slots.specs.OwnState.{state_at}
use Rattle.asm_slots.specs.Slots.{Holds, Lacks, a_store, an_agent}
use Rattle.asm_slots.specs.Standard.{Standard}
use Rattle.asm_slots.specs.Store.{StoreView, IsUnused}
use Rattle.asm_slots.specs.declared.codes.Code.{Code}
use Rattle.asm_slots.specs.declared.codes.Code.TheVariants as code
use Rattle.asm_slots.specs.declared.content.Content.{Content}

-- a journal can open with the state with which the storage does
abbrev pub StartsShort : StoreView → Type 0
StartsShort s = ¬ IsLongState s.storage.init

-- a storage with this opening state and this capacity is opened in the empty slot
abbrev pub Opens : List ℕ → ℕ → Option Content → Option Content → Type 0
Opens bytes capacity old new = (old ≡ None) × Holds a_store new (λ s. IsOpened bytes capacity s × StartsShort s)

-- the slot is full, the bytes are no state, no storage has this capacity, or a journal can't open with the state
abbrev pub IsNotOpened : List ℕ → ℕ → Option Content → Code → Type 0
IsNotOpened bytes capacity old code.Taken = old ≢ None
IsNotOpened bytes capacity old code.Capacity = (old ≡ None) × IsNoCapacity capacity
IsNotOpened bytes capacity old code.LongLine = (old ≡ None) × (S : State) × ReadAsState bytes S × IsLongState S
IsNotOpened bytes capacity old c = (old ≡ None) × IsUnreadAs IsStateForm bytes c

-- the bytes read as a journal, and the storage with this capacity opens with the state that its moves leave
pub record HasOpened (bytes : List ℕ) (most : ℕ) (s : StorageView Standard) : Type 0 where
  pub init : Leaves bytes s.init
  pub capacity : length s.row ≡ most

-- the same, of which no agent was made
abbrev pub IsOpenedAfter : List ℕ → ℕ → StoreView → Type 0
IsOpenedAfter bytes most s = HasOpened bytes most s.storage × IsUnused s

-- the new storage opens with the state that the moves of the old one's retained journal leave
abbrev pub Continues : ℕ → StoreView → StoreView → Type 0
Continues most old new = (text : List ℕ) × (old.journal ≡ Some text) × IsOpenedAfter text most new

-- the bytes read as a journal, and a journal can't open with the state that its moves leave
abbrev pub LeavesLong : List ℕ → Type 0
LeavesLong bytes = (S : State) × Leaves bytes S × IsLongState S

-- no storage has this capacity, no journal can open with the state that the bytes' moves leave, or memory was refused
abbrev pub DoesNotContinue : List ℕ → ℕ → Code → Type 0
DoesNotContinue bytes capacity code.Capacity = IsNoCapacity capacity
DoesNotContinue bytes capacity code.LongLine = LeavesLong bytes
DoesNotContinue bytes capacity code.Memory = Unit {0}
DoesNotContinue bytes capacity _ = ⊥

-- the storage retains such a journal
abbrev pub EndsLong : StoreView → Type 0
EndsLong s = (text : List ℕ) × (s.journal ≡ Some text) × LeavesLong text

-- the storage retains no journal
abbrev pub LacksJournal : StoreView → Type 0
LacksJournal s = s.journal ≡ None

-- the storage of the one slot continues in the other, which was empty
abbrev pub IsNextOf : ℕ → Option Content → Option Content → Option Content → Type 0
IsNextOf capacity store old new =
    (old ≡ None) × Holds a_store store (λ s. Holds a_store new (λ t. Continues capacity s t × StartsShort t))

-- that slot is full, there is no storage or no journal to continue, no storage has this capacity, or no journal can open so
abbrev pub IsNotNext : ℕ → Option Content → Option Content → Code → Type 0
IsNotNext capacity store old code.Taken = old ≢ None
IsNotNext capacity store old code.Empty = (old ≡ None) × Lacks a_store store
IsNotNext capacity store old code.NoJournal = (old ≡ None) × Holds a_store store LacksJournal
IsNotNext capacity store old code.Capacity = (old ≡ None) × IsNoCapacity capacity
IsNotNext capacity store old code.LongLine = (old ≡ None) × Holds a_store store EndsLong
IsNotNext capacity store old code.Memory = old ≡ None
IsNotNext capacity store old _ = ⊥

-- the agent's own state has followed as many moves as its storage has room for
abbrev pub IsAtEnd : AgentAt Standard → Type 0
IsAtEnd a = a.number ≡ length a.storage.row

-- the new storage, with this capacity and without agents, opens with the state that the moves leave which the agent
-- has seen, as many as its own storage has room for
pub record ContinuesFrom (most : ℕ) (a : AgentAt Standard) (new : StoreView) : Type 0 where
  pub at_end : IsAtEnd a
  pub proper : IsProper new.storage.init
  pub left : (l : Place) → val new.storage.init l ≡ val (state_at a (length a.storage.row)) l
  pub capacity : length new.storage.row ≡ most
  pub unused : IsUnused new

-- a journal can't open with the agent's own state
abbrev pub OwnsLong : AgentAt Standard → Type 0
OwnsLong a = (S : State) × IsProper S × ((l : Place) → val S l ≡ val (state_at a (length a.storage.row)) l) × IsLongState S

-- the storage of the agent in the one slot continues in the other, which was empty
abbrev pub GoesOn : ℕ → Option Content → Option Content → Option Content → Type 0
GoesOn capacity agent old new =
    (old ≡ None) × ¬ IsNoCapacity capacity
    × Holds an_agent agent (λ a. Holds a_store new (λ s. ContinuesFrom capacity a s × StartsShort s))

-- that slot is full, there is no agent that has followed all moves, no storage has this capacity, or no journal can open so
abbrev pub DoesNotGoOn : ℕ → Option Content → Option Content → Code → Type 0
DoesNotGoOn capacity agent old code.Taken = old ≢ None
DoesNotGoOn capacity agent old code.Empty = (old ≡ None) × Lacks an_agent agent
DoesNotGoOn capacity agent old code.NotFull = (old ≡ None) × Holds an_agent agent (λ a. ¬ IsAtEnd a)
DoesNotGoOn capacity agent old code.Capacity = (old ≡ None) × IsNoCapacity capacity × Holds an_agent agent IsAtEnd
DoesNotGoOn capacity agent old code.LongLine = (old ≡ None) × ¬ IsNoCapacity capacity × Holds an_agent agent (λ a. IsAtEnd a × OwnsLong a)
DoesNotGoOn capacity agent old code.Memory = (old ≡ None) × ¬ IsNoCapacity capacity × Holds an_agent agent IsAtEnd
DoesNotGoOn capacity agent old _ = ⊥
