-- The numbers of the agents that were made, and the effects of making agents, returning them and checking them out.
use Rattle.std.specs.Prelude.{ℕ, List, Bool, nat_eq, nat_lt, ◌≡◌, ◌≢◌, ◌⊎◌, ◌≤◌, ◌<◌, [], ◌∷◌, length, true, false}
use Rattle.std.specs.Prelude.{Option, None}
use Rattle.std.specs.List.{list_any, range_with_len}
use Rattle.asm_slots.specs.Store.{StoreView}
use Rattle.asm_storage.specs.Limits.{agents_limit}
use Rattle.asm_storage.specs.Storage.{AgentAt, at_start}
use Rattle.asm_slots.specs.AgentCalls.{HasLost, HasMade, HasNumber}
use Rattle.asm_slots.specs.Slots.{AreEmpty, AreNew, Changes, Holds, Lacks, a_store, an_agent}
use Rattle.asm_slots.specs.Standard.{Standard}
use Rattle.asm_slots.specs.declared.codes.Code.{Code}
use Rattle.asm_slots.specs.declared.codes.Code.TheVariants as code
use Rattle.asm_slots.specs.declared.content.Content.{Content}
use Rattle.asm_slots.specs.declared.slot.Slot.{Slot}

-- whether the number is one of these
abbrev pub is_among : List ℕ → ℕ → Bool
is_among numbers id = list_any (λ n. nat_eq n id) numbers

-- whether one of the numbers is below this one
abbrev pub is_any_below : List ℕ → ℕ → Bool
is_any_below numbers count = list_any (λ n. nat_lt n count) numbers

-- whether an agent with this number was made
abbrev pub was_made : StoreView → ℕ → Bool
was_made s id = is_among s.numbers id

-- whether an agent with a number below this one was made
abbrev pub was_any_made : StoreView → ℕ → Bool
was_any_made s count = is_any_below s.numbers count

-- an agent of the storage with this number, which no other had, is made in the empty slot
abbrev pub MakesAgent : ℕ → Option Content → Option Content → Option Content → Option Content → Type 0
MakesAgent id store after agent agent_after =
    (id < agents_limit) × (agent ≡ None) × Holds a_store store (λ s. was_made s id ≡ false)
    × Changes a_store store after (HasMade (id ∷ []))
    × Holds a_store store (λ s. Holds an_agent agent_after (λ a. a ≡ at_start s.storage id))

-- the number is too large, the slot is full, there is no storage, or an agent with the number was made
abbrev pub MakesNoAgent : ℕ → Option Content → Option Content → Code → Type 0
MakesNoAgent id store agent code.Agents = agents_limit ≤ id
MakesNoAgent id store agent code.Taken = (id < agents_limit) × (agent ≢ None)
MakesNoAgent id store agent code.Empty = (id < agents_limit) × (agent ≡ None) × Lacks a_store store
MakesNoAgent id store agent code.Number = (id < agents_limit) × (agent ≡ None) × Holds a_store store (λ s. was_made s id ≡ true)
MakesNoAgent id store agent code.Memory = (id < agents_limit) × (agent ≡ None) × Holds a_store store (λ s. was_made s id ≡ false)
MakesNoAgent id store agent _ = ⊥

-- an agent of the storage is made in each of the empty slots, with the numbers from 0 up, which no other had
abbrev pub MakesAgents : Option Content → Option Content → List Slot → List Slot → Type 0
MakesAgents store after agents agents_after =
    (length agents ≤ agents_limit) × AreEmpty agents × Holds a_store store (λ s. was_any_made s (length agents) ≡ false)
    × Changes a_store store after (HasMade (range_with_len 0 (length agents)))
    × Holds a_store store (λ s. AreNew s.storage agents_after)

-- there are too many slots, one is full, there is no storage, or an agent with one of the numbers was made; the slots
-- are unchanged, and without memory empty
abbrev pub MakesNoAgents : Option Content → List Slot → List Slot → Code → Type 0
MakesNoAgents store agents after code.Agents = (agents_limit < length agents) × (after ≡ agents)
MakesNoAgents store agents after code.Taken = (length agents ≤ agents_limit) × ¬ AreEmpty agents × (after ≡ agents)
MakesNoAgents store agents after code.Empty = (length agents ≤ agents_limit) × AreEmpty agents × Lacks a_store store × (after ≡ agents)
MakesNoAgents store agents after code.Number = (length agents ≤ agents_limit) × AreEmpty agents
    × Holds a_store store (λ s. was_any_made s (length agents) ≡ true) × (after ≡ agents)
MakesNoAgents store agents after code.Memory = (length agents ≤ agents_limit) × AreEmpty agents
    × Holds a_store store (λ s. was_any_made s (length agents) ≡ false) × AreEmpty after
MakesNoAgents store agents after _ = ⊥

-- the agent isn't added to the returned ones
abbrev pub IsNotAdded : StoreView → AgentAt Standard → Code → Type 0
IsNotAdded s a code.Number = HasNumber s a.account.id
IsNotAdded s a code.Memory = Unit {0}
IsNotAdded s a _ = ⊥

-- or there is none, or no storage, or they are of two storages
abbrev pub IsNotGiven : Option Content → Option Content → Code → Type 0
IsNotGiven store agent code.Empty = Lacks a_store store ⊎ Lacks an_agent agent
IsNotGiven store agent code.Other = Unit {0}
IsNotGiven store agent c = Holds a_store store (λ s. Holds an_agent agent (λ a. IsNotAdded s a c))

-- the returned agent with this number is checked out into the empty slot
abbrev pub TakesAgent : ℕ → Option Content → Option Content → Option Content → Option Content → Type 0
TakesAgent number store after agent agent_after =
    (agent ≡ None) × Holds a_store store (λ s. Holds an_agent agent_after (λ a. Holds a_store after (HasLost a s)))
    × Holds an_agent agent_after (λ a. a.account.id ≡ number)

-- no returned agent has this number
abbrev pub IsNotReturned : ℕ → StoreView → Code → Type 0
IsNotReturned number s code.NoAgent = ¬ HasNumber s number
IsNotReturned number s code.Memory = HasNumber s number
IsNotReturned number s _ = ⊥

-- or the slot is full, or there is no storage
abbrev pub TakesNoAgent : ℕ → Option Content → Option Content → Code → Type 0
TakesNoAgent number store agent code.Taken = agent ≢ None
TakesNoAgent number store agent code.Empty = (agent ≡ None) × Lacks a_store store
TakesNoAgent number store agent c = (agent ≡ None) × Holds a_store store (λ s. IsNotReturned number s c)
