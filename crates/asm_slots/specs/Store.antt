-- What contracts see of a storage that C holds.
use Rattle.std.specs.Prelude.{◌≡◌, ℕ, List, [], ◌++◌, ◌∷◌, Option, None, refl}
use Rattle.std.specs.Coded.{Coded, code_by, coded×, coded_ℕ, coded_list, coded_option}
use Rattle.asm_storage.specs.Storage.{AgentAt, StorageView}
use Rattle.asm_slots.specs.Standard.{Standard}

-- the storage, the numbers of the agents that were made in their order, the returned agents in ascending order of
-- their numbers, and the text of their journal once they are closed
pub record StoreView : Type 0 where
  pub storage : StorageView Standard
  pub numbers : List ℕ
  pub agents : List (AgentAt Standard)
  pub journal : Option (List ℕ)

-- it is stored as a tuple
abbrev pub store_code : Coded (StorageView Standard) → Coded (AgentAt Standard) → Coded StoreView
store_code s a =
    code_by (StorageView Standard × (List ℕ × (List (AgentAt Standard) × Option (List ℕ))))
    (coded× s (coded× (coded_list coded_ℕ) (coded× (coded_list a) (coded_option (coded_list coded_ℕ)))))
    (λ v. (v.storage, (v.numbers, (v.agents, v.journal))))
    (λ p. record { storage = p.0; numbers = p.1.0; agents = p.1.1.0; journal = p.1.1.1 }) (λ _. refl)

-- no agent of it was made
abbrev pub IsUnused : StoreView → Type 0
IsUnused s = (s.numbers ≡ []) × (s.agents ≡ []) × (s.journal ≡ None)

-- it is this storage, of which no agent was made
abbrev pub IsNew : StorageView Standard → StoreView → Type 0
IsNew storage s = (s.storage ≡ storage) × IsUnused s

-- the agents with one more among them
abbrev pub IsPutIn : AgentAt Standard → List (AgentAt Standard) → List (AgentAt Standard) → Type 0
IsPutIn a old new =
    (before after : List (AgentAt Standard)) × (old ≡ before ++ after) × (new ≡ before ++ a ∷ after)
