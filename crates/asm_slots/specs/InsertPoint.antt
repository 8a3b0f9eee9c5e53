-- The index at which an agent goes among parts of agents.
use Rattle.std.specs.Prelude.{◌≡◌, ℕ, ◌<◌, ◌≤◌, All, List, ◌++◌, ◌∷◌, length, take, drop}
use Rattle.asm_storage.specs.declared.part.AgentPart.{AgentPart}

-- the numbers in front of this index are smaller, and those from it on are greater
pub record IsInsertPoint (parts : List AgentPart) (id at : ℕ) : Type 0 where
  pub within : at ≤ length parts
  pub before : All (λ p. p.id < id) (take at parts)
  pub after : All (λ p. id < p.id) (drop at parts)

-- one of the parts has this number
abbrev pub IsAmong : List AgentPart → ℕ → Type 0
IsAmong parts id = (before after : List AgentPart) × (p : AgentPart) × (parts ≡ before ++ p ∷ after) × (p.id ≡ id)
