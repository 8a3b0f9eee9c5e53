-- An agent that is returned is added to the returned ones, and one that is checked out was one of them.
use Rattle.std.proofs.Common.{◌≡◌, ◌≢◌, ◌+◌, ◌<◌, None, Some, ℕ, List, length, ◌∷◌, ◌++◌, All, map, take, drop, take-append-drop, subst, sym, ap, ◌∙◌}
use Rattle.std.proofs.lemmas.List.{map-append}
use Rattle.std.proofs.lemmas.List.Elements.{All-head, All-map}
use Rattle.std.specs.Prelude.{slice_get}
use Rattle.asm_storage.specs.declared.part.AgentPart.{AgentPart}
use Rattle.asm_storage.specs.Part.{agent_of}
use Rattle.asm_storage.specs.Storage.{AgentAt, StorageView}
use Rattle.asm_slots.specs.AgentCalls.{HasNumber}
use Rattle.asm_slots.specs.InsertPoint.{IsAmong}
use Rattle.asm_slots.specs.Standard.{Standard}
use Rattle.asm_slots.specs.Store.{StoreView, IsPutIn}
use Rattle.asm_slots.proofs.Ascending.{all_after, part_at}
use Rattle.asm_slots.proofs.PartsAndAgents.{agents_among}

-- a number among parts is one among their agents
pub number_among : (s : StorageView Standard) (parts : List AgentPart) (n id : ℕ) (v : StoreView) → v.agents ≡ map (agent_of s) parts → n ≡ id → IsAmong parts n → HasNumber v id
number_among s parts n id v are same (before, after, p, is, e) =
    (map (agent_of s) before, map (agent_of s) after, agent_of s p, are ∙ agents_among s parts before after p is, e ∙ same)

-- a part among parts is an agent among their agents
pub put_in : (s : StorageView Standard) (old new : List AgentPart) (p : AgentPart) (at : ℕ) (a : AgentAt Standard) (agents : List (AgentAt Standard)) →
    new ≡ take at old ++ p ∷ drop at old → agent_of s p ≡ a → agents ≡ map (agent_of s) old → IsPutIn a agents (map (agent_of s) new)
put_in s old new p at a agents whole is are = (
  map (agent_of s) (take at old),
  map (agent_of s) (drop at old),
  are ∙ ap (map (agent_of s)) (sym (take-append-drop at old)) ∙ map-append (agent_of s) (take at old) (drop at old),
  agents_among s new (take at old) (drop at old) p whole ∙ ap (λ (b : AgentAt Standard). map (agent_of s) (take at old) ++ b ∷ map (agent_of s) (drop at old)) is,
)

-- if no part has the number, no agent has it
pub no_number : (s : StorageView Standard) (parts : List AgentPart) (id : ℕ) (v : StoreView) → v.agents ≡ map (agent_of s) parts →
    All (λ p. p.id ≢ id) parts → HasNumber v id → ⊥
no_number s parts id v are none (before, after, b, is, e) =
    let Other : AgentAt Standard → Type 0 = λ a. a.account.id ≢ id in
    let each : All Other (before ++ b ∷ after) = subst (All Other) (sym are ∙ is) (All-map Other (agent_of s) parts none) in
    All-head Other b after (all_after Other before (b ∷ after) each) e

-- a part with the number is an agent with it
has_number : (s : StorageView Standard) (parts : List AgentPart) (at id : ℕ) (v : StoreView) (p : AgentPart) →
    v.agents ≡ map (agent_of s) parts → parts ≡ take at parts ++ p ∷ drop (at + 1) parts → p.id ≡ id → HasNumber v id
has_number s parts at id v p are is e = (
  map (agent_of s) (take at parts),
  map (agent_of s) (drop (at + 1) parts),
  agent_of s p,
  are ∙ agents_among s parts (take at parts) (drop (at + 1) parts) p is,
  e,
)

-- the part at this place has the number
pub number_at : (s : StorageView Standard) (parts : List AgentPart) (at id : ℕ) (v : StoreView) → v.agents ≡ map (agent_of s) parts →
    at < length parts → ((p : AgentPart) → slice_get parts at ≡ Some p → p.id ≡ id) → HasNumber v id
number_at s parts at id v are lt is =
    let part = part_at parts at id lt is in
    has_number s parts at id v part.0 are part.1 part.2

-- a part that is removed from parts is an agent that is removed from theirs
pub put_out : (s : StorageView Standard) (old new : List AgentPart) (p : AgentPart) (at : ℕ) (agents : List (AgentAt Standard)) →
    new ≡ take at old ++ drop (at + 1) old → old ≡ take at old ++ p ∷ drop (at + 1) old → agents ≡ map (agent_of s) old →
    IsPutIn (agent_of s p) (map (agent_of s) new) agents
put_out s old new p at agents whole is are = (
  map (agent_of s) (take at old),
  map (agent_of s) (drop (at + 1) old),
  ap (map (agent_of s)) whole ∙ map-append (agent_of s) (take at old) (drop (at + 1) old),
  are ∙ agents_among s old (take at old) (drop (at + 1) old) p is,
)

-- a storage with no journal
abbrev pub the_store : StorageView Standard → List ℕ → List (AgentAt Standard) → StoreView
the_store s numbers agents = record { storage = s; numbers = numbers; agents = agents; journal = None }
