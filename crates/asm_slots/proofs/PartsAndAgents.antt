-- Parts and agents, one more at a time.
use Rattle.std.proofs.Common.{◌≡◌, List, [], ◌∷◌, ◌++◌, map, sym, ap, ◌∙◌, subst, append_assoc, refl}
use Rattle.std.proofs.lemmas.List.{map-append}
use Rattle.std.specs.List.Sorted.{IsStrictlyIncreasing}
use Rattle.asm_storage.specs.declared.part.AgentPart.{AgentPart}
use Rattle.asm_storage.specs.Agents.{ids}
use Rattle.asm_storage.specs.Part.{agent_of}
use Rattle.asm_storage.specs.Storage.{AgentAt, StorageView, accounts}
use Rattle.asm_slots.specs.Standard.{Standard}
use Rattle.asm_slots.specs.declared.shared.Shared.{Shared}

-- one more is made from what is left
pub more_made : {X Y : Type 0} (f : X → Y) (made new : List Y) (y : Y) (x : X) (left rest : List X) (all : List Y) →
    made ++ map f left ≡ all → left ≡ x ∷ rest → new ≡ made ++ y ∷ [] → y ≡ f x → new ++ map f rest ≡ all
more_made f made new y x left rest all whole step added is =
    ap (λ l. l ++ map f rest) (added ∙ ap (λ z. made ++ z ∷ []) is) ∙ append_assoc made (f x ∷ []) (map f rest)
    ∙ ap (λ l. made ++ map f l) (sym step) ∙ whole

-- one more is split into what it is made of
pub more_apart : {X Y : Type 0} (f : X → Y) (made new : List X) (x : X) (y : Y) (left rest all : List Y) →
    map f made ++ left ≡ all → left ≡ y ∷ rest → new ≡ made ++ x ∷ [] → f x ≡ y → map f new ++ rest ≡ all
more_apart f made new x y left rest all whole step added is =
    ap (λ l. map f l ++ rest) added ∙ ap (λ l. l ++ rest) (map-append f made (x ∷ [])) ∙ append_assoc (map f made) (f x ∷ []) rest
    ∙ ap (λ z. map f made ++ z ∷ rest) is ∙ ap (λ l. map f made ++ l) (sym step) ∙ whole

-- the numbers of agents are those of their parts
pub ids_of : (s : StorageView Standard) (parts : List AgentPart) → ids (accounts (map (agent_of s) parts)) ≡ map (λ p. p.id) parts
ids_of s [] = refl
ids_of s (p ∷ parts) = ap (λ l. p.id ∷ l) (ids_of s parts)

-- parts of one list are agents of one list
pub agents_among : (s : StorageView Standard) (parts before after : List AgentPart) (p : AgentPart) → parts ≡ before ++ p ∷ after →
    map (agent_of s) parts ≡ map (agent_of s) before ++ agent_of s p ∷ map (agent_of s) after
agents_among s parts before after p is = ap (map (agent_of s)) is ∙ map-append (agent_of s) before (p ∷ after)

-- parts of the same agents have the same numbers
pub rises_again : (s t : StorageView Standard) (new old : List AgentPart) → map (agent_of s) new ≡ map (agent_of t) old → IsStrictlyIncreasing (map (λ p. p.id) old) → IsStrictlyIncreasing (map (λ p. p.id) new)
rises_again s t new old same rises =
    subst IsStrictlyIncreasing (sym (sym (ids_of s new) ∙ ap (λ (l : List (AgentAt Standard)). ids (accounts l)) same ∙ ids_of t old)) rises

-- what holds of the agents that are made of parts holds of those of the store that has the parts
pub reported_of_store : (P : StorageView Standard → List (AgentAt Standard) → Type 0) (x y z : Shared) (parts : List AgentPart)
    (all : List (AgentAt Standard)) → y ≡ x → z ≡ x → all ≡ map (agent_of y.storage) parts → P z.storage all
    → P x.storage (map (agent_of x.storage) parts)
reported_of_store P x y z parts all e f g p =
    subst (λ (s : Shared). P s.storage (map (agent_of x.storage) parts)) f
    (subst (λ (s : Shared). P z.storage (map (agent_of s.storage) parts)) e (subst (P z.storage) g p))
