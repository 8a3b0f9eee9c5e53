-- The calls of an agent's part have the effects of the calls of its owner's agent.
use Rattle.std.proofs.Common.{◌≡◌, [], List, Result, Ok, Err, IfOk, subst, sym, ap, ◌∙◌}
use Rattle.asm_update.specs.Move.{Move}
use Rattle.asm_state.specs.declared.named.Named.{Named}
use Rattle.asm_state.specs.declared.scanned.Scanned.{Scanned}
use Rattle.asm_storage.proofs.Scanning.{no_scans}
use Rattle.asm_storage.specs.Calls.{IsFire, IsFireOver}
use Rattle.asm_storage.specs.Part.{agent_of, IsPartOf}
use Rattle.asm_storage.specs.Storage.{AgentAt, StorageView}
use Rattle.asm_storage.specs.declared.call.Reply.{Reply}
use Rattle.asm_storage.specs.declared.error.FireError.{FireError}
use Rattle.asm_storage.specs.declared.part.AgentPart.{AgentPart}
use Rattle.asm_slots.specs.AgentCalls.{IsRepliedOver}
use Rattle.asm_slots.specs.Standard.{Standard, meaning}
use Rattle.asm_slots.specs.declared.shared.Shared.{Shared}

-- a part of the shared storage is one of the borrowed storage
pub lent : (x y : Shared) (p : AgentPart) → y ≡ x → IsPartOf meaning x.storage p → IsPartOf meaning y.storage p
lent x y p same is = subst (λ (z : Shared). IsPartOf meaning z.storage p) (sym same) is

-- and so is a part of another share of the same storage
pub lent_other : (x y z : Shared) (mine theirs : AgentPart) (a b : AgentAt Standard) → y ≡ x → agent_of x.storage mine ≡ a →
    agent_of z.storage theirs ≡ b → b.storage ≡ a.storage → IsPartOf meaning z.storage theirs → IsPartOf meaning y.storage theirs
lent_other x y z mine theirs a b same is_mine is_theirs one is =
    let storage : AgentAt Standard → StorageView Standard = λ v. v.storage in
    subst (λ (s : StorageView Standard). IsPartOf meaning s theirs)
    (ap storage is_theirs ∙ one ∙ sym (ap storage is_mine) ∙ ap (λ (v : Shared). v.storage) (sym same)) is

-- what a call does with a part, on the storage of which its owner has a share, it does with the owner's agent
pub of_part : (R : AgentAt Standard → AgentAt Standard → Type 0) (s t : StorageView Standard) (old new : AgentPart)
    (a : AgentAt Standard) → t ≡ s → agent_of s old ≡ a → R (agent_of t old) (agent_of t new) → R a (agent_of s new)
of_part R s t old new a same is over =
    subst (λ (x : AgentAt Standard). R x (agent_of s new)) is
    (subst (λ (x : StorageView Standard). R (agent_of x old) (agent_of x new)) same over)

-- a fire that depends on no scan
pub part_fires : (s t : StorageView Standard) (old new : AgentPart) (a : AgentAt Standard) (reads : List Named) (M : Move)
    (r : Result Reply FireError) → t ≡ s → agent_of s old ≡ a →
    IsFireOver meaning (agent_of t old) (agent_of t new) reads [] M r → IsFire meaning a (agent_of s new) reads M r
part_fires s t old new a reads M r same is over =
    no_scans meaning a (agent_of s new) reads M r
    (of_part (λ x y. IsFireOver meaning x y reads [] M r) s t old new a same is over)

-- what it was answered
pub replied_over : (a new : AgentAt Standard) (reads : List Named) (scans : List Scanned) (M : Move)
    (r : Result Reply FireError) → IsFireOver meaning a new reads scans M r → IfOk r (IsRepliedOver a new reads scans M)
replied_over a new reads scans M (Ok t) is = record {
  found = is.found;
  replied = is.answered;
  coherent = is.coherent;
  depends = is.depends;
}
replied_over a new reads scans M (Err e) is = tt
