-- Commits of what slots hold.
use Rattle.std.proofs.Common.{◌≡◌, Option, Some, Result, inl, subst, sym}
use Rattle.asm_storage.specs.Storage.{AgentAt}
use Rattle.asm_transaction.specs.View.{TransactionView}
use Rattle.asm_slots.specs.Commit.{CommitsIn}
use Rattle.asm_slots.specs.Slots.{HoldBoth, Holds, a_step, an_agent}
use Rattle.asm_slots.specs.Standard.{Standard}
use Rattle.asm_slots.specs.declared.codes.Code.{Code}
use Rattle.asm_slots.specs.declared.content.Content.{Content}
use Rattle.asm_slots.specs.declared.content.Content.TheVariants as content
use Rattle.asm_slots.specs.declared.read_and_fire.Numbers.{Numbers}

-- what an agent does with a transaction, it does in their slots
pub commits_in : (P : TransactionView → AgentAt Standard → AgentAt Standard → Numbers → Result (Unit {0}) Code → Type 0)
    (agent step : Option Content) (a b : AgentAt Standard) (t : TransactionView) (n : Numbers) (r : Result (Unit {0}) Code) →
    agent ≡ Some (content.Agent a) → step ≡ Some (content.Step t) → P t a b n r → CommitsIn P agent (Some (content.Agent b)) step n r
commits_in P agent step a b t n r e f is =
    inl
    (subst (λ (x : Option Content). HoldBoth x step (λ c s. Holds an_agent (Some (content.Agent b)) (λ d. P s c d n r))) (sym e)
    (subst (λ (x : Option Content). Holds a_step x (λ s. P s a b n r)) (sym f) is))
