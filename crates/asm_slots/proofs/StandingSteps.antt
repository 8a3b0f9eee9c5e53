-- What is reported of a step that stands, or is stale.
use Rattle.std.proofs.Common.{◌≡◌, ℕ, List, Option, Some, inl, inr, subst, sym}
use Rattle.asm_element.specs.Place.{Place}
use Rattle.asm_storage.specs.Storage.{AgentAt}
use Rattle.asm_transaction.specs.View.{TransactionView}
use Rattle.asm_slots.specs.Slots.{Changes, an_agent}
use Rattle.asm_slots.specs.Standard.{Standard}
use Rattle.asm_slots.specs.Standing.{DoesNotStand, FindsOf, OfStep, OnlyPolls, ReportsStale}
use Rattle.asm_slots.specs.declared.codes.Code.{Code}
use Rattle.asm_slots.specs.declared.content.Content.{Content}
use Rattle.asm_slots.specs.declared.content.Content.TheVariants as content

-- what holds of an agent and a transaction holds of their slots
pub of_step : (P : AgentAt Standard → AgentAt Standard → TransactionView → Type 0) (agent step : Option Content) (a b : AgentAt Standard)
    (t : TransactionView) → agent ≡ Some (content.Agent a) → step ≡ Some (content.Step t) → P a b t →
    OfStep agent (Some (content.Agent b)) step P
of_step P agent step a b t is so p =
    subst (λ (x : Option Content). OfStep agent (Some (content.Agent b)) x P) (sym so)
    (subst (λ (x : Option Content). Changes an_agent x (Some (content.Agent b)) (λ c d. P c d t)) (sym is) p)

-- a stale step is reported
pub stale_step : (agent after step : Option Content) (l : Place) (out out_after : List ℕ) (n : ℕ) (c : Code) →
    OfStep agent after step (FindsOf (Some l)) → OfStep agent after step (λ a b t. OnlyPolls a b) → ReportsStale l out out_after n c →
    DoesNotStand agent after step out out_after n c
stale_step agent after step l out out_after n c finds polls (inl (is, (text, of, copied))) = inl (is, (text, (l, finds, of), copied))
stale_step agent after step l out out_after n c finds polls (inr (kept, inl (small, (text, of, long)))) =
    inr (kept, inl (small, (text, (l, finds, of), long)))
stale_step agent after step l out out_after n c finds polls (inr (kept, inr (zero, memory))) = inr (kept, inr (zero, inr (memory, polls)))
