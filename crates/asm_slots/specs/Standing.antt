-- Whether the step of a slot stands: whether its commit would find it stale.
use Rattle.std.specs.Prelude.{◌≡◌, ◌⊎◌, ℕ, List, Option, Some, None}
use Rattle.asm_element.specs.Place.{Place}
use Rattle.asm_storage.specs.Storage.{AgentAt, IsSameAgent, IsUpToDate}
use Rattle.asm_transaction.specs.Reading.{IsOf}
use Rattle.asm_transaction.specs.Standing.{Stands}
use Rattle.asm_transaction.specs.View.{TransactionView}
use Rattle.asm_slots.specs.AgentCalls.{SeesOn}
use Rattle.asm_slots.specs.Answers.{EmptyOr, IsMemory}
use Rattle.asm_slots.specs.OwnState.{HasPolledOn, IsStaleText}
use Rattle.asm_slots.specs.Slots.{Changes, Holds, LacksOne, a_step, an_agent}
use Rattle.asm_slots.specs.Standard.{Standard, meaning}
use Rattle.asm_slots.specs.WrittenText.{HasNoText, HasText}
use Rattle.asm_slots.specs.declared.codes.Code.{Code}
use Rattle.asm_slots.specs.declared.codes.Code.TheVariants as code
use Rattle.asm_slots.specs.declared.content.Content.{Content}

-- the agent has polled to the end, and nothing else of it has changed
abbrev pub OnlyPolls : AgentAt Standard → AgentAt Standard → Type 0
OnlyPolls a b = HasPolledOn a b × IsSameAgent a b × SeesOn a b

-- and its own state has followed; this is found of the transaction, if it is one of the agent
abbrev pub FindsOf : Option Place → AgentAt Standard → AgentAt Standard → TransactionView → Type 0
FindsOf found a b t = OnlyPolls a b × IsUpToDate b × (IsOf meaning a t → Stands meaning b t found)

-- the agent and the step of two slots, and the agent afterwards, are so
abbrev pub OfStep : Option Content → Option Content → Option Content → (AgentAt Standard → AgentAt Standard → TransactionView → Type 0) →
    Type 0
OfStep agent after step P = Holds a_step step (λ t. Changes an_agent agent after (λ a b. P a b t))

-- none of the locations on which the commit of the step depends was written
abbrev pub StepStands : Option Content → Option Content → Option Content → Type 0
StepStands agent after step = OfStep agent after step (FindsOf None)

-- one was, and the text is {"stale":LOC} of it
abbrev pub StepIsStale : Option Content → Option Content → Option Content → List ℕ → Type 0
StepIsStale agent after step text = (l : Place) × OfStep agent after step (FindsOf (Some l)) × IsStaleText l text

-- {"stale":LOC} of the location is written, or is too long, or memory was refused
abbrev pub ReportsStale : Place → List ℕ → List ℕ → ℕ → Code → Type 0
ReportsStale l out after written c =
    ((c ≡ code.Stale) × HasText (IsStaleText l) out after written) ⊎ HasNoText (IsStaleText l) IsMemory out after written c

-- that is reported; or a slot lacks its agent or its step, and nothing changes; or memory was refused
abbrev pub DoesNotStand : Option Content → Option Content → Option Content → List ℕ → List ℕ → ℕ → Code → Type 0
DoesNotStand agent after step out out_after written c =
    ((c ≡ code.Stale) × HasText (StepIsStale agent after step) out out_after written)
    ⊎ HasNoText (StepIsStale agent after step) (EmptyOr (LacksOne agent step × (after ≡ agent))
    (λ k. (k ≡ code.Memory) × OfStep agent after step (λ a b t. OnlyPolls a b))) out out_after written c
