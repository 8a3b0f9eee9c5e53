-- What the calls report of a function that the step of a slot shows, without listing it.
use Rattle.std.specs.Prelude.{◌≡◌, ◌⊎◌, ℕ, Bool, List, Option, if◌then◌else◌}
use Rattle.asm_storage.specs.Storage.{AgentAt}
use Rattle.asm_transaction.specs.Counting.{IsAnyOf, IsCountIn}
use Rattle.asm_transaction.specs.Reading.{IsOf}
use Rattle.asm_transaction.specs.Scanning.{HasScanned}
use Rattle.asm_transaction.specs.View.{TransactionView}
use Rattle.asm_slots.specs.Answers.{EmptyOr, IsNoName}
use Rattle.asm_slots.specs.Slots.{HoldBoth, Holds, LacksOne, a_step}
use Rattle.asm_slots.specs.Standard.{Standard, meaning}
use Rattle.asm_slots.specs.StepCalls.{HasReached, IsNotScanned}
use Rattle.asm_slots.specs.declared.codes.Code.{Code}
use Rattle.asm_slots.specs.declared.content.Content.{Content}

-- this is 1 or 0, as the scan of the function has a value at a location or not, if the transaction is one of the agent
abbrev pub IsAnyBy : List ℕ → AgentAt Standard → TransactionView → ℕ → Type 0
IsAnyBy name a t n =
    HasReached a t × ((b : Bool) × (n ≡ if b then 1 else 0) × (IsOf meaning a t → IsAnyOf meaning a t name b))

-- this is how many locations the scan of the function lists, if the transaction is one of the agent
abbrev pub IsCountBy : List ℕ → AgentAt Standard → TransactionView → ℕ → Type 0
IsCountBy name a t n = HasReached a t × (IsOf meaning a t → IsCountIn meaning a t name n)

-- this is so of the step, and the function is scanned; only the step changes
abbrev pub FindsOf : (List ℕ → AgentAt Standard → TransactionView → ℕ → Type 0) → List ℕ → Option Content → Option Content → Option Content →
    ℕ → Type 0
FindsOf Is name agent step after n = HoldBoth agent step (λ a t. Is name a t n × Holds a_step after (HasScanned name t))

-- a slot lacks its agent or its step, or the bytes are no text, or the function can't be scanned
abbrev pub FindsNothingOf : List ℕ → Option Content → Option Content → Code → Type 0
FindsNothingOf name agent step =
    EmptyOr (LacksOne agent step) (λ c. HoldBoth agent step (λ a t. IsNoName name c ⊎ IsNotScanned name a t c))
