-- What the calls report of the set or the bag that the step of a slot shows at a location.
use Rattle.std.specs.Prelude.{◌≡◌, ◌⊎◌, ℕ, ℤ, List, [], ◌∷◌, Option, None, Some}
use Rattle.asm_element.specs.Place.{Place}
use Rattle.asm_element.specs.declared.element.Element.{Element}
use Rattle.asm_element.specs.declared.value.Value.TheVariants.{Plain}
use Rattle.asm_storage.specs.Storage.{AgentAt}
use Rattle.asm_transaction.specs.Members.{IsCountShown, IsSizeShown}
use Rattle.asm_transaction.specs.Reading.{HasTracked, IsOf, IsUnread}
use Rattle.asm_transaction.specs.View.{TransactionView}
use Rattle.asm_slots.specs.Answers.{IsNoOperandFor}
use Rattle.asm_slots.specs.Kinds.{IsOperand}
use Rattle.asm_slots.specs.Slots.{HoldBoth, Holds, Lacks, LacksOne, a_location, a_step}
use Rattle.asm_slots.specs.Standard.{Standard, meaning}
use Rattle.asm_slots.specs.StepCalls.{Errs, HasReached}
use Rattle.asm_slots.specs.declared.codes.Code.{Code}
use Rattle.asm_slots.specs.declared.codes.Code.TheVariants as code
use Rattle.asm_slots.specs.declared.content.Content.{Content}

-- kind, number and bytes mean no element, but maybe a set or a bag
abbrev pub IsNoElement : ℤ → ℤ → List ℕ → Code → Type 0
IsNoElement kind number bytes code.Operand = (e : Element) → ¬ IsOperand kind number bytes (Plain e)
IsNoElement kind number bytes c = IsNoOperandFor kind number bytes c

-- kind, number and bytes mean an element, whose count this is in what the transaction shows at the location, if it is one
-- of the agent
abbrev pub IsCountBy : Place → ℤ → ℤ → List ℕ → AgentAt Standard → TransactionView → Option ℕ → Type 0
IsCountBy l kind number bytes a t n =
    HasReached a t × ((e : Element) × IsOperand kind number bytes (Plain e) × (IsOf meaning a t → IsCountShown meaning a t l e n))

-- this is the size of what the transaction shows at the location, if it is one of the agent
abbrev pub IsSizeBy : Place → AgentAt Standard → TransactionView → Option ℕ → Type 0
IsSizeBy l a t n = HasReached a t × (IsOf meaning a t → IsSizeShown meaning a t l n)

-- the transaction shows another value there than a set, a bag and undef, and tracks the location; or it is unchanged, as
-- there is no element, or the location can't be read
abbrev pub IsNotCounted : Place → ℤ → ℤ → List ℕ → AgentAt Standard → TransactionView → TransactionView → Code → Type 0
IsNotCounted l kind number bytes a old new c =
    ((c ≡ code.Shape) × IsCountBy l kind number bytes a old None × HasTracked (l ∷ []) old new)
    ⊎ ((new ≡ old) × (IsNoElement kind number bytes c ⊎ Errs (IsUnread l a.number old) c))

-- the same, where no element is asked for
abbrev pub IsNotSized : Place → AgentAt Standard → TransactionView → TransactionView → Code → Type 0
IsNotSized l a old new c =
    ((c ≡ code.Shape) × IsSizeBy l a old None × HasTracked (l ∷ []) old new)
    ⊎ ((new ≡ old) × Errs (IsUnread l a.number old) c)

-- this is what the step shows at the location, and the location is tracked; only the step changes
abbrev pub ReportsAt : (Place → AgentAt Standard → TransactionView → Type 0) → Option Content → Option Content → Option Content →
    Option Content → Type 0
ReportsAt Is at agent step after =
    Holds a_location at (λ l. HoldBoth agent step (λ a t. Is l a t × Holds a_step after (HasTracked (l ∷ []) t)))

-- a slot lacks what the call needs, and the step is unchanged; or this is why nothing is reported
abbrev pub DoesNotReportAt : (Place → AgentAt Standard → TransactionView → TransactionView → Code → Type 0) → Option Content →
    Option Content → Option Content → Option Content → Code → Type 0
DoesNotReportAt IsNone at agent step after c =
    ((after ≡ step) × (c ≡ code.Empty) × (Lacks a_location at ⊎ LacksOne agent step))
    ⊎ Holds a_location at (λ l. HoldBoth agent step (λ a t. Holds a_step after (λ u. IsNone l a t u c)))

-- the element is so often in the set or the bag that the step shows at the location, which is tracked
abbrev pub CountsAt : ℤ → ℤ → List ℕ → Option Content → Option Content → Option Content → Option Content → ℕ → Type 0
CountsAt kind number bytes at agent step after n = ReportsAt (λ l a t. IsCountBy l kind number bytes a t (Some n)) at agent step after

-- it isn't counted
abbrev pub DoesNotCountAt : ℤ → ℤ → List ℕ → Option Content → Option Content → Option Content → Option Content → Code → Type 0
DoesNotCountAt kind number bytes = DoesNotReportAt (λ l. IsNotCounted l kind number bytes)

-- the set or the bag that the step shows at the location has this size, and the location is tracked
abbrev pub SizesAt : Option Content → Option Content → Option Content → Option Content → ℕ → Type 0
SizesAt at agent step after n = ReportsAt (λ l a t. IsSizeBy l a t (Some n)) at agent step after

-- it isn't found
abbrev pub DoesNotSizeAt : Option Content → Option Content → Option Content → Option Content → Code → Type 0
DoesNotSizeAt = DoesNotReportAt IsNotSized
