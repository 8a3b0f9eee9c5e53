-- The effects of the calls that read through the step of a slot, push onto it or extend it.
use Rattle.std.specs.Prelude.{◌≡◌, ◌⊎◌, ℕ, List, [], ◌∷◌, Option, pos}
use Rattle.asm_update.specs.Move.{Move}
use Rattle.asm_storage.specs.Storage.{AgentAt}
use Rattle.asm_journal.specs.Event.{IsMoveForm}
use Rattle.asm_transaction.specs.Reading.{HasTracked, IsUnread}
use Rattle.asm_transaction.specs.View.{TransactionView}
use Rattle.asm_slots.specs.Answers.{EmptyOr, IsMemory, IsUnreadAs}
use Rattle.asm_slots.specs.Bytes.{ReadAsMove}
use Rattle.asm_slots.specs.OwnState.{HasBytesAt, IsValueAt}
use Rattle.asm_slots.specs.Slots.{Changes, HoldBoth, Holds, Lacks, LacksOne, a_location, a_move, a_step, an_agent}
use Rattle.asm_slots.specs.Standard.{Standard}
use Rattle.asm_slots.specs.StepCalls.{Errs, HasGrown, IsBytesSeen, IsGrown, IsNotGrown, IsValueSeen}
use Rattle.asm_slots.specs.WrittenText.{HasNoText, HasText, WritesNothing}
use Rattle.asm_slots.specs.declared.codes.Code.{Code}
use Rattle.asm_slots.specs.declared.codes.Code.TheVariants as code
use Rattle.asm_slots.specs.declared.content.Content.{Content}
use Rattle.asm_slots.specs.declared.pushing.PushMode.{PushMode}
use Rattle.asm_slots.specs.declared.value_head.ValueHead.{ValueHead}

-- ---- reading

-- a text of this kind is written of an agent and a step
abbrev pub ShowsBoth : (AgentAt Standard → TransactionView → List ℕ → Type 0) → Option Content → Option Content → List ℕ → List ℕ → ℕ → Type 0
ShowsBoth IsText agent step = HasText (λ text. HoldBoth agent step (λ a s. IsText a s text))

-- none is: a slot lacks its agent or its step, or it is too long, or there is none for this reason
abbrev pub ShowsNoText : (AgentAt Standard → TransactionView → List ℕ → Type 0) → (AgentAt Standard → TransactionView → Code → Type 0) →
    Option Content → Option Content → List ℕ → List ℕ → ℕ → Code → Type 0
ShowsNoText IsText IsNone agent step =
    HasNoText (λ text. HoldBoth agent step (λ a s. IsText a s text))
    (EmptyOr (LacksOne agent step) (λ c. HoldBoth agent step (λ a s. IsNone a s c)))

-- kind and number are 0
abbrev pub IsNoValue : ValueHead → Type 0
IsNoValue value = (value.kind ≡ pos 0) × (value.number ≡ pos 0)

-- the value at the location in the agent's own state is reported, with the version of that state
abbrev pub PeeksAt : Option Content → Option Content → ℕ → ValueHead → List ℕ → List ℕ → ℕ → Type 0
PeeksAt at agent number value =
    HasText (λ bytes. Holds a_location at (λ l. Holds an_agent agent (λ a. IsValueAt l a number value.kind value.number bytes)))

-- a slot lacks its location or its agent, or the bytes of the value are too long
abbrev pub DoesNotPeekAt : Option Content → Option Content → List ℕ → List ℕ → ℕ → Code → Type 0
DoesNotPeekAt at agent =
    HasNoText (λ bytes. Holds a_location at (λ l. Holds an_agent agent (λ a. HasBytesAt l a bytes)))
    (EmptyOr (Lacks a_location at ⊎ Lacks an_agent agent) IsMemory)

-- what the step shows at the location is reported, and the location is tracked
abbrev pub GetsAt : Option Content → Option Content → Option Content → Option Content → ValueHead → List ℕ → List ℕ → ℕ → Type 0
GetsAt at agent step step_after value out after written = Holds a_location at (λ l.
    ShowsBoth (λ a t. IsValueSeen l a t value.kind value.number) agent step out after written
    × Changes a_step step step_after (HasTracked (l ∷ [])))

-- a slot lacks what the call needs, or the bytes of the value are too long, or the location isn't read
abbrev pub DoesNotGetAt : Option Content → Option Content → Option Content → List ℕ → List ℕ → ℕ → Code → Type 0
DoesNotGetAt at agent step =
    HasNoText (λ bytes. Holds a_location at (λ l. HoldBoth agent step (λ a t. IsBytesSeen l a t bytes)))
    (EmptyOr (Lacks a_location at ⊎ LacksOne agent step)
    (λ c. Holds a_location at (λ l. HoldBoth agent step (λ a t. Errs (IsUnread l a.number t) c))))

-- ---- pushing

-- the move of these bytes is pushed, or extends the one that was pushed last; only the step changes
abbrev pub Grows : PushMode → List ℕ → Option Content → Option Content → Option Content → List ℕ → List ℕ → ℕ → Type 0
Grows way bytes agent step after out out_after written =
    HoldBoth agent step (λ a s. Holds a_step after (HasGrown way bytes a s)) × WritesNothing out out_after written

-- a slot lacks its agent or its step, or the bytes are no move, and nothing changes; or the move isn't accepted
abbrev pub DoesNotGrow : PushMode → List ℕ → Option Content → Option Content → Option Content → List ℕ → List ℕ → ℕ → Code → Type 0
DoesNotGrow way bytes agent step after out out_after written c =
    ((after ≡ step) × WritesNothing out out_after written × EmptyOr (LacksOne agent step) (IsUnreadAs IsMoveForm bytes) c)
    ⊎ HoldBoth agent step (λ a s. Holds a_step after (λ t. (M : Move) × ReadAsMove bytes M × IsNotGrown way M a s t out out_after written c))

-- the same, of the move that a slot holds
abbrev pub GrowsBy : PushMode → Option Content → Option Content → Option Content → Option Content → List ℕ → List ℕ → ℕ → Type 0
GrowsBy way move agent step after out out_after written =
    Holds a_move move (λ M. HoldBoth agent step (λ a s. Holds a_step after (IsGrown way M a s))) × WritesNothing out out_after written

-- a slot lacks what the call needs, and nothing changes; or the move isn't accepted
abbrev pub DoesNotGrowBy : PushMode → Option Content → Option Content → Option Content → Option Content → List ℕ → List ℕ → ℕ → Code → Type 0
DoesNotGrowBy way move agent step after out out_after written c =
    ((after ≡ step) × WritesNothing out out_after written × (c ≡ code.Empty) × (Lacks a_move move ⊎ LacksOne agent step))
    ⊎ Holds a_move move (λ M. HoldBoth agent step (λ a s. Holds a_step after (λ t. IsNotGrown way M a s t out out_after written c)))
