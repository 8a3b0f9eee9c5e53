-- What the calls do with the transaction in a slot.
use Rattle.std.specs.Prelude.{◌≡◌, ◌≤◌, ◌⊎◌, ℕ, ℤ, List, [], ◌∷◌, ◌++◌, length}
use Rattle.asm_element.specs.Place.{Place}
use Rattle.asm_element.specs.declared.value.Value.{Value}
use Rattle.asm_update.specs.Fire.{Old}
use Rattle.asm_update.specs.Move.{Move}
use Rattle.asm_update.specs.State.{State, IsProper}
use Rattle.asm_storage.specs.Storage.{AgentAt}
use Rattle.asm_journal.specs.Text.{state_json_of}
use Rattle.asm_step.specs.Layers.{extended}
use Rattle.asm_step.specs.declared.error.StepError.{StepError}
use Rattle.asm_step.specs.declared.error.StepError.TheVariants.{Clash, Large, Many, Deep, Memory}
use Rattle.asm_transaction.specs.Pushing.{HasPushed, IsRefusal}
use Rattle.asm_transaction.specs.Reading.{HasTracked, IsOf, IsShown, IsUnseen, IsUntracked, Shows}
use Rattle.asm_transaction.specs.Scanning.{IsScan, IsUnscanned}
use Rattle.asm_transaction.specs.Tracked.{refusal_places}
use Rattle.asm_transaction.specs.View.{TransactionView, pushed}
use Rattle.asm_transaction.specs.declared.error.TransactionError.{TransactionError}
use Rattle.asm_transaction.specs.declared.error.TransactionError.TheVariants as transaction_error
use Rattle.asm_slots.specs.Answers.{IsUnreadAs}
use Rattle.asm_slots.specs.Bytes.{AreLocations, ReadAsLocations, ReadAsMove}
use Rattle.asm_slots.specs.Composing.{clash_text, large_text}
use Rattle.asm_slots.specs.Kinds.{IsValueBy, bytes_of}
use Rattle.asm_slots.specs.OwnState.{values_text}
use Rattle.asm_slots.specs.Standard.{Standard, meaning}
use Rattle.asm_slots.specs.WrittenText.{HasText, WritesNothing, LacksRoom}
use Rattle.asm_slots.specs.declared.codes.Code.{Code}
use Rattle.asm_slots.specs.declared.codes.Code.TheVariants as code
use Rattle.asm_slots.specs.declared.pushing.PushMode.{PushMode}
use Rattle.asm_slots.specs.declared.pushing.PushMode.TheVariants as ways
use Rattle.serde_json.specs.Written.{compact_text}

-- the agent has seen the moves up to the transaction's version
abbrev pub HasReached : AgentAt Standard → TransactionView → Type 0
HasReached a t = t.number ≤ length a.account.seen

-- the code is that of an error of the transaction with this property
abbrev pub Errs : (TransactionError → Type 0) → Code → Type 0
Errs P code.Moved = P transaction_error.Moved
Errs P code.Many = P transaction_error.ManyReads
Errs P code.Memory = P transaction_error.Memory
Errs P _ = ⊥

-- ---- reading

-- the text has what the transaction shows at the locations, if it is one of the agent
abbrev pub AreSeen : List Place → AgentAt Standard → TransactionView → List ℕ → Type 0
AreSeen locations a t text =
    (seen : Old) × (IsOf meaning a t → Shows meaning a t seen) × (text ≡ values_text t.number seen locations)

-- the bytes are JSON of locations, and the text has what is shown there; the agent has reached the transaction's version
abbrev pub IsSeenBy : List ℕ → AgentAt Standard → TransactionView → List ℕ → Type 0
IsSeenBy bytes a t text =
    HasReached a t × ((locations : List Place) × ReadAsLocations bytes locations × AreSeen locations a t text)

-- the bytes are no locations, or the agent's own state is at another version
abbrev pub IsNotSeen : List ℕ → AgentAt Standard → TransactionView → Code → Type 0
IsNotSeen bytes a t c = IsUnreadAs AreLocations bytes c ⊎ Errs (IsUnseen a.number t) c

-- the transaction tracks the locations of these bytes
abbrev pub HasTrackedBy : List ℕ → TransactionView → TransactionView → Type 0
HasTrackedBy bytes old new = (locations : List Place) × ReadAsLocations bytes locations × HasTracked locations old new

-- nothing is seen, or the locations of these bytes can't be tracked
abbrev pub IsNotGot : List ℕ → AgentAt Standard → TransactionView → Code → Type 0
IsNotGot bytes a t c =
    IsNotSeen bytes a t c
    ⊎ (HasReached a t × ((locations : List Place) × ReadAsLocations bytes locations × Errs (IsUntracked locations t) c))

-- kind, number and bytes are those of what the transaction shows at the location, if it is one of the agent
abbrev pub IsValueSeen : Place → AgentAt Standard → TransactionView → ℤ → ℤ → List ℕ → Type 0
IsValueSeen l a t kind number bytes =
    HasReached a t × ((v : Value) × (IsOf meaning a t → IsShown meaning a t l v) × IsValueBy v kind number bytes)

-- the bytes are
abbrev pub IsBytesSeen : Place → AgentAt Standard → TransactionView → List ℕ → Type 0
IsBytesSeen l a t bytes = HasReached a t × ((v : Value) × (IsOf meaning a t → IsShown meaning a t l v) × (bytes ≡ bytes_of v))

-- the text is the JSON of what the transaction shows of this function, if it is one of the agent
abbrev pub IsFoundText : List ℕ → AgentAt Standard → TransactionView → List ℕ → Type 0
IsFoundText name a t text =
    (P : State) × IsProper P × (IsOf meaning a t → IsScan meaning a t name P) × (text ≡ compact_text (state_json_of P))

-- and the agent has reached the transaction's version
abbrev pub IsFoundBy : List ℕ → AgentAt Standard → TransactionView → List ℕ → Type 0
IsFoundBy name a t text = HasReached a t × IsFoundText name a t text

-- the function isn't scanned
abbrev pub IsNotScanned : List ℕ → AgentAt Standard → TransactionView → Code → Type 0
IsNotScanned name a t c = Errs (IsUnscanned name a.number t) c

-- ---- pushing

-- the pushed moves with this one: pushed, or extending the last
abbrev pub grown : PushMode → List (List Move) → Move → List (List Move)
grown ways.Push groups M = groups ++ (M ∷ []) ∷ []
grown ways.Extend groups M = extended groups M

-- the move is pushed, or extends the one that was pushed last
pub record IsGrown (way : PushMode) (M : Move) (a : AgentAt Standard) (old new : TransactionView) : Type 0 where
  pub same : new ≡ record old { layers = new.layers }
  pub reached : HasReached a old
  pub grows : IsOf meaning a old → HasPushed meaning a (grown way (pushed old) M) new

-- why it isn't; never 64 pushed moves if it would extend the last
abbrev pub IsPushError : PushMode → Move → AgentAt Standard → TransactionView → StepError → Type 0
IsPushError ways.Extend M a t Deep = ⊥
IsPushError way M a t e = HasReached a t × IsRefusal meaning a t M e

-- the bytes are JSON of a move, which is pushed or extends the one that was pushed last
abbrev pub HasGrown : PushMode → List ℕ → AgentAt Standard → TransactionView → TransactionView → Type 0
HasGrown way bytes a old new = (M : Move) × ReadAsMove bytes M × IsGrown way M a old new

-- the code and the text of why a move isn't pushed: the clash, the location where an amount or a sum is too large, or
-- nothing if there are too many instructions or moves
abbrev pub ReportsRefusal : StepError → Code → List ℕ → Type 0
ReportsRefusal (Clash k) c text = (c ≡ code.Clash) × (text ≡ clash_text k)
ReportsRefusal (Large l) c text = (c ≡ code.Large) × (text ≡ large_text l)
ReportsRefusal Many c text = (c ≡ code.LongMove) × (text ≡ [])
ReportsRefusal Deep c text = (c ≡ code.Deep) × (text ≡ [])
ReportsRefusal Memory c text = ⊥

-- code and text report why the move is neither pushed nor extends the last one, and the locations on which that depends
-- are tracked
abbrev pub IsRefused : PushMode → Move → AgentAt Standard → TransactionView → TransactionView → Code → List ℕ → Type 0
IsRefused way M a old new c text =
    (e : StepError) × IsPushError way M a old e × ReportsRefusal e c text × HasTracked (refusal_places M e) old new

-- the agent's own state is at another version; or the move is refused, and these locations can't be tracked
abbrev pub IsNotAccepted : PushMode → Move → AgentAt Standard → TransactionView → Code → Type 0
IsNotAccepted way M a t c =
    Errs (IsUnseen a.number t) c ⊎ ((e : StepError) × IsPushError way M a t e × Errs (IsUntracked (refusal_places M e) t) c)

-- the refusal is reported, or its text is too long; or the step and the buffer are unchanged
abbrev pub IsNotGrown : PushMode → Move → AgentAt Standard → TransactionView → TransactionView → List ℕ → List ℕ → ℕ → Code →
    Type 0
IsNotGrown way M a old new out after written c =
    HasText (IsRefused way M a old new c) out after written
    ⊎ ((after ≡ out) × ((k : Code) × LacksRoom (IsRefused way M a old new k) out written c))
    ⊎ (WritesNothing out after written × (new ≡ old) × IsNotAccepted way M a old c)
