-- What slots hold.
use Rattle.std.specs.Prelude.{◌≡◌, ◌<◌, ◌⊎◌, slice_index_or, ℕ, List, [], length, Option, None, Some, IfSome, IsSomeAnd}
use Rattle.asm_element.specs.Place.{Place}
use Rattle.asm_update.specs.Move.{Move}
use Rattle.asm_storage.specs.Storage.{AgentAt, StorageView, at_start}
use Rattle.asm_transaction.specs.View.{TransactionView}
use Rattle.asm_slots.specs.AuditView.{AuditView, WasFed}
use Rattle.asm_slots.specs.Standard.{Standard}
use Rattle.asm_slots.specs.Store.{StoreView}
use Rattle.asm_slots.specs.declared.slot.Slot.{Slot}
use Rattle.asm_slots.specs.declared.content.Content.{Content}
use Rattle.asm_slots.specs.declared.content.Content.TheVariants as content

-- what a slot holds
abbrev pub content_of : Slot → Option Content
content_of slot = slot.handle.value

-- the storage that the slot holds, if it holds one
abbrev pub a_store : Option Content → Option StoreView
a_store (Some (content.Store s)) = Some s
a_store _ = None

-- the agent
abbrev pub an_agent : Option Content → Option (AgentAt Standard)
an_agent (Some (content.Agent a)) = Some a
an_agent _ = None

-- the step
abbrev pub a_step : Option Content → Option TransactionView
a_step (Some (content.Step t)) = Some t
a_step _ = None

-- the location
abbrev pub a_location : Option Content → Option Place
a_location (Some (content.Location l)) = Some l
a_location _ = None

-- the move
abbrev pub a_move : Option Content → Option Move
a_move (Some (content.Move M)) = Some M
a_move _ = None

-- the audit
abbrev pub an_audit : Option Content → Option AuditView
an_audit (Some (content.Audit a)) = Some a
an_audit _ = None

-- the slot holds one of this kind, with this property
abbrev pub Holds : {A : Type 0} → (Option Content → Option A) → Option Content → (A → Type 0) → Type 0
Holds kind slot P = IsSomeAnd (kind slot) P

-- if the slot holds one of this kind, it has this property
abbrev pub IfHolds : {A : Type 0} → (Option Content → Option A) → Option Content → (A → Type 0) → Type 0
IfHolds kind slot P = IfSome (kind slot) P

-- the slot holds none of this kind
abbrev pub Lacks : {A : Type 0} → (Option Content → Option A) → Option Content → Type 0
Lacks kind slot = IfHolds kind slot (λ _. ⊥)

-- the slot is empty or holds one of this kind
abbrev pub HasRoomFor : {A : Type 0} → (Option Content → Option A) → Option Content → Type 0
HasRoomFor kind None = Unit {0}
HasRoomFor kind slot = Holds kind slot (λ _. Unit {0})

-- the slot holds one of this kind before and after, and this relation holds between the two
abbrev pub Changes : {A : Type 0} → (Option Content → Option A) → Option Content → Option Content → (A → A → Type 0) → Type 0
Changes kind old new P = Holds kind old (λ x. Holds kind new (P x))

-- the one slot holds an agent and the other a step, and this relation holds between the two
abbrev pub HoldBoth : Option Content → Option Content → (AgentAt Standard → TransactionView → Type 0) → Type 0
HoldBoth agent step P = Holds an_agent agent (λ a. Holds a_step step (P a))

-- one of the two is missing, the agent or the step
abbrev pub LacksOne : Option Content → Option Content → Type 0
LacksOne agent step = Lacks an_agent agent ⊎ Lacks a_step step

-- the move that the slot holds; if it holds none, that of no instructions
abbrev pub move_of : Option Content → Move
move_of (Some (content.Move M)) = M
move_of _ = []

-- the slot holds an audit before, or is empty and one that has read nothing begins there; it holds one after, and
-- this relation holds between the two
abbrev pub ChangesAudit : Option Content → Option Content → (AuditView → AuditView → Type 0) → Type 0
ChangesAudit None new P = (a : AuditView) × WasFed [] a × Holds an_audit new (P a)
ChangesAudit old new P = Changes an_audit old new P

-- two agents are of one storage, if there are two
abbrev pub AreOfOneStorage : Option Content → Option Content → Type 0
AreOfOneStorage agent other = IfHolds an_agent agent (λ a. IfHolds an_agent other (λ b. a.storage ≡ b.storage))

-- the agent of the slot is of the storage of the other, if there are both
abbrev pub IsOfStore : Option Content → Option Content → Type 0
IsOfStore agent store = IfHolds an_agent agent (λ a. IfHolds a_store store (λ s. a.storage ≡ s.storage))

-- each slot holds an agent of the storage with its index as its number, which has made no call
abbrev pub AreNew : StorageView Standard → List Slot → Type 0
AreNew s slots = (k : ℕ) (d : Slot) → k < length slots →
    Holds an_agent (content_of (slice_index_or slots k d)) (λ a. a ≡ at_start s k)

-- no slot holds anything
abbrev pub AreEmpty : List Slot → Type 0
AreEmpty slots = (k : ℕ) (d : Slot) → k < length slots → content_of (slice_index_or slots k d) ≡ None
