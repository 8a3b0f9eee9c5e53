-- The first fault of a text that reads as no history.
use Rattle.std.specs.Prelude.{◌≡◌, ◌≢◌, ◌<◌, ◌+◌, ◌⊎◌, ℕ, List, [], length, Some, false, codes, Result, Ok, Err}
use Rattle.serde_json.specs.Data.{Data, Num, unsigned, number}
use Rattle.serde_json.specs.Find.{get, is_float}
use Rattle.asm_update.specs.State.{State}
use Rattle.asm_storage.specs.declared.history.Event.{Event}
use Rattle.asm_storage.specs.declared.history.History.{History}
use Rattle.asm_journal.specs.declared.error.JournalError.{JournalError}
use Rattle.asm_journal.specs.declared.error.JournalError.TheVariants.{NotJson, Shape, Version, Cut, Memory}
use Rattle.asm_journal.specs.Event.{IsEventBelow}
use Rattle.asm_journal.specs.Reading.{IsJson, HasNoLineFeed, BeginsWithLine, HasLine, IsHeader, HasEvents, ReadsAs}

-- The text begins with line k, which is cut (no byte is left, or JSON without a line feed) or isn't JSON.
abbrev pub BreaksLine : ℕ → List ℕ → JournalError → Type 0
BreaksLine k text Cut = (text ≡ []) ⊎ (HasNoLineFeed text × (text ≢ []) × ((d : Data) × IsJson text d))
BreaksLine k text (NotJson n) =
    (n ≡ k) × (text ≢ []) × ((body : List ℕ) × BeginsWithLine text body × ((d : Data) → ¬ IsJson body d))
BreaksLine k text (Shape n) = ⊥
BreaksLine k text Version = ⊥
BreaksLine k text Memory = Unit {0}

-- an object whose version is a whole number other than 1 and 2
abbrev pub HasOtherVersion : Data → Type 0
HasOtherVersion d =
    (n : Num) × (get (codes "version") d ≡ Some (number n)) × (is_float n ≡ false)
    × (n ≢ unsigned 1) × (n ≢ unsigned 2)

-- the value is no header
abbrev pub IsNoHeader : Data → Type 0
IsNoHeader d = (v agents capacity events : ℕ) (init : State) → ¬ IsHeader v agents capacity events init d

-- line 1 is at fault
abbrev pub BreaksHeader : List ℕ → JournalError → Type 0
BreaksHeader text Version = (d : Data) × (rest : List ℕ) × HasLine text d rest × HasOtherVersion d
BreaksHeader text (Shape n) =
    (n ≡ 1) × ((d : Data) × (rest : List ℕ) × HasLine text d rest × ¬ HasOtherVersion d × IsNoHeader d)
BreaksHeader text e = BreaksLine 1 text e

-- the text begins with line k, which is at fault as an event of a journal of this version and of so many agents
abbrev pub BreaksEvent : ℕ → ℕ → ℕ → List ℕ → JournalError → Type 0
BreaksEvent v agents k text (Shape n) =
    (n ≡ k) × ((d : Data) × (rest : List ℕ) × HasLine text d rest × ((e : Event) → ¬ IsEventBelow v agents e d))
BreaksEvent v agents k text e = BreaksLine k text e

-- behind the header there are some events and then a line at fault, or all events and then a byte more
abbrev pub BreaksAfterHeader : List ℕ → JournalError → Type 0
BreaksAfterHeader text e =
    (d : Data) × (rest : List ℕ) × (v agents capacity count : ℕ) × (init : State)
    × HasLine text d rest × IsHeader v agents capacity count init d
    × (es : List Event) × (left : List ℕ) × HasEvents v agents rest es left
    × (((length es < count) × BreaksEvent v agents (length es + 2) left e)
    ⊎ ((length es ≡ count) × (left ≢ []) × (e ≡ Shape (count + 2))))

-- the text is refused with this fault, in its header or behind it; an allocation failure says nothing of the text
abbrev pub IsRefused : List ℕ → JournalError → Type 0
IsRefused text e = BreaksHeader text e ⊎ BreaksAfterHeader text e

-- the history, or an allocation failure
abbrev pub GivesHistory : History → Result History JournalError → Type 0
GivesHistory h (Ok g) = g ≡ h
GivesHistory h (Err e) = e ≡ Memory

-- A text that reads as a history is refused only because memory was refused.
abbrev pub RefusedReadsAsNone : Type 0
RefusedReadsAsNone = (text : List ℕ) (h : History) (e : JournalError) →
    e ≢ Memory → IsRefused text e → ¬ ReadsAs text h

-- A text has at most one first fault.
abbrev pub OneFault : Type 0
OneFault = (text : List ℕ) (e f : JournalError) →
    e ≢ Memory → f ≢ Memory → IsRefused text e → IsRefused text f → e ≡ f

-- A text that reads as no history has a first fault: it isn't so that it has none.
abbrev pub SomeFault : Type 0
SomeFault = (text : List ℕ) → ((h : History) → ¬ ReadsAs text h)
    → ¬ ((e : JournalError) → e ≢ Memory → ¬ IsRefused text e)
