-- How a text reads as a history, and the laws by which the texts that are written are those that are read.
use Rattle.std.specs.Prelude.{◌≡◌, ◌≢◌, ◌≤◌, ◌⊎◌, ℕ, List, [], ◌∷◌, ◌++◌, length, All, Some, IsUtf8}
use Rattle.serde_json.specs.Data.{Data}
use Rattle.serde_json.specs.Read.{read}
use Rattle.asm_row.specs.Limits.{capacity_limit}
use Rattle.asm_update.specs.State.{State}
use Rattle.asm_storage.specs.Limits.{agents_limit, events_limit}
use Rattle.asm_storage.specs.declared.history.Event.{Event}
use Rattle.asm_storage.specs.declared.history.History.{History}
use Rattle.asm_journal.specs.Value.{IsStateForm}
use Rattle.asm_journal.specs.Event.{IsEventBelow}
use Rattle.asm_journal.specs.Shape.{IsVersion, IsOfVersion, number_json_of}
use Rattle.asm_journal.specs.Text.{header_with, text_of}
use Rattle.asm_storage.specs.History.{Fits}
use Rattle.asm_storage.specs.Proper.{IsProper}

-- the bytes are JSON of this value
abbrev pub IsJson : List ℕ → Data → Type 0
IsJson bytes d = IsUtf8 bytes × (read bytes ≡ Some d)

-- none of the bytes is a line feed
abbrev pub HasNoLineFeed : List ℕ → Type 0
HasNoLineFeed bytes = All (λ b. b ≢ 10) bytes

-- the text is this line, its line feed, and the rest
abbrev pub EndsLine : List ℕ → List ℕ → List ℕ → Type 0
EndsLine text body rest = (text ≡ body ++ 10 ∷ rest) × HasNoLineFeed body

-- the text begins with this line, which goes up to the first line feed, or up to the end where there is none
abbrev pub BeginsWithLine : List ℕ → List ℕ → Type 0
BeginsWithLine text body =
    ((rest : List ℕ) × EndsLine text body rest) ⊎ ((body ≡ text) × HasNoLineFeed text)

-- the text is a line of JSON of this value, its line feed, and the rest
abbrev pub HasLine : List ℕ → Data → List ℕ → Type 0
HasLine text d rest = (body : List ℕ) × EndsLine text body rest × IsJson body d

-- the numbers of a journal: at most 256 agents, a capacity of 1 to 1,048,576, at most 4,294,967,295 events
abbrev pub AreLimits : ℕ → ℕ → ℕ → Type 0
AreLimits agents capacity events =
    (agents ≤ agents_limit) × (1 ≤ capacity) × (capacity ≤ capacity_limit) × (events ≤ events_limit)

-- the values are these numbers, which are within the limits, and journals of the version are read
abbrev pub AreNumbers : ℕ → ℕ → ℕ → ℕ → Data → Data → Data → Data → Type 0
AreNumbers v agents capacity events a c n version =
    (a ≡ number_json_of agents) × (c ≡ number_json_of capacity) × (n ≡ number_json_of events)
    × (version ≡ number_json_of v) × IsVersion v × AreLimits agents capacity events

-- the value is a header of this version, with these numbers and this opening state
abbrev pub IsHeader : ℕ → ℕ → ℕ → ℕ → State → Data → Type 0
IsHeader v agents capacity events init d =
    (a c n pairs version : Data) × (d ≡ header_with a c n pairs version)
    × AreNumbers v agents capacity events a c n version × IsStateForm init pairs × IsOfVersion v d

-- the text is a line of this version for each event, and the rest
abbrev pub HasEvents : ℕ → ℕ → List ℕ → List Event → List ℕ → Type 0
HasEvents v agents text [] rest = text ≡ rest
HasEvents v agents text (e ∷ es) rest =
    (d : Data) × (after : List ℕ) × HasLine text d after × IsEventBelow v agents e d
    × HasEvents v agents after es rest

-- a header line, a line of the same version for each event, and nothing behind them
abbrev pub ReadsAs : List ℕ → History → Type 0
ReadsAs text h =
    (d : Data) × (rest : List ℕ) × (v : ℕ) × HasLine text d rest
    × IsHeader v h.agents h.capacity (length h.events) h.init d × HasEvents v h.agents rest h.events []

-- The text of a history that is well-formed and fits a journal reads as that history.
abbrev pub TextReadsBack : Type 0
TextReadsBack = (h : History) → IsProper h → Fits h → ReadsAs (text_of h) h

-- A text reads as at most one history.
abbrev pub OneReading : Type 0
OneReading = (text : List ℕ) (g h : History) → ReadsAs text g → ReadsAs text h → g ≡ h

-- A text, of either version, reads as a history that a program can hold. Then the history's own text reads as it too.
abbrev pub RewrittenReadsBack : Type 0
RewrittenReadsBack = (text : List ℕ) (h : History) → IsProper h → ReadsAs text h → ReadsAs (text_of h) h
