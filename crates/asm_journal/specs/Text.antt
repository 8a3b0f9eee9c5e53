-- The text of a history, and what of it went out before a write stopped.
use Rattle.std.specs.Prelude.{ℕ, List, [], ◌∷◌, ◌++◌, length, map, codes, ◌<◌, take, Option}
use Rattle.std.specs.List.{flat_map}
use Rattle.std.specs.FinMap as finite
use Rattle.serde_json.specs.Data.{Data, Members, object, member, no_members}
use Rattle.serde_json.specs.Written.{compact_text}
use Rattle.asm_update.specs.State.{State}
use Rattle.asm_storage.specs.declared.history.Event.{Event}
use Rattle.asm_storage.specs.declared.history.History.{History}
use Rattle.asm_journal.specs.Shape.{list_of, number_json_of}
use Rattle.asm_journal.specs.Value.{pair_json_of}
use Rattle.asm_journal.specs.Event.{event_json_of}
use Rattle.std.specs.Io.KnownBytes.{Appends, Keeps}
use Rattle.asm_journal.specs.declared.error.WriteError.{WriteError}
use Rattle.asm_journal.specs.declared.error.WriteError.TheVariants.{Output, Memory}

-- [PAIR, ..], in ascending order of locations
abbrev pub state_json_of : State → Data
state_json_of A = list_of (map pair_json_of (finite.entries A))

-- {"agents":..,"capacity":..,"events":..,"init":..,"version":..}
abbrev pub header_with : Data → Data → Data → Data → Data → Data
header_with agents capacity events init version =
    object (member (codes "agents") agents (member (codes "capacity") capacity (member (codes "events") events
    (member (codes "init") init (member (codes "version") version no_members)))))

-- {"agents":N,"capacity":N,"events":N,"init":INIT,"version":2}
abbrev pub header_of : ℕ → ℕ → ℕ → Data → Data
header_of agents capacity events init =
    header_with (number_json_of agents) (number_json_of capacity) (number_json_of events) init (number_json_of 2)

-- the header of a history
abbrev pub header_json_of : History → Data
header_json_of h = header_of h.agents h.capacity (length h.events) (state_json_of h.init)

-- "agents":N,"capacity":N,"events":N,"init":[PAIR, ..], and what follows
abbrev pub numbers_members_of : ℕ → ℕ → ℕ → State → Members → Members
numbers_members_of agents capacity events init rest =
    member (codes "agents") (number_json_of agents) (member (codes "capacity") (number_json_of capacity)
    (member (codes "events") (number_json_of events) (member (codes "init") (state_json_of init) rest)))

-- those of a history, which its journal and its trace write alike, and what follows
abbrev pub header_members_of : History → Members → Members
header_members_of h rest = numbers_members_of h.agents h.capacity (length h.events) h.init rest

-- the compact text of a value, and a line feed
abbrev pub line : Data → List ℕ
line d = compact_text d ++ 10 ∷ []

-- the lines of events
abbrev pub events_text : List Event → List ℕ
events_text events = flat_map (λ e. line (event_json_of e)) events

-- a header line, and a line for each event
abbrev pub text_of : History → List ℕ
text_of h = line (header_json_of h) ++ events_text h.events

-- the first bytes of the text went out, as many as the error says and fewer than all, or none because memory was
-- refused
abbrev pub Stops : Option (List ℕ) → Option (List ℕ) → List ℕ → WriteError → Type 0
Stops old new text (Output written) = (written < length text) × Appends old new (take written text)
Stops old new text Memory = Keeps old new
