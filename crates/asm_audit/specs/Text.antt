-- The text of a run: journals, its parts, one after the other, and their lines.
use Rattle.std.specs.Prelude.{◌≡◌, ◌≢◌, ◌<◌, ◌≤◌, ◌⊎◌, ℕ, List, [], ◌∷◌, ◌++◌, length, All}
use Rattle.std.specs.List.{flat_map}
use Rattle.serde_json.specs.Data.{Data}
use Rattle.asm_storage.specs.declared.history.History.{History}
use Rattle.asm_journal.specs.Reading.{HasNoLineFeed, EndsLine, HasLine, IsHeader, HasEvents}
use Rattle.asm_audit.specs.Limits.{line_limit}

-- a line, and what comes after it in a text: the line ends in its line feed, or it is open and ends the text
abbrev pub IsLineBefore : List ℕ → List ℕ → Type 0
IsLineBefore line rest =
    ((body : List ℕ) × EndsLine line body []) ⊎ ((rest ≡ []) × (line ≢ []) × HasNoLineFeed line)

-- the line has a line feed
abbrev pub HasLineFeed : List ℕ → Type 0
HasLineFeed line = (body rest : List ℕ) × EndsLine line body rest

-- the text is the header line of a journal of this version and of this many events, a line for each event of the
-- history, which may have fewer, and the rest
pub record IsBegun (v count : ℕ) (h : History) (text rest : List ℕ) : Type 0 where
  pub value : Data
  pub behind : List ℕ
  pub line : HasLine text value behind
  pub header : IsHeader v h.agents h.capacity count h.init value
  pub events : HasEvents v h.agents behind h.events rest

-- the text is a journal of this history, which is complete, and the rest
abbrev pub HasJournal : History → List ℕ → List ℕ → Type 0
HasJournal h text rest = (v : ℕ) × IsBegun v (length h.events) h text rest

-- the text is the journals of these histories, one after the other, and the rest
abbrev pub HasJournals : List History → List ℕ → List ℕ → Type 0
HasJournals [] text rest = text ≡ rest
HasJournals (h ∷ hs) text rest = (after : List ℕ) × HasJournal h text after × HasJournals hs after rest

-- the bytes are those of a line, without its line feed, and no more than the limit
abbrev pub IsShortLine : List ℕ → Type 0
IsShortLine line = HasNoLineFeed line × (length line ≤ line_limit)

-- these lines, each with its line feed
abbrev pub ended_lines : List (List ℕ) → List ℕ
ended_lines lines = flat_map (λ line. line ++ 10 ∷ []) lines

-- the text is lines, each with its line feed and no longer than the limit
abbrev pub IsShortLines : List ℕ → Type 0
IsShortLines text = (lines : List (List ℕ)) × (text ≡ ended_lines lines) × All IsShortLine lines

-- no line of the text is longer than the limit, the last one included, which may have no line feed
abbrev pub HasShortLines : List ℕ → Type 0
HasShortLines text = (ended line : List ℕ) × (ended ++ line ≡ text) × IsShortLines ended × IsShortLine line

-- the text begins with more bytes than the limit, none of which is a line feed
abbrev pub BeginsWithLong : List ℕ → Type 0
BeginsWithLong text =
    (line : List ℕ) × (more : List ℕ) × (text ≡ line ++ more) × HasNoLineFeed line × (line_limit < length line)
