-- The numbers that bound agents and their calls. Source: this project's profile.
use Rattle.std.specs.Prelude.{ℕ}

-- the most agents of a storage: their numbers are below it
abbrev pub agents_limit : ℕ
agents_limit = 256

-- the most locations of a read, and the most declared reads and scans of a fire together
abbrev pub reads_limit : ℕ
reads_limit = 256

-- the most attempts of a fire
abbrev pub offers_limit : ℕ
offers_limit = 64

-- the most instructions of a move that is judged without a state
abbrev pub most_plain : ℕ
most_plain = 16

-- the most moves that the count of a history can have
abbrev pub most_counted : ℕ
most_counted = 4294967295

-- the most events of a journal
abbrev pub events_limit : ℕ
events_limit = 4294967295
