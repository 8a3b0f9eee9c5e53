-- The number that bounds sentences. Source: this project's profile.
use Rattle.std.specs.Prelude.{ℕ}

-- the most bytes of a sentence on a text, and of what one on a journal says of its line
abbrev pub sentence_limit : ℕ
sentence_limit = 512
