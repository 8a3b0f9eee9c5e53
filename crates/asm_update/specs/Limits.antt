-- The number that bounds a move. Source: this project's profile.
use Rattle.std.specs.Prelude.{ℕ}

-- the most instructions of a move
abbrev pub instructions_limit : ℕ
instructions_limit = 4096
