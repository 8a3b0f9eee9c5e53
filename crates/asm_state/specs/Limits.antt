-- The numbers that bound states. Source: this project's profile.
use Rattle.std.specs.Prelude.{ℕ}

-- the most moves that a state follows
abbrev pub followed_limit : ℕ
followed_limit = 4294967295
