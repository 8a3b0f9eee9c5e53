-- The number that bounds the tries of a step. Source: this project's profile.
use Rattle.std.specs.Prelude.{ℕ}

-- the most tries of a step, before it is given up
abbrev pub tries_limit : ℕ
tries_limit = 1001
