-- The numbers of the program. Source: this project's profile.
use Rattle.std.specs.Prelude.{ℕ}

-- the capacity if none is given
abbrev pub default_capacity : ℕ
default_capacity = 4096

-- the limit of the input's size, in bytes
abbrev pub input_limit : ℕ
input_limit = 16777216
