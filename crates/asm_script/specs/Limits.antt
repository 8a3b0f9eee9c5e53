-- The number that bounds a step of a script. Source: this project's profile.
use Rattle.std.specs.Prelude.{ℕ, ◌+◌}
use Rattle.asm_overlay.specs.Limits.{frames_limit}

-- the most blocks of a step: all but the last are pushed
abbrev pub blocks_limit : ℕ
blocks_limit = frames_limit + 1
