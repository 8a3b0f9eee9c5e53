-- The number that bounds a stack of frames. Source: this project's profile.
use Rattle.std.specs.Prelude.{ℕ}

-- the most frames of an overlay
abbrev pub frames_limit : ℕ
frames_limit = 64
