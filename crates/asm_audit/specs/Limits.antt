-- The limit of audits. Source: this project's profile.
use Rattle.std.specs.Prelude.{ℕ}

-- the most bytes of a line that an audit of bytes holds, without the line feed
abbrev pub line_limit : ℕ
line_limit = 1073741824
