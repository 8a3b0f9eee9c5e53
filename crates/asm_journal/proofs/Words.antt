-- Telling texts apart.
use Rattle.std.proofs.Common.{◌+◌, ◌*◌, ℕ, List, [], ◌∷◌}

-- a number that tells texts of bytes apart: the bytes are its digits, and a 1 leads them
unfoldable pub measure : List ℕ → ℕ
measure [] = 1
measure (b ∷ bs) = b + 256 * measure bs
