-- The head and the number of a location, which order most locations without the rest of them.
use Rattle.std.specs.Prelude.{◌≡◌, ℕ, zero, suc, ◌+◌, ◌*◌, ℤ, pos, cond, nat_le, List, [], ◌∷◌, length, slice_index}
use Rattle.asm_element.specs.declared.element.Element.{Element}
use Rattle.asm_element.specs.declared.element.Element.TheVariants.{Num}
use Rattle.asm_element.specs.Datum.{rank}
use Rattle.asm_element.specs.View.{datum}
use Rattle.asm_element.specs.Place.{Place, IsProper}

-- a name of at most 7 bytes is short: a head holds all of it
abbrev pub short_name : ℕ
short_name = 7

-- the number whose n digits in base 256 are the first n bytes, with 0 for each that isn't there
abbrev pub digits : ℕ → List ℕ → ℕ
digits zero bytes = 0
digits (suc n) bytes = digits n bytes * 256 + slice_index bytes n

-- the rank of the first argument, or 0
abbrev pub first_rank : List Element → ℕ
first_rank [] = 0
first_rank (x ∷ xs) = rank (datum x)

-- the first argument if it is a number, or 0
abbrev pub first_number : List Element → ℤ
first_number (Num n ∷ xs) = n
first_number _ = pos 0

-- 1 if the number of arguments and the rank and the number of the first one decide all of them: there is none, or one up to numbers
abbrev pub decided : List Element → ℕ
decided [] = 1
decided (x ∷ []) = cond (nat_le (rank (datum x)) 3) 1 0
decided (x ∷ y ∷ xs) = 0

-- a byte for the arguments: 16 for each, twice the rank of the first, and 1 if they are decided
abbrev pub args_byte : List Element → ℕ
args_byte args = 16 * length args + 2 * first_rank args + decided args

-- the last byte of a head: the arguments' byte, or 254, which is above all of those, for a long name
abbrev pub last_byte : Place → ℕ
last_byte l = cond (nat_le (length l.name) short_name) (args_byte l.args) 254

-- the head: the first 7 bytes of the name and the last byte, as the digits of one number
abbrev pub place_head : Place → ℕ
place_head l = digits short_name l.name * 256 + last_byte l

-- the number: the first argument if it is one and the name is short, or 0
abbrev pub place_number : Place → ℤ
place_number l = cond (nat_le (length l.name) short_name) (first_number l.args) (pos 0)

-- the head and the number are those of the location, which is well-formed
abbrev pub IsHeaded : ℕ → ℤ → Place → Type 0
IsHeaded head number l = IsProper l × (head ≡ place_head l) × (number ≡ place_number l)
