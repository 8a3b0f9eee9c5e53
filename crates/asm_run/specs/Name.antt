-- The names of segments, such as 00000017-340-12-15-PREVIOUS-DIGEST.journal.
use Rattle.std.specs.Prelude.{◌≡◌, ◌<◌, ℕ, ◌-◌, take, drop, cond, nat_eq, Option, Some, None, List, ◌∷◌, ◌++◌, length}
use Rattle.std.specs.Prelude.{replicate, decimal, codes, Bool, ◌&&◌, ◌||◌, nat_le, All, IsTrue}
use Rattle.std.specs.Cmp.Lexicographic.{slice_cmp}
use Rattle.std.specs.Ordering.{nat_cmp}
use Rattle.std.specs.Str.Parse.{AllDigits, digits_value}
use Rattle.std.specs.declared.cmp.Ordering.TheVariants.{Less}
use lib.Pointwise.{pointwise}
use Rattle.asm_run.specs.declared.name.SegmentName.{SegmentName}

-- eight digits that write the number
pub record IsEight (n : ℕ) (text : List ℕ) : Type 0 where
  pub eight : length text ≡ 8
  pub digits : AllDigits 10 text
  pub number : digits_value 10 text ≡ n

-- a hexadecimal digit, no capital letter
abbrev pub is_hex_digit : ℕ → Bool
is_hex_digit b = (nat_le 48 b && nat_le b 57) || (nat_le 97 b && nat_le b 102)

-- sixty-four of them
pub record IsDigest (text : List ℕ) : Type 0 where
  pub size : length text ≡ 64
  pub digits : All (λ b. IsTrue (is_hex_digit b)) text

-- the name from its digest of the segment before on
abbrev pub from_previous : SegmentName → List ℕ
from_previous n = n.previous ++ (45 ∷ (n.digest ++ codes ".journal"))

-- from its number of events on
abbrev pub from_events : SegmentName → List ℕ
from_events n = decimal n.events ++ (45 ∷ from_previous n)

-- from its number of moves on
abbrev pub from_moves : SegmentName → List ℕ
from_moves n = decimal n.moves ++ (45 ∷ from_events n)

-- from its number of moves before it on
abbrev pub from_first : SegmentName → List ℕ
from_first n = decimal n.first ++ (45 ∷ from_moves n)

-- the name as it is written
abbrev pub name_text : SegmentName → List ℕ
name_text n = (replicate (8 - length (decimal n.number)) 48 ++ decimal n.number) ++ (45 ∷ from_first n)

-- the text is this name
pub record IsName (text : List ℕ) (n : SegmentName) : Type 0 where
  pub front : List ℕ
  pub number : IsEight n.number front
  pub previous : IsDigest n.previous
  pub digest : IsDigest n.digest
  pub all : text ≡ front ++ (45 ∷ from_first n)

-- names in the order of their numbers are in the order of their bytes
abbrev pub SortByNumber : Type 0
SortByNumber =
    (s t : List ℕ) (n m : SegmentName) → IsName s n → IsName t m → n.number < m.number →
    slice_cmp nat_cmp s t ≡ Less

-- the number of the segment of which it may be the name: it ends in .journal
unfoldable pub number_in : List ℕ → Option ℕ
number_in text = cond (pointwise nat_eq (drop (length text - 8) text) (codes ".journal")) (Some (digits_value 10 (take 8 text))) None
