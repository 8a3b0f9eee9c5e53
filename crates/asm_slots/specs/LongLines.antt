-- Fires, reads and states whose lines in a journal would be, or could be, longer than an audit reads.
use Rattle.std.specs.Prelude.{◌≡◌, ◌<◌, ◌+◌, ◌-◌, ◌*◌, max, ℕ, List, [], ◌∷◌, length, map, Option, None, Some, Result, Ok, Err}
use Rattle.std.specs.declared.alloc.AllocError.{AllocError}
use Rattle.std.specs.FinMap as finite
use Rattle.serde_json.specs.Data.{Data}
use Rattle.serde_json.specs.Written.{compact_text}
use Rattle.asm_element.specs.Limits.{args_limit, name_limit}
use Rattle.asm_element.specs.Place.{Place}
use Rattle.asm_update.specs.Fire.{Old}
use Rattle.asm_update.specs.Move.{Move}
use Rattle.asm_update.specs.State.{State}
use Rattle.asm_state.specs.declared.named.Named.{Named}
use Rattle.asm_journal.specs.Element.{location_json_of}
use Rattle.asm_journal.specs.Event.{named_json_of}
use Rattle.asm_journal.specs.Instruction.{instruction_json_of}
use Rattle.asm_journal.specs.Value.{pair_json_of, value_json_of}
use Rattle.asm_audit.specs.Limits.{line_limit}
use Rattle.asm_slots.specs.declared.codes.Code.{Code}
use Rattle.asm_slots.specs.declared.codes.Code.TheVariants as code

-- room for what a line has besides what is counted here, at most 75 bytes: the names of members, the numbers and the signs
-- around them
abbrev pub line_room : ℕ
line_room = 120

-- how many bytes of a line are left to what is counted here
abbrev pub counted_limit : ℕ
counted_limit = line_limit - line_room

-- how many bytes the JSON has in a journal
abbrev pub spelled : Data → ℕ
spelled d = length (compact_text d)

-- how many bytes all of these have, each with a comma
abbrev pub spelled_list : List Data → ℕ
spelled_list [] = 0
spelled_list (d ∷ ds) = spelled d + 1 + spelled_list ds

-- how many bytes the longest of these has
abbrev pub longest : List Data → ℕ
longest [] = 0
longest (d ∷ ds) = max (spelled d) (longest ds)

-- how many bytes the longest location of a fire has, which its reply may have, with its instructions and its declared reads
abbrev pub fire_size : List Named → Move → ℕ
fire_size reads M =
    max (longest (map (λ i. location_json_of i.at) M)) (longest (map (λ r. location_json_of r.at) reads))
    + spelled_list (map instruction_json_of M) + spelled_list (map named_json_of reads)

-- the line of this fire could be too long, by its reply
abbrev pub IsLongFire : List Named → Move → Type 0
IsLongFire reads M = counted_limit < fire_size reads M

-- how many bytes the locations and their values have, each with a comma
abbrev pub spelled_values : Old → List Place → ℕ
spelled_values seen [] = 0
spelled_values seen (l ∷ ls) = spelled (location_json_of l) + 1 + (spelled (value_json_of (seen l)) + 1) + spelled_values seen ls

-- the line of a read of these locations would be too long, with these values
abbrev pub IsLongRead : Old → List Place → Type 0
IsLongRead seen locations = counted_limit < spelled_values seen locations

-- the first line of a journal that opens with this state would be too long
abbrev pub IsLongState : State → Type 0
IsLongState S = counted_limit < spelled_list (map pair_json_of (finite.entries S))

-- what is left of so many bytes without these; None if they are fewer
abbrev pub IsLeft : ℕ → ℕ → Option ℕ → Type 0
IsLeft start taken None = start < taken
IsLeft start taken (Some rest) = start ≡ taken + rest

-- what is answered for what is left
abbrev pub answer_for_room : Result (Option ℕ) AllocError → Result (Unit {0}) Code
answer_for_room (Ok (Some rest)) = Ok tt
answer_for_room (Ok None) = Err code.LongLine
answer_for_room (Err e) = Err code.Memory

-- why this isn't done: the line is too long, or memory was refused
abbrev pub LongOr : Type 0 → Code → Type 0
LongOr IsLong code.LongLine = IsLong
LongOr IsLong code.Memory = Unit {0}
LongOr IsLong _ = ⊥

-- the most bytes of a text of 1,000 bytes in quotes, each of which may be escaped by six; no other element but a list has more
abbrev pub short_element : ℕ
short_element = 6 * 1000 + 2

-- the most bytes of such an element and of a number that isn't below 0, each with a comma: no action has longer operands
abbrev pub short_operands : ℕ
short_operands = short_element + 1 + (10 + 1)

-- the most bytes of a name in quotes and of such arguments, each with a comma, and of the brackets of the location
abbrev pub short_place : ℕ
short_place = (6 * name_limit + 2) + args_limit * (short_element + 1) + 2

-- the most bytes of an instruction at such a location, with such operands, with 59 for its verb and its signs
abbrev pub short_instruction : ℕ
short_instruction = short_place + short_operands + 59

-- the most bytes of a declared read of such a location, with its number and 3 for its signs
abbrev pub short_read : ℕ
short_read = short_place + 10 + 3
