-- What partial updates of a counter mean.
use Rattle.std.specs.Prelude.{ℤ, pos, negsuc, ◌+ℤ◌, ◌-ℤ◌, int_lt, Bool, true, false, ◌||◌, ◌&&◌, not, List, [], ◌∷◌, map}
use Rattle.std.specs.Prelude.{if◌then◌else◌, is_some, Option, unwrap_or}
use Rattle.std.specs.Ordering.{int_eq}
use Rattle.std.specs.List.{list_all}
use Rattle.asm_element.specs.Element.{number_in}
use Rattle.asm_element.specs.declared.element.Element.TheVariants.{Num}
use Rattle.asm_element.specs.declared.value.Value.{Value}
use Rattle.asm_element.specs.declared.value.Value.TheVariants as values
use Rattle.asm_update.specs.Action.{family_eq, is_of}
use Rattle.asm_update.specs.Aggregator.{Meaning, Joined, Refused, TooLarge}
use Rattle.asm_update.specs.Fire.{GroupResult}
use Rattle.asm_update.specs.declared.action.Action.{Action}
use Rattle.asm_update.specs.declared.action.Action.TheVariants.{Increment}
use Rattle.asm_update.specs.declared.action.Family.{Family}
use Rattle.asm_update.specs.declared.action.Family.TheVariants.{Count}
use Rattle.asm_update.specs.declared.clash.Cause.TheVariants.{Mixed, Kind, Against, Large}
use Rattle.asm_aggregate.specs.Families.{is_kind}
use Rattle.asm_aggregate.specs.Table.{first_cause}

-- the aggregator of counters owns counters alone
abbrev pub owns_counts : Family → Bool
owns_counts = family_eq Count

-- a counter's number, and 0 of any other value
abbrev pub number : Value → ℤ
number (values.Plain e) = unwrap_or (number_in e) (pos 0)
number _ = pos 0

-- the number that an action adds to the counter
abbrev pub increment : Action → ℤ
increment (Increment n) = n
increment _ = pos 0

-- the sum of the increments
abbrev pub total : List Action → ℤ
total [] = pos 0
total (x ∷ xs) = increment x +ℤ total xs

-- the counter's number after the increments
abbrev pub new_number : ℤ → List Action → ℤ
new_number n actions = n +ℤ total actions

-- whether a number is outside the range of a counter, that of i64
abbrev pub is_outside : ℤ → Bool
is_outside n = int_lt n (negsuc 9223372036854775807) || int_lt (pos 9223372036854775807) n

-- what a group gives on an old value
abbrev pub count_result : Value → Option Value → List Action → GroupResult
count_result old regular partials =
    let base = unwrap_or regular old in
    first_cause
    ((not (list_all (is_of Count) partials), Mixed)
    ∷ (not (is_kind Count base), Kind)
    ∷ (is_some regular, Against)
    ∷ (is_outside (new_number (number base) partials), Large)
    ∷ [])
    (values.Plain (Num (new_number (number base) partials)))

-- whether no two counters have this distance: it is above 18,446,744,073,709,551,615, or below its negative
abbrev pub is_beyond : ℤ → Bool
is_beyond s = int_lt s (negsuc 18446744073709551614) || int_lt (pos 18446744073709551615) s

-- a sum as numbers in the range of a counter: the greatest one while the rest is above it, or the least one while the
-- rest is below it; then the rest
abbrev pub split : ℤ → List ℤ
split s =
    if int_lt (pos 18446744073709551614) s
    then pos 9223372036854775807 ∷ pos 9223372036854775807 ∷ (s -ℤ pos 18446744073709551614) ∷ []
    else if int_lt (pos 9223372036854775807) s then pos 9223372036854775807 ∷ (s -ℤ pos 9223372036854775807) ∷ []
    else if int_lt s (negsuc 9223372036854775807)
    then negsuc 9223372036854775807 ∷ (s +ℤ pos 9223372036854775808) ∷ []
    else s ∷ []

-- whether only the second list has actions
abbrev pub stands_alone : List Action → List Action → Bool
stands_alone [] (x ∷ xs) = true
stands_alone _ _ = false

-- the increments of a sum. A sum of 0 needs none; but if the second list is alone, an increment by 0 asks for a
-- number as the list did
abbrev pub increments : List Action → List Action → ℤ → List Action
increments first second s =
    if int_eq s (pos 0) && not (stands_alone first second) then [] else map Increment (split s)

-- the list that does what the first and then the second do
abbrev pub count_joins : List Action → List Action → Joined
count_joins first second =
    let s = total first +ℤ total second in
    first_cause
    ((not (list_all (is_of Count) first), Refused Mixed)
    ∷ (not (list_all (is_of Count) second), Refused Mixed)
    ∷ (is_beyond s, TooLarge)
    ∷ [])
    (increments first second s)

-- the aggregator of counters
abbrev pub count_meaning : Meaning
count_meaning = record { owns = owns_counts; part = count_result; joins = count_joins }
