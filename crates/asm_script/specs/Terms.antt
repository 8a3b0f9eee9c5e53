-- Terms: what a script writes in place of a value, and their values in a state.
use Rattle.std.specs.Prelude.{◌≡◌, ℤ, pos, negsuc, ◌+ℤ◌, nat_lt, Bool, if◌then◌else◌, List, [], ◌∷◌, ◌++◌}
use Rattle.std.specs.Prelude.{Option, Some, None, Result, Ok, Err, ok_or}
use Rattle.std.specs.Option.{option_and_then}
use Rattle.asm_element.specs.Element.{number_in}
use Rattle.asm_element.specs.Place.{Place}
use Rattle.asm_element.specs.declared.element.Element.{Element}
use Rattle.asm_element.specs.declared.element.Element.TheVariants.{Num}
use Rattle.asm_element.specs.declared.value.Value.{Value}
use Rattle.asm_element.specs.declared.value.Value.TheVariants.{Plain}
use Rattle.asm_update.specs.Fire.{Old}
use Rattle.asm_script.specs.declared.term.Term.{Term}
use Rattle.asm_script.specs.declared.term.Term.TheVariants as term
use Rattle.asm_script.specs.declared.term.Term.TheVariants.{Val, Sum'}
use Rattle.asm_script.specs.declared.term.NoValue.{NoValue}
use Rattle.asm_script.specs.declared.term.NoValue.TheVariants.{NoNumber, NoElement, OutOfRange}
use Rattle.asm_script.specs.declared.term.TermFault.{TermFault}
use Rattle.asm_script.specs.declared.term.TermFault.TheVariants.{Faulty, Memory}

-- the element that a plain value is; a set or a bag is none
abbrev pub plain_in : Value → Option Element
plain_in (Plain e) = Some e
plain_in _ = None

-- whether a whole number is at least −9,223,372,036,854,775,808 and at most 9,223,372,036,854,775,807
abbrev pub is_in_range : ℤ → Bool
is_in_range (pos n) = nat_lt n 9223372036854775808
is_in_range (negsuc n) = nat_lt n 9223372036854775808

-- the plain value that there is, if there is one
abbrev pub given_element : Option Value → Option Element
given_element = option_and_then plain_in

-- the number that there is, if there is one
abbrev pub given_number : Option Value → Option ℤ
given_number v = option_and_then number_in (given_element v)

-- the location that a term takes its value from, if it takes it from one
abbrev pub location_in : Term → Option Place
location_in (Val l) = Some l
location_in _ = None

-- the number that a value of a term is, or else that it is no number
abbrev pub as_number : Option Place → Value → Result ℤ NoValue
as_number at v = ok_or (given_number (Some v)) (NoNumber (record { at = at; value = v }))

-- the element that a value of a term is, or else that it is no element
abbrev pub as_element : Option Place → Value → Result Element NoValue
as_element at v = ok_or (plain_in v) (NoElement (record { at = at; value = v }))

-- the sum of two numbers, or why there is none: the first term's cause, else the second's, else the range
abbrev pub sum_value : Result ℤ NoValue → Result ℤ NoValue → Result ℤ NoValue
sum_value (Ok m) (Ok n) = if is_in_range (m +ℤ n) then Ok (m +ℤ n) else Err (OutOfRange m n)
sum_value (Ok m) (Err why) = Err why
sum_value (Err why) second = Err why

-- the number that a term evaluates to, or why it has none
abbrev pub number_value : Old → Term → Result ℤ NoValue
number_value old (term.Value v) = as_number None v
number_value old (Val l) = as_number (Some l) (old l)
number_value old (Sum' p a q b) = sum_value (number_value old a) (number_value old b)

-- what is made of what there is; where there is nothing, why
abbrev pub made_of : {X Y W : Type 0} → (X → Y) → Result X W → Result Y W
made_of f (Ok x) = Ok (f x)
made_of f (Err why) = Err why

-- what comes of what there is; where there is nothing, why
abbrev pub come_of : {X Y W : Type 0} → (X → Result Y W) → Result X W → Result Y W
come_of f (Ok x) = f x
come_of f (Err why) = Err why

-- the value of a term where this is the value at each location, or why it has none
abbrev pub term_value : Old → Term → Result Value NoValue
term_value old (term.Value v) = Ok v
term_value old (Val l) = Ok (old l)
term_value old (Sum' p a q b) = made_of (λ n. Plain (Num n)) (number_value old (Sum' p a q b))

-- the element that a term evaluates to, or why it has none
abbrev pub element_value : Old → Term → Result Element NoValue
element_value old t = come_of (as_element (location_in t)) (term_value old t)

-- the locations whose values a term takes
abbrev pub locations_in : Term → List Place
locations_in (term.Value v) = []
locations_in (Val l) = l ∷ []
locations_in (Sum' p a q b) = locations_in a ++ locations_in b

-- the answer is what there is, or why there is nothing; an allocation failure says nothing
abbrev pub IsEvaluated : {X : Type 0} → Result X NoValue → Result X TermFault → Type 0
IsEvaluated there (Ok x) = there ≡ Ok x
IsEvaluated there (Err (Faulty why)) = there ≡ Err why
IsEvaluated there (Err Memory) = Unit {0}
