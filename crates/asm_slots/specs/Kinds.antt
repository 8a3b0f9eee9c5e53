-- Values by kind, number and bytes, and instructions by numbers.
use Rattle.std.specs.Prelude.{◌≡◌, ◌≢◌, ◌≤◌, ◌⊎◌, ℕ, ℤ, pos, true, List, [], ◌∷◌, ◌++◌, IsUtf8}
use Rattle.serde_json.specs.Data.{Data}
use Rattle.serde_json.specs.Written.{compact_text}
use Rattle.asm_element.specs.Place.{Place}
use Rattle.asm_element.specs.declared.element.Element.{Element}
use Rattle.asm_element.specs.declared.element.Element.TheVariants.{Undef, Bool as Truth, Num, Text, List as Inner}
use Rattle.asm_element.specs.declared.value.Value.{Value}
use Rattle.asm_element.specs.declared.value.Value.TheVariants.{Plain, Set, Bag}
use Rattle.asm_update.specs.Action as action
use Rattle.asm_update.specs.declared.action.Action.{Action}
use Rattle.asm_update.specs.declared.action.Action.TheVariants.{Regular, SetAdd, SetRemove, BagAdd, BagRemove, Increment}
use Rattle.asm_update.specs.Move.{Move}
use Rattle.asm_journal.specs.Value.{value_json_of, IsValueForm}
use Rattle.asm_explain.specs.Bytes.{IsOtherJson, ReadAs}
use Rattle.asm_slots.specs.declared.operands.Verb.{Verb}
use Rattle.asm_slots.specs.declared.operands.Verb.TheVariants as verbs

-- undef
abbrev pub ASM_KIND_UNDEF : ℤ
ASM_KIND_UNDEF = pos 0

-- a truth value
abbrev pub ASM_KIND_BOOL : ℤ
ASM_KIND_BOOL = pos 1

-- a number
abbrev pub ASM_KIND_NUM : ℤ
ASM_KIND_NUM = pos 2

-- a text
abbrev pub ASM_KIND_TEXT : ℤ
ASM_KIND_TEXT = pos 3

-- a list
abbrev pub ASM_KIND_LIST : ℤ
ASM_KIND_LIST = pos 4

-- a set
abbrev pub ASM_KIND_SET : ℤ
ASM_KIND_SET = pos 5

-- a bag
abbrev pub ASM_KIND_BAG : ℤ
ASM_KIND_BAG = pos 6

-- the kind of a value
abbrev pub kind_of : Value → ℤ
kind_of (Plain Undef) = ASM_KIND_UNDEF
kind_of (Plain (Truth b)) = ASM_KIND_BOOL
kind_of (Plain (Num n)) = ASM_KIND_NUM
kind_of (Plain (Text s)) = ASM_KIND_TEXT
kind_of (Plain (Inner ds)) = ASM_KIND_LIST
kind_of (Set s) = ASM_KIND_SET
kind_of (Bag b) = ASM_KIND_BAG

-- the number of a number, and 1 of true; of anything else 0
abbrev pub number_of : Value → ℤ
number_of (Plain (Truth true)) = pos 1
number_of (Plain (Num n)) = n
number_of _ = pos 0

-- the bytes of a text, and the JSON of a list, a set or a bag; anything else has none
abbrev pub bytes_of : Value → List ℕ
bytes_of (Plain (Text s)) = s
bytes_of (Plain (Inner ds)) = compact_text (value_json_of (Plain (Inner ds)))
bytes_of (Set s) = compact_text (value_json_of (Set s))
bytes_of (Bag b) = compact_text (value_json_of (Bag b))
bytes_of _ = []

-- kind, number and bytes are those of the value
abbrev pub IsValueBy : Value → ℤ → ℤ → List ℕ → Type 0
IsValueBy v kind number bytes = (kind ≡ kind_of v) × (number ≡ number_of v) × (bytes ≡ bytes_of v)

-- kind, number and bytes are those of the element, which is no list
abbrev pub IsTextOrPlain : ℤ → ℤ → List ℕ → Element → Type 0
IsTextOrPlain kind number bytes e = IsValueBy (Plain e) kind number bytes × (kind ≢ ASM_KIND_LIST)

-- the kind is one of those whose bytes are JSON
abbrev pub IsByJson : ℤ → Type 0
IsByJson kind = (kind ≡ ASM_KIND_LIST) ⊎ ((kind ≡ ASM_KIND_SET) ⊎ (kind ≡ ASM_KIND_BAG))

-- the JSON of a value of this kind
abbrev pub IsKindForm : ℤ → Value → Data → Type 0
IsKindForm kind v d = (kind ≡ kind_of v) × IsValueForm v d

-- kind, number and bytes mean the value: a list, a set or a bag by any JSON of it, and any other value only by its
-- own
abbrev pub IsOperand : ℤ → ℤ → List ℕ → Value → Type 0
IsOperand kind number bytes (Plain (Inner ds)) = (number ≡ pos 0) × ReadAs (IsKindForm kind) bytes (Plain (Inner ds))
IsOperand kind number bytes (Set s) = (number ≡ pos 0) × ReadAs (IsKindForm kind) bytes (Set s)
IsOperand kind number bytes (Bag b) = (number ≡ pos 0) × ReadAs (IsKindForm kind) bytes (Bag b)
IsOperand kind number bytes v = IsValueBy v kind number bytes

-- the bytes of a text aren't UTF-8, or those of a list, a set or a bag are JSON of no value of the kind
abbrev pub IsMisshapen : ℤ → List ℕ → Type 0
IsMisshapen kind bytes =
    ((kind ≡ ASM_KIND_TEXT) × ¬ IsUtf8 bytes) ⊎ (IsByJson kind × IsOtherJson (IsKindForm kind) bytes)

-- a value is put
abbrev pub ASM_PUT : ℤ
ASM_PUT = pos 0

-- an element is added to a set
abbrev pub ASM_ADD : ℤ
ASM_ADD = pos 1

-- an element is removed from a set
abbrev pub ASM_REMOVE : ℤ
ASM_REMOVE = pos 2

-- so many of an element are added to a bag
abbrev pub ASM_BAGADD : ℤ
ASM_BAGADD = pos 3

-- so many of an element are removed from a bag
abbrev pub ASM_BAGREMOVE : ℤ
ASM_BAGREMOVE = pos 4

-- a number is added to a counter
abbrev pub ASM_INC : ℤ
ASM_INC = pos 5

-- what an action does
abbrev pub verb_of : Action → ℤ
verb_of (Regular v) = ASM_PUT
verb_of (SetAdd e) = ASM_ADD
verb_of (SetRemove e) = ASM_REMOVE
verb_of (BagAdd e n) = ASM_BAGADD
verb_of (BagRemove e n) = ASM_BAGREMOVE
verb_of (Increment n) = ASM_INC

-- how many are added to a bag or removed from one, 1 or above; 0 of any other action
abbrev pub IsAmount : Action → ℕ → Type 0
IsAmount (BagAdd e n) amount = (amount ≡ n) × (1 ≤ n)
IsAmount (BagRemove e n) amount = (amount ≡ n) × (1 ≤ n)
IsAmount _ amount = amount ≡ 0

-- the action has this verb and this amount, and is of the value that kind, number and bytes mean
abbrev pub IsAction : ℤ → ℤ → ℤ → List ℕ → ℕ → Action → Type 0
IsAction verb kind number bytes amount a =
    (verb ≡ verb_of a) × IsAmount a amount × IsOperand kind number bytes (action.content_of a)

-- these mean no action
abbrev pub IsNoAction : ℤ → ℤ → ℤ → List ℕ → ℕ → Type 0
IsNoAction verb kind number bytes amount = (a : Action) → ¬ IsAction verb kind number bytes amount a

-- the move has one more instruction, behind its others: the action that these mean, at the location
abbrev pub IsInstructed : Place → ℤ → ℤ → ℤ → List ℕ → ℕ → Move → Move → Type 0
IsInstructed l verb kind number bytes amount old new =
    (a : Action) × IsAction verb kind number bytes amount a × (new ≡ old ++ record { at = l; action = a } ∷ [])

-- what it does with this element
abbrev pub action_with : Verb → Element → Action
action_with verbs.Put e = Regular (Plain e)
action_with verbs.Add e = SetAdd e
action_with verbs.Remove e = SetRemove e
action_with (verbs.BagAdd n) e = BagAdd e n
action_with (verbs.BagRemove n) e = BagRemove e n

-- this number and this amount mean it
abbrev pub IsVerb : ℤ → ℕ → Verb → Type 0
IsVerb verb amount v = (e : Element) → (verb ≡ verb_of (action_with v e)) × IsAmount (action_with v e) amount

-- this number and this amount mean no action
abbrev pub IsNoVerb : ℤ → ℕ → Type 0
IsNoVerb verb amount = (a : Action) → verb ≡ verb_of a → ¬ IsAmount a amount

-- the action that it does with this value: a put, or what it does with an element
abbrev pub IsActionOn : Verb → Value → Action → Type 0
IsActionOn verbs.Put v a = a ≡ Regular v
IsActionOn verb (Plain e) a = a ≡ action_with verb e
IsActionOn verb v a = ⊥

-- it does nothing with this value, which is no element: only a put takes a set or a bag
abbrev pub CannotTake : Verb → Value → Type 0
CannotTake verbs.Put v = ⊥
CannotTake verb (Plain e) = ⊥
CannotTake verb v = Unit {0}
