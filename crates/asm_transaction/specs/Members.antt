-- What a transaction shows of a set or a bag: how often it has an element, and how many it has.
use Rattle.std.specs.Prelude.{◌≡◌, ◌-◌, ◌^◌, ℕ, Option, None, Some, if◌then◌else◌, min, sum}
use Rattle.asm_element.specs.Bag as bag
use Rattle.asm_element.specs.Place.{Place}
use Rattle.asm_element.specs.Set as set
use Rattle.asm_element.specs.declared.element.Element.{Element}
use Rattle.asm_element.specs.declared.element.Element.TheVariants.{Undef}
use Rattle.asm_element.specs.declared.value.Value.{Value}
use Rattle.asm_element.specs.declared.value.Value.TheVariants.{Plain, Set, Bag}
use Rattle.asm_storage.specs.Storage.{AgentAt}
use Rattle.asm_update.specs.Aggregator.{Meaning}
use Rattle.asm_transaction.specs.Reading.{IsShown}
use Rattle.asm_transaction.specs.View.{TransactionView}

-- how often the value has the element: a set 0 times or once, a bag by its count, undef 0 times; any other value has no
-- count
abbrev pub count_in : Value → Element → Option ℕ
count_in (Plain Undef) e = Some 0
count_in (Plain _) e = None
count_in (Set s) e = Some (if set.contains s e then 1 else 0)
count_in (Bag b) e = Some (bag.count b e)

-- the largest size that is reported
abbrev pub size_limit : ℕ
size_limit = 2 ^ 64 - 1

-- how many elements the value has: those of a set, those of a bag as often as each is there, at most the limit, and none
-- of undef; any other value has no size
abbrev pub size_of : Value → Option ℕ
size_of (Plain Undef) = Some 0
size_of (Plain _) = None
size_of (Set s) = Some (set.len s)
size_of (Bag b) = Some (min (sum (bag.counts b)) size_limit)

-- the count is that of the element in what the transaction shows at the location
abbrev pub IsCountShown : {A : Type 0} → (A → Meaning) → AgentAt A → TransactionView → Place → Element → Option ℕ → Type 0
IsCountShown meaning a t l e n = (v : Value) × IsShown meaning a t l v × (n ≡ count_in v e)

-- the size is that of what the transaction shows at the location
abbrev pub IsSizeShown : {A : Type 0} → (A → Meaning) → AgentAt A → TransactionView → Place → Option ℕ → Type 0
IsSizeShown meaning a t l n = (v : Value) × IsShown meaning a t l v × (n ≡ size_of v)
