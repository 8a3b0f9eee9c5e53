-- What kind, number and bytes mean, and which actions they make.
use Rattle.std.proofs.Common.{◌≡◌, ◌≢◌, inl, inr, ℕ, ℤ, List, ap, pos, refl, sym, subst, w32, of_z}
use Rattle.asm_element.specs.declared.element.Element.{Element}
use Rattle.asm_element.specs.declared.element.Element.TheVariants.{Undef, Bool as Truth, Num, Text, List as Inner}
use Rattle.asm_element.specs.declared.value.Value.{Value}
use Rattle.asm_element.specs.declared.value.Value.TheVariants.{Plain, Set, Bag}
use Rattle.asm_update.specs.Action as action
use Rattle.asm_update.specs.declared.action.Action.{Action}
use Rattle.asm_update.specs.declared.action.Action.TheVariants.{Regular, SetAdd, SetRemove, BagAdd, BagRemove, Increment}
use Rattle.asm_slots.specs.Kinds.{ASM_KIND_BAG, ASM_KIND_SET}
use Rattle.asm_slots.specs.Kinds.{IsAction, IsAmount, IsByJson, IsNoAction, IsOperand, IsTextOrPlain, kind_of, verb_of}
use Rattle.asm_slots.specs.Kinds.{CannotTake, IsActionOn, IsVerb}
use Rattle.asm_slots.specs.declared.operands.Verb.{Verb}
use Rattle.asm_slots.specs.declared.operands.Verb.TheVariants as verbs

-- ---- kinds

-- an operand is of its kind
kind_reported : (k n : ℤ) (bs : List ℕ) (v : Value) → IsOperand k n bs v → k ≡ kind_of v
kind_reported k n bs (Plain Undef) h = h.0
kind_reported k n bs (Plain (Truth b)) h = h.0
kind_reported k n bs (Plain (Num m)) h = h.0
kind_reported k n bs (Plain (Text s)) h = h.0
kind_reported k n bs (Plain (Inner ds)) h = h.1.2.0
kind_reported k n bs (Set s) h = h.1.2.0
kind_reported k n bs (Bag b) h = h.1.2.0

-- no element has the kind of a set or of a bag
no_element : (k : ℤ) (e : Element) → k ≡ kind_of (Plain e) → (k ≢ ASM_KIND_SET) × (k ≢ ASM_KIND_BAG)
no_element k Undef is = (λ other. cc, λ other. cc)
no_element k (Truth b) is = (λ other. cc, λ other. cc)
no_element k (Num m) is = (λ other. cc, λ other. cc)
no_element k (Text s) is = (λ other. cc, λ other. cc)
no_element k (Inner ds) is = (λ other. cc, λ other. cc)

-- ---- elements

-- if these are no element and the kind isn't one of JSON, nothing is meant
pub none_means : (k n : ℤ) (bs : List ℕ) → ¬ IsByJson k → ((e : Element) → ¬ IsTextOrPlain k n bs e) → (v : Value) → ¬ IsOperand k n bs v
none_means k n bs other none (Plain Undef) h = none Undef (h, λ is. other (inl is))
none_means k n bs other none (Plain (Truth b)) h = none (Truth b) (h, λ is. other (inl is))
none_means k n bs other none (Plain (Num m)) h = none (Num m) (h, λ is. other (inl is))
none_means k n bs other none (Plain (Text s)) h = none (Text s) (h, λ is. other (inl is))
none_means k n bs other none (Plain (Inner ds)) h = other (inl h.1.2.0)
none_means k n bs other none (Set s) h = other (inr (inl h.1.2.0))
none_means k n bs other none (Bag b) h = other (inr (inr h.1.2.0))

-- a kind is none of JSON if its word is none
pub not_by : (k : ℤ) → (of_z w32 k ≡ 4 → ⊥) → (of_z w32 k ≡ 5 → ⊥) → (of_z w32 k ≡ 6 → ⊥) → ¬ IsByJson k
not_by k list set bag (inl is) = list (ap (of_z w32) is)
not_by k list set bag (inr (inl is)) = set (ap (of_z w32) is)
not_by k list set bag (inr (inr is)) = bag (ap (of_z w32) is)

-- ---- actions

-- the action has the verb, the amount and the value
pub acts : (verb : Verb) (n : ℤ) (amount : ℕ) (v : Value) (a : Action) → IsVerb n amount verb → IsActionOn verb v a →
    (n ≡ verb_of a) × IsAmount a amount × (v ≡ action.content_of a)
acts verbs.Put n amount v a is on =
    subst (λ (b : Action). (n ≡ verb_of b) × IsAmount b amount × (v ≡ action.content_of b)) (sym on) ((is Undef).0, (is Undef).1, refl)
acts verbs.Add n amount (Plain e) a is on =
    subst (λ (b : Action). (n ≡ verb_of b) × IsAmount b amount × (Plain e ≡ action.content_of b)) (sym on) ((is e).0, (is e).1, refl)
acts verbs.Remove n amount (Plain e) a is on =
    subst (λ (b : Action). (n ≡ verb_of b) × IsAmount b amount × (Plain e ≡ action.content_of b)) (sym on) ((is e).0, (is e).1, refl)
acts (verbs.BagAdd m) n amount (Plain e) a is on =
    subst (λ (b : Action). (n ≡ verb_of b) × IsAmount b amount × (Plain e ≡ action.content_of b)) (sym on) ((is e).0, (is e).1, refl)
acts (verbs.BagRemove m) n amount (Plain e) a is on =
    subst (λ (b : Action). (n ≡ verb_of b) × IsAmount b amount × (Plain e ≡ action.content_of b)) (sym on) ((is e).0, (is e).1, refl)
acts verbs.Add n amount (Set s) a is on = absurd on
acts verbs.Add n amount (Bag b) a is on = absurd on
acts verbs.Remove n amount (Set s) a is on = absurd on
acts verbs.Remove n amount (Bag b) a is on = absurd on
acts (verbs.BagAdd m) n amount (Set s) a is on = absurd on
acts (verbs.BagAdd m) n amount (Bag b) a is on = absurd on
acts (verbs.BagRemove m) n amount (Set s) a is on = absurd on
acts (verbs.BagRemove m) n amount (Bag b) a is on = absurd on

-- a verb of elements isn't that of a put
no_put : (verb : Verb) (n : ℤ) (amount : ℕ) (v : Value) → IsVerb n amount verb → CannotTake verb v → n ≢ pos 0
no_put verbs.Put n amount v is none zero = absurd none
no_put verbs.Add n amount v is none zero = let one : n ≡ pos 1 = (is Undef).0 in cc
no_put verbs.Remove n amount v is none zero = let one : n ≡ pos 2 = (is Undef).0 in cc
no_put (verbs.BagAdd m) n amount v is none zero = let one : n ≡ pos 3 = (is Undef).0 in cc
no_put (verbs.BagRemove m) n amount v is none zero = let one : n ≡ pos 4 = (is Undef).0 in cc

-- it is a set or a bag
no_plain : (verb : Verb) (k : ℤ) (v : Value) → CannotTake verb v → k ≡ kind_of v → (e : Element) → k ≢ kind_of (Plain e)
no_plain verb k (Set s) none is e reported = (no_element k e reported).0 is
no_plain verb k (Bag b) none is e reported = (no_element k e reported).1 is
no_plain verbs.Put k (Plain x) none is e reported = absurd none
no_plain verbs.Add k (Plain x) none is e reported = absurd none
no_plain verbs.Remove k (Plain x) none is e reported = absurd none
no_plain (verbs.BagAdd m) k (Plain x) none is e reported = absurd none
no_plain (verbs.BagRemove m) k (Plain x) none is e reported = absurd none

-- a value that the verb can't take makes no action
pub untaken : (verb : Verb) (n k number : ℤ) (bs : List ℕ) (amount : ℕ) (v : Value) → IsVerb n amount verb → CannotTake verb v →
    IsOperand k number bs v → IsNoAction n k number bs amount
untaken verb n k number bs amount v is none meant (Regular w) h = no_put verb n amount v is none h.0
untaken verb n k number bs amount v is none meant (SetAdd e) h =
    no_plain verb k v none (kind_reported k number bs v meant) e (kind_reported k number bs (Plain e) h.2)
untaken verb n k number bs amount v is none meant (SetRemove e) h =
    no_plain verb k v none (kind_reported k number bs v meant) e (kind_reported k number bs (Plain e) h.2)
untaken verb n k number bs amount v is none meant (BagAdd e m) h =
    no_plain verb k v none (kind_reported k number bs v meant) e (kind_reported k number bs (Plain e) h.2)
untaken verb n k number bs amount v is none meant (BagRemove e m) h =
    no_plain verb k v none (kind_reported k number bs v meant) e (kind_reported k number bs (Plain e) h.2)
untaken verb n k number bs amount v is none meant (Increment m) h =
    no_plain verb k v none (kind_reported k number bs v meant) (Num m) (kind_reported k number bs (Plain (Num m)) h.2)

-- ---- with the words of numbers

-- an operand, with words for its kind and its number
operand_of : (k k' m m' : ℤ) (bs : List ℕ) (v : Value) → k' ≡ k → m' ≡ m → IsOperand k' m' bs v → IsOperand k m bs v
operand_of k k' m m' bs v kind number meant =
    subst (λ (x : ℤ). IsOperand k x bs v) number (subst (λ (x : ℤ). IsOperand x m' bs v) kind meant)

pub acted : (verb : Verb) (n n' k k' m m' : ℤ) (bs : List ℕ) (amount : ℕ) (v : Value) (a : Action) → n' ≡ n → k' ≡ k → m' ≡ m →
    IsVerb n' amount verb → IsActionOn verb v a → IsOperand k' m' bs v → IsAction n k m bs amount a
acted verb n n' k k' m m' bs amount v a word kind number is on meant =
    let found = acts verb n amount v a (subst (λ (x : ℤ). IsVerb x amount verb) word is) on in (
      found.0,
      found.1,
      subst (λ (w : Value). IsOperand k m bs w) found.2 (operand_of k k' m m' bs v kind number meant),
    )

pub not_acted : (verb : Verb) (n n' k k' m m' : ℤ) (bs : List ℕ) (amount : ℕ) (v : Value) → n' ≡ n → k' ≡ k → m' ≡ m →
    IsVerb n' amount verb → CannotTake verb v → IsOperand k' m' bs v → IsNoAction n k m bs amount
not_acted verb n n' k k' m m' bs amount v word kind number is none meant =
    untaken verb n k m bs amount v (subst (λ (x : ℤ). IsVerb x amount verb) word is) none (operand_of k k' m m' bs v kind number meant)
