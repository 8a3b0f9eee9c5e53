-- Actions by their words.
use Rattle.std.proofs.Common.{codes, ◌≡◌, ℕ, ℤ, pos, zero, suc, List, Option, Some, None, refl, sym, ap, subst, ◌∙◌}
use Rattle.std.specs.Prelude.{option_map, if◌then◌else◌}
use Rattle.std.specs.Str.{bytes_eq}
use Rattle.serde_json.specs.Data.{Items}
use Rattle.asm_element.specs.declared.element.Element.{Element}
use Rattle.asm_element.specs.declared.element.Element.TheVariants.{Undef, Num}
use Rattle.asm_element.specs.declared.value.Value.{Value}
use Rattle.asm_element.specs.declared.value.Value.TheVariants.{Plain}
use Rattle.asm_update.specs.Action.{kind_number, amount_of, content_of}
use Rattle.asm_update.specs.declared.action.Action.{Action}
use Rattle.asm_update.specs.declared.action.Action.TheVariants.{Regular, SetAdd, SetRemove, BagAdd, BagRemove, Increment}
use Rattle.asm_journal.specs.Shape.{IsParsed, IsOnly}
use Rattle.asm_journal.specs.Element.{IsIntegerForm, IsElementForm}
use Rattle.asm_journal.specs.Set.{IsCounted}
use Rattle.asm_journal.specs.Value.{IsValueForm}
use Rattle.asm_journal.specs.Instruction.{word_of, AreOperands, IsActionForm}

-- the number of a word's kind, which tells the words apart
abbrev pub kind_of_word : List ℕ → ℕ
kind_of_word word =
    if bytes_eq word (codes "put") then 0
    else if bytes_eq word (codes "add") then 1
    else if bytes_eq word (codes "remove") then 2
    else if bytes_eq word (codes "bagadd") then 3
    else if bytes_eq word (codes "bagremove") then 4
    else 5

kind_of_word-word : (a : Action) → kind_of_word (word_of a) ≡ kind_number a
kind_of_word-word (Regular v) = refl
kind_of_word-word (SetAdd e) = refl
kind_of_word-word (SetRemove e) = refl
kind_of_word-word (BagAdd e n) = refl
kind_of_word-word (BagRemove e n) = refl
kind_of_word-word (Increment n) = refl

-- the element of a plain value
abbrev element_in : Value → Element
element_in (Plain e) = e
element_in _ = Undef

-- the number of a plain value
abbrev number_in : Value → ℤ
number_in (Plain (Num z)) = z
number_in _ = pos 0

-- the action of this kind, amount and content
abbrev pub action_from : ℕ → ℕ → Value → Action
action_from zero n v = Regular v
action_from (suc zero) n v = SetAdd (element_in v)
action_from (suc (suc zero)) n v = SetRemove (element_in v)
action_from (suc (suc (suc zero))) n v = BagAdd (element_in v) n
action_from (suc (suc (suc (suc zero)))) n v = BagRemove (element_in v) n
action_from (suc (suc (suc (suc (suc _))))) n v = Increment (number_in v)

action_from-parts : (a : Action) → action_from (kind_number a) (amount_of a) (content_of a) ≡ a
action_from-parts (Regular v) = refl
action_from-parts (SetAdd e) = refl
action_from-parts (SetRemove e) = refl
action_from-parts (BagAdd e n) = refl
action_from-parts (BagRemove e n) = refl
action_from-parts (Increment n) = refl

-- an action is made of its parts by the kind of its word
pub made_by : (word : List ℕ) (a : Action) → word ≡ word_of a → a ≡ action_from (kind_of_word word) (amount_of a) (content_of a)
made_by word a named =
    sym (action_from-parts a) ∙ ap (λ k. action_from k (amount_of a) (content_of a)) (sym (kind_of_word-word a) ∙ ap kind_of_word (sym named))

-- reading the operands of a word's action is reading the action
module _ {X : Type 0} (make : X → Action) (part : Action → X) (word : List ℕ) (ds : Items)
    (named : (x : X) → word ≡ word_of (make x)) (made : (a : Action) → action_from (kind_of_word word) (amount_of a) (content_of a) ≡ make (part a)) where
  read_as : (o : Option X) → IsParsed (λ x. AreOperands (make x)) ds o → IsParsed (IsActionForm word) ds (option_map make o)
  read_as (Some x) h = (named x, h)
  read_as None h = λ a form. h (part a) (subst (λ b. AreOperands b ds) (made_by word a form.0 ∙ made a) form.1)

of_kind : (word known : List ℕ) (a : Action) → word ≡ known → action_from (kind_of_word word) (amount_of a) (content_of a) ≡ action_from (kind_of_word known) (amount_of a) (content_of a)
of_kind word known a is = ap (λ w. action_from (kind_of_word w) (amount_of a) (content_of a)) is

pub put_read : (word : List ℕ) (ds : Items) (o : Option Value) → word ≡ codes "put" → IsParsed (IsOnly IsValueForm) ds o → IsParsed (IsActionForm word) ds (option_map Regular o)
put_read word ds o is h = read_as Regular content_of word ds (λ v. is) (λ a. of_kind word _ a is) o h

pub add_read : (word : List ℕ) (ds : Items) (o : Option Element) → word ≡ codes "add" → IsParsed (IsOnly IsElementForm) ds o → IsParsed (IsActionForm word) ds (option_map SetAdd o)
add_read word ds o is h = read_as SetAdd (λ a. element_in (content_of a)) word ds (λ e. is) (λ a. of_kind word _ a is) o h

pub remove_read : (word : List ℕ) (ds : Items) (o : Option Element) → word ≡ codes "remove" → IsParsed (IsOnly IsElementForm) ds o → IsParsed (IsActionForm word) ds (option_map SetRemove o)
remove_read word ds o is h = read_as SetRemove (λ a. element_in (content_of a)) word ds (λ e. is) (λ a. of_kind word _ a is) o h

pub inc_read : (word : List ℕ) (ds : Items) (o : Option ℤ) → word ≡ codes "inc" → IsParsed (IsOnly IsIntegerForm) ds o → IsParsed (IsActionForm word) ds (option_map Increment o)
inc_read word ds o is h = read_as Increment (λ a. number_in (content_of a)) word ds (λ n. is) (λ a. of_kind word _ a is) o h

abbrev counted_in : Action → Element × ℕ
counted_in a = (element_in (content_of a), amount_of a)

pub no_bagadd : (word : List ℕ) (ds : Items) → word ≡ codes "bagadd" → ((p : Element × ℕ) → IsCounted p ds → ⊥) → (a : Action) → IsActionForm word a ds → ⊥
no_bagadd word ds is h = read_as (λ p. BagAdd p.0 p.1) counted_in word ds (λ p. is) (λ a. of_kind word _ a is) None h

pub no_bagremove : (word : List ℕ) (ds : Items) → word ≡ codes "bagremove" → ((p : Element × ℕ) → IsCounted p ds → ⊥) → (a : Action) → IsActionForm word a ds → ⊥
no_bagremove word ds is h = read_as (λ p. BagRemove p.0 p.1) counted_in word ds (λ p. is) (λ a. of_kind word _ a is) None h

-- a word of no action
pub no_action : (word : List ℕ) (ds : Items) → (word ≡ codes "put" → ⊥) → (word ≡ codes "add" → ⊥) → (word ≡ codes "remove" → ⊥)
    → (word ≡ codes "bagadd" → ⊥) → (word ≡ codes "bagremove" → ⊥) → (word ≡ codes "inc" → ⊥) → (a : Action) → IsActionForm word a ds → ⊥
no_action word ds put add remove bagadd bagremove inc (Regular v) h = put h.0
no_action word ds put add remove bagadd bagremove inc (SetAdd e) h = add h.0
no_action word ds put add remove bagadd bagremove inc (SetRemove e) h = remove h.0
no_action word ds put add remove bagadd bagremove inc (BagAdd e n) h = bagadd h.0
no_action word ds put add remove bagadd bagremove inc (BagRemove e n) h = bagremove h.0
no_action word ds put add remove bagadd bagremove inc (Increment n) h = inc h.0
