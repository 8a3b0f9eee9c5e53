-- Actions with terms, by their words.
use Rattle.std.proofs.Common.{◌≡◌, ℕ, ℤ, pos, zero, suc, List, Option, Some, None, codes, refl, sym, ap, subst, ◌∙◌}
use Rattle.std.specs.Prelude.{option_map, unwrap_or}
use Rattle.serde_json.specs.Data.{Items}
use Rattle.asm_element.specs.declared.element.Element.TheVariants.{Num}
use Rattle.asm_element.specs.declared.value.Value.TheVariants.{Plain}
use Rattle.asm_journal.specs.Element.{IsIntegerForm}
use Rattle.asm_journal.specs.Shape.{IsParsed, IsOnly}
use Rattle.asm_journal.proofs.Actions.{kind_of_word}
use Rattle.asm_script.specs.Terms.{given_number}
use Rattle.asm_script.specs.TermForm.{IsTermForm, IsCounted, word_of, AreOperands, IsActionForm}
use Rattle.asm_script.specs.declared.term.Term.{Term}
use Rattle.asm_script.specs.declared.term.Term.TheVariants as term
use Rattle.asm_script.specs.declared.block.TermAction.{TermAction}
use Rattle.asm_script.specs.declared.block.TermAction.TheVariants.{Put, Add, Remove, BagAdd, BagRemove, Increment}

-- the number of the kind
abbrev kind_number : TermAction → ℕ
kind_number (Put t) = 0
kind_number (Add t) = 1
kind_number (Remove t) = 2
kind_number (BagAdd t n) = 3
kind_number (BagRemove t n) = 4
kind_number (Increment n) = 5

-- the amount; 0 where there is none
abbrev amount_of : TermAction → ℕ
amount_of (Put t) = 0
amount_of (Add t) = 0
amount_of (Remove t) = 0
amount_of (BagAdd t n) = n
amount_of (BagRemove t n) = n
amount_of (Increment n) = 0

-- the term; of an increment its number, as a term
abbrev term_of : TermAction → Term
term_of (Put t) = t
term_of (Add t) = t
term_of (Remove t) = t
term_of (BagAdd t n) = t
term_of (BagRemove t n) = t
term_of (Increment n) = term.Value (Plain (Num n))

-- the number that is written out as the term; of any other term 0
abbrev number_of : Term → ℤ
number_of (term.Value v) = unwrap_or (given_number (Some v)) (pos 0)
number_of _ = pos 0

kind_of_word-word : (a : TermAction) → kind_of_word (word_of a) ≡ kind_number a
kind_of_word-word (Put t) = refl
kind_of_word-word (Add t) = refl
kind_of_word-word (Remove t) = refl
kind_of_word-word (BagAdd t n) = refl
kind_of_word-word (BagRemove t n) = refl
kind_of_word-word (Increment n) = refl

-- the action of this kind, amount and term
abbrev term_action_from : ℕ → ℕ → Term → TermAction
term_action_from zero n t = Put t
term_action_from (suc zero) n t = Add t
term_action_from (suc (suc zero)) n t = Remove t
term_action_from (suc (suc (suc zero))) n t = BagAdd t n
term_action_from (suc (suc (suc (suc zero)))) n t = BagRemove t n
term_action_from (suc (suc (suc (suc (suc _))))) n t = Increment (number_of t)

term_action_from-parts : (a : TermAction) → term_action_from (kind_number a) (amount_of a) (term_of a) ≡ a
term_action_from-parts (Put t) = refl
term_action_from-parts (Add t) = refl
term_action_from-parts (Remove t) = refl
term_action_from-parts (BagAdd t n) = refl
term_action_from-parts (BagRemove t n) = refl
term_action_from-parts (Increment n) = refl

-- an action is made of its parts by the kind of its word
made_by : (word : List ℕ) (a : TermAction) → word ≡ word_of a → a
    ≡ term_action_from (kind_of_word word) (amount_of a) (term_of a)
made_by word a named =
    sym (term_action_from-parts a)
    ∙ ap (λ k. term_action_from k (amount_of a) (term_of a)) (sym (kind_of_word-word a) ∙ ap kind_of_word (sym named))

-- reading the operands of a word's action is reading the action
module _ {X : Type 0} (make : X → TermAction) (part : TermAction → X) (word : List ℕ) (ds : Items)
    (named : (x : X) → word ≡ word_of (make x))
    (made : (a : TermAction) → term_action_from (kind_of_word word) (amount_of a) (term_of a) ≡ make (part a)) where
  read_as : (o : Option X) → IsParsed (λ x. AreOperands (make x)) ds o → IsParsed (IsActionForm word) ds (option_map make o)
  read_as (Some x) h = (named x, h)
  read_as None h = λ a form. h (part a) (subst (λ b. AreOperands b ds) (made_by word a form.0 ∙ made a) form.1)

of_kind : (word known : List ℕ) (a : TermAction) → word ≡ known →
    term_action_from (kind_of_word word) (amount_of a) (term_of a) ≡ term_action_from (kind_of_word known) (amount_of a) (term_of a)
of_kind word known a is = ap (λ w. term_action_from (kind_of_word w) (amount_of a) (term_of a)) is

pub put_read : (word : List ℕ) (ds : Items) (o : Option Term) → word ≡ codes "put" → IsParsed (IsOnly IsTermForm) ds o →
    IsParsed (IsActionForm word) ds (option_map Put o)
put_read word ds o is h = read_as Put term_of word ds (λ t. is) (λ a. of_kind word _ a is) o h

pub add_read : (word : List ℕ) (ds : Items) (o : Option Term) → word ≡ codes "add" → IsParsed (IsOnly IsTermForm) ds o →
    IsParsed (IsActionForm word) ds (option_map Add o)
add_read word ds o is h = read_as Add term_of word ds (λ t. is) (λ a. of_kind word _ a is) o h

pub remove_read : (word : List ℕ) (ds : Items) (o : Option Term) → word ≡ codes "remove" →
    IsParsed (IsOnly IsTermForm) ds o → IsParsed (IsActionForm word) ds (option_map Remove o)
remove_read word ds o is h = read_as Remove term_of word ds (λ t. is) (λ a. of_kind word _ a is) o h

pub inc_read : (word : List ℕ) (ds : Items) (o : Option ℤ) → word ≡ codes "inc" →
    IsParsed (IsOnly IsIntegerForm) ds o → IsParsed (IsActionForm word) ds (option_map Increment o)
inc_read word ds o is h = read_as Increment (λ a. number_of (term_of a)) word ds (λ n. is) (λ a. of_kind word _ a is) o h

abbrev counted_in : TermAction → Term × ℕ
counted_in a = (term_of a, amount_of a)

pub no_bagadd : (word : List ℕ) (ds : Items) → word ≡ codes "bagadd" → ((p : Term × ℕ) → IsCounted p.0 p.1 ds → ⊥) →
    (a : TermAction) → IsActionForm word a ds → ⊥
no_bagadd word ds is h = read_as (λ p. BagAdd p.0 p.1) counted_in word ds (λ p. is) (λ a. of_kind word _ a is) None h

pub no_bagremove : (word : List ℕ) (ds : Items) → word ≡ codes "bagremove" →
    ((p : Term × ℕ) → IsCounted p.0 p.1 ds → ⊥) → (a : TermAction) → IsActionForm word a ds → ⊥
no_bagremove word ds is h =
    read_as (λ p. BagRemove p.0 p.1) counted_in word ds (λ p. is) (λ a. of_kind word _ a is) None h
