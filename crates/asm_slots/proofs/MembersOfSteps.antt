-- Why nothing is counted in what a step shows.
use Rattle.std.proofs.Common.{◌≡◌, ℕ, ℤ, List, refl, subst, sym}
use Rattle.asm_element.specs.Place.{Place}
use Rattle.asm_element.specs.declared.element.Element.{Element}
use Rattle.asm_element.specs.declared.value.Value.{Value}
use Rattle.asm_element.specs.declared.value.Value.TheVariants.{Plain}
use Rattle.asm_update.specs.declared.action.Action.TheVariants.{SetAdd}
use Rattle.asm_transaction.specs.Reading.{IsUnread}
use Rattle.asm_transaction.specs.View.{TransactionView}
use Rattle.asm_transaction.specs.declared.error.TransactionError.{TransactionError}
use Rattle.asm_transaction.specs.declared.error.TransactionError.TheVariants as transaction_error
use Rattle.asm_slots.specs.Answers.{IsNoOperandFor, code_of_transaction}
use Rattle.asm_slots.specs.Kinds.{ASM_ADD, CannotTake, IsOperand}
use Rattle.asm_slots.specs.Members.{IsNoElement}
use Rattle.asm_slots.specs.StepCalls.{Errs}
use Rattle.asm_slots.specs.declared.codes.Code.{Code}
use Rattle.asm_slots.specs.declared.codes.Code.TheVariants as code
use Rattle.asm_slots.specs.declared.operands.Verb.TheVariants as verbs
use Rattle.asm_slots.proofs.Meanings.{untaken}

-- the code of why a location isn't read
pub unread_as : (l : Place) (n : ℕ) (t : TransactionView) (e : TransactionError) (c : Code) → c ≡ code_of_transaction e → IsUnread l n t e →
    Errs (IsUnread l n t) c
unread_as l n t transaction_error.Moved c is why = subst (Errs (IsUnread l n t)) (sym is) why
unread_as l n t transaction_error.ManyReads c is why = subst (Errs (IsUnread l n t)) (sym is) why
unread_as l n t transaction_error.Memory c is why = subst (Errs (IsUnread l n t)) (sym is) why

-- what means a set or a bag means no element
pub none_added : (kind number : ℤ) (bytes : List ℕ) (v : Value) → CannotTake verbs.Add v → IsOperand kind number bytes v → (e : Element) →
    ¬ IsOperand kind number bytes (Plain e)
none_added kind number bytes v none meant e is =
    untaken verbs.Add ASM_ADD kind number bytes 0 v (λ x. (refl, refl)) none meant (SetAdd e) (refl, refl, is)

-- what means no value means no element
pub no_element_for : (kind number : ℤ) (bytes : List ℕ) (c : Code) → IsNoOperandFor kind number bytes c → IsNoElement kind number bytes c
no_element_for kind number bytes code.Operand none = λ e. none (Plain e)
no_element_for kind number bytes _ none = none
