-- Why a function isn't counted in what a step shows.
use Rattle.std.proofs.Common.{◌≡◌, ℕ, List, subst, sym}
use Rattle.asm_transaction.specs.Scanning.{IsUnscanned}
use Rattle.asm_transaction.specs.View.{TransactionView}
use Rattle.asm_transaction.specs.declared.error.TransactionError.{TransactionError}
use Rattle.asm_transaction.specs.declared.error.TransactionError.TheVariants as transaction_error
use Rattle.asm_slots.specs.Answers.{code_of_transaction}
use Rattle.asm_slots.specs.StepCalls.{Errs}
use Rattle.asm_slots.specs.declared.codes.Code.{Code}

-- the code of why a function isn't scanned
pub unscanned_as : (name : List ℕ) (n : ℕ) (t : TransactionView) (e : TransactionError) (c : Code) → c ≡ code_of_transaction e →
    IsUnscanned name n t e → Errs (IsUnscanned name n t) c
unscanned_as name n t transaction_error.Moved c is why = subst (Errs (IsUnscanned name n t)) (sym is) why
unscanned_as name n t transaction_error.ManyReads c is why = subst (Errs (IsUnscanned name n t)) (sym is) why
unscanned_as name n t transaction_error.Memory c is why = subst (Errs (IsUnscanned name n t)) (sym is) why
