-- What is refused for one reason is refused for another.
use Rattle.std.proofs.Common.{◌≡◌, Some, inl, refl, subst, sym, ℤ, ℕ, List, [], ◌∷◌, Option, None}
use Rattle.asm_explain.specs.Bytes.{IsMisread}
use Rattle.asm_explain.specs.declared.reading.TextError.{TextError}
use Rattle.asm_explain.specs.declared.reading.TextError.TheVariants as text_error
use Rattle.asm_journal.specs.Element.{IsLocationForm}
use Rattle.serde_json.specs.Data.{Data}
use Rattle.asm_slots.specs.Kinds.{IsByJson}
use Rattle.asm_slots.specs.Answers.{IsNoActionFor, IsNoElementFor, IsNoOperandFor, IsNoRoomFor, IsNotGathered, IsNotInstructed, IsNotPrepared, IsUnreadAs}
use Rattle.asm_slots.specs.Answers.{IsNotAppended, IsNotUnited, code_of_pop, code_of_text, code_of_transaction}
use Rattle.asm_slots.specs.StepCalls.{Errs}
use Rattle.asm_slots.specs.Slots.{HasRoomFor, Holds, a_move, a_store, move_of}
use Rattle.asm_slots.specs.Store.{StoreView}
use Rattle.asm_storage.specs.Storage.{AgentAt}
use Rattle.asm_update.specs.Action as action
use Rattle.asm_update.specs.Move.{Move}
use Rattle.asm_aggregate.specs.declared.composition.ComposeError.TheVariants as compose_error
use Rattle.asm_slots.specs.MadeAgents.{IsNotAdded, IsNotGiven, IsNotReturned, TakesNoAgent}
use Rattle.asm_slots.specs.Popping.{IsNotPoppedIn, IsNotPoppedInto, IsUnpopped, IsUnpoppedMove}
use Rattle.asm_slots.specs.Standard.{Standard, standard}
use Rattle.asm_transaction.specs.Popping.{IsNotPopped}
use Rattle.asm_transaction.specs.Reading.{IsUnread, IsUnseen, IsUntracked}
use Rattle.asm_transaction.specs.Scanning.{IsUnscanned, IsUntaken}
use Rattle.asm_transaction.specs.Tracked.{last_partial_places}
use Rattle.asm_transaction.specs.View.{TransactionView}
use Rattle.asm_transaction.specs.declared.error.PopError.{PopError}
use Rattle.asm_transaction.specs.declared.error.PopError.TheVariants as pop_error
use Rattle.asm_transaction.specs.declared.error.TransactionError.{TransactionError}
use Rattle.asm_transaction.specs.declared.error.TransactionError.TheVariants as transaction_error
use Rattle.asm_element.specs.Place.{Place}
use Rattle.asm_slots.specs.declared.codes.Code.{Code}
use Rattle.asm_slots.specs.declared.codes.Code.TheVariants as code
use Rattle.asm_slots.specs.declared.content.Content.{Content}
use Rattle.asm_slots.specs.declared.content.Content.TheVariants as content
use Rattle.asm_slots.proofs.Meanings.{none_means}

pub no_operand : (kind number : ℤ) (bytes : List ℕ) (c : Code) → ¬ IsByJson kind → IsNoElementFor kind number bytes c →
    IsNoOperandFor kind number bytes c
no_operand kind number bytes code.Memory other none = tt
no_operand kind number bytes code.Operand other none = none_means kind number bytes other none
no_operand kind number bytes code.Shape other none = inl none
no_operand kind number bytes _ other none = absurd none

pub no_action : (verb kind number : ℤ) (bytes : List ℕ) (amount : ℕ) (c : Code) → IsNoOperandFor kind number bytes c →
    IsNoActionFor verb kind number bytes amount c
no_action verb kind number bytes amount code.Memory none = tt
no_action verb kind number bytes amount code.Operand none = λ a is. none (action.content_of a) is.2
no_action verb kind number bytes amount code.NotJson none = none
no_action verb kind number bytes amount code.Shape none = none
no_action verb kind number bytes amount _ none = absurd none

pub no_gathered : (old : Move) (verb kind number : ℤ) (bytes : List ℕ) (amount : ℕ) (c : Code) → IsNoActionFor verb kind number bytes amount c →
    IsNotGathered old verb kind number bytes amount c
no_gathered old verb kind number bytes amount code.LongMove none = absurd none
no_gathered old verb kind number bytes amount _ none = none

pub no_room : (old : Move) (verb kind number : ℤ) (bytes : List ℕ) (amount : ℕ) (c : Code) → IsNoRoomFor old c →
    IsNotGathered old verb kind number bytes amount c
no_room old verb kind number bytes amount code.Memory none = tt
no_room old verb kind number bytes amount code.LongMove none = none
no_room old verb kind number bytes amount _ none = absurd none

pub no_instructed : (at old : Option Content) (verb kind number : ℤ) (bytes : List ℕ) (amount : ℕ) (c : Code) → HasRoomFor a_move old →
    IsNotGathered (move_of old) verb kind number bytes amount c → IsNotInstructed at old verb kind number bytes amount c
no_instructed at old verb kind number bytes amount code.Empty room none = absurd none
no_instructed at old verb kind number bytes amount code.Taken room none = absurd none
no_instructed at old verb kind number bytes amount _ room none = (room, none)

pub unread_as : {X : Type 0} (IsForm : X → Data → Type 0) (bytes : List ℕ) (e : TextError) (c : Code) → c ≡ code_of_text e →
    IsMisread IsForm bytes e → IsUnreadAs IsForm bytes c
unread_as IsForm bytes text_error.NotJson c is why = subst (IsUnreadAs IsForm bytes) (sym is) why
unread_as IsForm bytes text_error.Shape c is why = subst (IsUnreadAs IsForm bytes) (sym is) why
unread_as IsForm bytes text_error.Memory c is why = subst (IsUnreadAs IsForm bytes) (sym is) why

pub not_prepared : (at : Option Content) (bytes : List ℕ) (c : Code) → at ≡ None → IsUnreadAs IsLocationForm bytes c → IsNotPrepared at bytes c
not_prepared at bytes code.Taken empty none = absurd none
not_prepared at bytes _ empty none = (empty, none)

pub not_united : (old other : Option Content) (c : Code) → HasRoomFor a_move old → IsNotAppended (move_of old) other c → IsNotUnited old other c
not_united old other code.Taken room none = absurd none
not_united old other _ room none = (room, none)

-- the code of an error of a transaction
errs : (P : TransactionError → Type 0) (e : TransactionError) (c : Code) → c ≡ code_of_transaction e → P e → Errs P c
errs P transaction_error.Moved c is why = subst (Errs P) (sym is) why
errs P transaction_error.ManyReads c is why = subst (Errs P) (sym is) why
errs P transaction_error.Memory c is why = subst (Errs P) (sym is) why

pub unseen_as : (n : ℕ) (t : TransactionView) (e : TransactionError) (c : Code) → c ≡ code_of_transaction e → IsUnseen n t e →
    Errs (IsUnseen n t) c
unseen_as n t e c is why = errs (IsUnseen n t) e c is why

pub untracked_as : (ls : List Place) (t : TransactionView) (e : TransactionError) (c : Code) → c ≡ code_of_transaction e →
    IsUntracked ls t e → Errs (IsUntracked ls t) c
untracked_as ls t e c is why = errs (IsUntracked ls t) e c is why

pub untaken_as : (name : List ℕ) (t : TransactionView) (e : TransactionError) (c : Code) → c ≡ code_of_transaction e →
    IsUntaken name t e → Errs (IsUntaken name t) c
untaken_as name t e c is why = errs (IsUntaken name t) e c is why

-- what isn't seen isn't read
pub unread_unseen : (l : Place) (n : ℕ) (t : TransactionView) (c : Code) → Errs (IsUnseen n t) c → Errs (IsUnread l n t) c
unread_unseen l n t code.Moved why = why
unread_unseen l n t code.Memory why = tt
unread_unseen l n t code.Many why = absurd why
unread_unseen l n t _ why = absurd why

-- and what isn't tracked isn't
pub unread_untracked : (l : Place) (n : ℕ) (t : TransactionView) (c : Code) → Errs (IsUntracked (l ∷ []) t) c → Errs (IsUnread l n t) c
unread_untracked l n t code.Moved why = absurd why
unread_untracked l n t code.Memory why = tt
unread_untracked l n t code.Many why = why
unread_untracked l n t _ why = absurd why

pub unscanned_unseen : (name : List ℕ) (n : ℕ) (t : TransactionView) (c : Code) → Errs (IsUnseen n t) c → Errs (IsUnscanned name n t) c
unscanned_unseen name n t code.Moved why = why
unscanned_unseen name n t code.Memory why = tt
unscanned_unseen name n t code.Many why = absurd why
unscanned_unseen name n t _ why = absurd why

pub unscanned_untaken : (name : List ℕ) (n : ℕ) (t : TransactionView) (c : Code) → Errs (IsUntaken name t) c → Errs (IsUnscanned name n t) c
unscanned_untaken name n t code.Moved why = absurd why
unscanned_untaken name n t code.Memory why = tt
unscanned_untaken name n t code.Many why = why
unscanned_untaken name n t _ why = absurd why

pub not_popped : (t : TransactionView) (c : Code) → Errs (IsUntracked (last_partial_places t) t) c → IsUnpopped t c
not_popped t code.NoPush none = absurd none
not_popped t _ none = none

pub not_composed : (t : TransactionView) (e : PopError) (c : Code) → c ≡ code_of_pop e → IsNotPopped standard t e → IsUnpoppedMove t c
not_composed t (pop_error.Composition (compose_error.Clash x)) c is none = subst (IsUnpoppedMove t) (sym is) (compose_error.Clash x, none, refl)
not_composed t (pop_error.Composition (compose_error.Large x)) c is none = subst (IsUnpoppedMove t) (sym is) (compose_error.Large x, none, refl)
not_composed t (pop_error.Composition compose_error.ManyInstructions) c is none =
    subst (IsUnpoppedMove t) (sym is) (compose_error.ManyInstructions, none, refl)
not_composed t (pop_error.Composition compose_error.Memory) c is none = subst (IsUnpoppedMove t) (sym is) tt
not_composed t pop_error.ManyReads c is none = subst (IsUnpoppedMove t) (sym is) none
not_composed t pop_error.Memory c is none = subst (IsUnpoppedMove t) (sym is) tt

pub not_popped_in : (step : Option Content) (t : TransactionView) (c : Code) → step ≡ Some (content.Step t) → IsUnpopped t c →
    IsNotPoppedIn step c
not_popped_in step t code.Empty is none = absurd none
not_popped_in step t c is none = subst (λ (x : Option Content). IsNotPoppedIn x c) (sym is) none

pub not_popped_into : (step old : Option Content) (t : TransactionView) (c : Code) → step ≡ Some (content.Step t) → HasRoomFor a_move old →
    IsUnpoppedMove t c → IsNotPoppedInto step old c
not_popped_into step old t code.Taken is room none = absurd none
not_popped_into step old t code.Empty is room none = absurd none
not_popped_into step old t c is room none = subst (λ (x : Option Content). IsNotPoppedInto x old c) (sym is) (room, none)

pub takes_none : (number : ℕ) (store agent : Option Content) (s : StoreView) (c : Code) → agent ≡ None → store ≡ Some (content.Store s) →
    IsNotReturned number s c → TakesNoAgent number store agent c
takes_none number store agent s code.Taken empty is none = absurd none
takes_none number store agent s code.Empty empty is none = absurd none
takes_none number store agent s c empty is none = (empty, subst (λ (x : Option Content). Holds a_store x (λ t. IsNotReturned number t c)) (sym is) none)

pub not_given : (store agent : Option Content) (s : StoreView) (a : AgentAt Standard) (c : Code) → store ≡ Some (content.Store s) →
    agent ≡ Some (content.Agent a) → IsNotAdded s a c → IsNotGiven store agent c
not_given store agent s a code.Empty is so none = absurd none
not_given store agent s a code.Other is so none = absurd none
not_given store agent s a c is so none = subst (λ (x : Option Content). IsNotGiven x agent c) (sym is)
    (subst (λ (x : Option Content). IsNotGiven (Some (content.Store s)) x c) (sym so) none)
