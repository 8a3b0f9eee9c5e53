-- Popping the move of a step that was pushed last, with those that extend it.
use Rattle.std.specs.Prelude.{◌≡◌, List, Option, []}
use Rattle.asm_update.specs.Move.{Move}
use Rattle.asm_step.specs.Places.{all_partial_places}
use Rattle.asm_transaction.specs.Popping.{HasPopped, IsNotPopped}
use Rattle.asm_transaction.specs.Reading.{IsUntracked}
use Rattle.asm_transaction.specs.Tracked.{last_partial_places}
use Rattle.asm_transaction.specs.View.{TransactionView}
use Rattle.asm_transaction.specs.declared.error.PopError.TheVariants as pop_error
use Rattle.asm_aggregate.specs.declared.composition.ComposeError.{ComposeError}
use Rattle.asm_slots.specs.Answers.{code_of_compose}
use Rattle.asm_slots.specs.Slots.{HasRoomFor, Holds, Lacks, a_move, a_step}
use Rattle.asm_slots.specs.Standard.{standard}
use Rattle.asm_slots.specs.StepCalls.{Errs}
use Rattle.asm_slots.specs.declared.codes.Code.{Code}
use Rattle.asm_slots.specs.declared.codes.Code.TheVariants as code
use Rattle.asm_slots.specs.declared.content.Content.{Content}

-- what was pushed last is popped, and the locations of its partial updates are tracked
abbrev pub HasPoppedLast : TransactionView → TransactionView → Type 0
HasPoppedLast old new = (Ms : List Move) × HasPopped (all_partial_places Ms) Ms old new

-- no move is pushed, or the locations can't be tracked
abbrev pub IsUnpopped : TransactionView → Code → Type 0
IsUnpopped t code.NoPush = t.layers ≡ []
IsUnpopped t c = Errs (IsUntracked (last_partial_places t) t) c

-- no move is pushed, the locations can't be tracked, or the moves have no one move
abbrev pub IsUnpoppedMove : TransactionView → Code → Type 0
IsUnpoppedMove t code.Memory = Unit {0}
IsUnpoppedMove t code.NoPush = t.layers ≡ []
IsUnpoppedMove t code.Many = IsNotPopped standard t pop_error.ManyReads
IsUnpoppedMove t code.Taken = ⊥
IsUnpoppedMove t code.Empty = ⊥
IsUnpoppedMove t c = (e : ComposeError) × IsNotPopped standard t (pop_error.Composition e) × (c ≡ code_of_compose e)

-- the slot holds no step, or nothing is popped of it
abbrev pub IsNotPoppedIn : Option Content → Code → Type 0
IsNotPoppedIn step code.Empty = Lacks a_step step
IsNotPoppedIn step c = Holds a_step step (λ t. IsUnpopped t c)

-- or there is no room for the move in the other slot; that comes before all others
abbrev pub IsNotPoppedInto : Option Content → Option Content → Code → Type 0
IsNotPoppedInto step old code.Taken = ¬ HasRoomFor a_move old
IsNotPoppedInto step old code.Empty = HasRoomFor a_move old × Lacks a_step step
IsNotPoppedInto step old c = HasRoomFor a_move old × Holds a_step step (λ t. IsUnpoppedMove t c)
