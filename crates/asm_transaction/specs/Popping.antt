-- What a pop does with a transaction.
use Rattle.std.specs.Prelude.{◌≡◌, ◌≤◌, ◌+◌, ◌⊎◌, ◌↔◌, Contains, List, [], ◌∷◌, ◌++◌, filter, length, true, Result, Ok, Err}
use mathlib.Core.List.{IsPrefix}
use Rattle.asm_element.specs.Place.{Place}
use Rattle.asm_aggregate.specs.declared.composition.ComposeError.{ComposeError}
use Rattle.asm_storage.specs.Limits.{reads_limit}
use Rattle.asm_step.specs.Dependencies.{depends}
use Rattle.asm_step.specs.Layers.{IsStepOf, dependencies_of, moves_of as last_moves}
use Rattle.asm_step.specs.Places.{AreEach}
use Rattle.asm_step.specs.Popped.{IsOneOf, IsPushedAgain, KeepsTurns}
use Rattle.asm_update.specs.Aggregator.{Meaning}
use Rattle.asm_update.specs.Fire.{Old}
use Rattle.asm_update.specs.Move.{Move}
use Rattle.asm_transaction.specs.Reading.{WouldTakeMany, from_below}
use Rattle.asm_transaction.specs.View.{TransactionView, moves_of, pushed}
use Rattle.asm_transaction.specs.declared.error.PopError.{PopError}
use Rattle.asm_transaction.specs.declared.error.PopError.TheVariants as pop_error

-- the group that was pushed last, of these moves, is popped, and those of the locations are tracked at which what is
-- shown was made from the state at the version
pub record HasPopped (locations : List Place) (Ms : List Move) (old new : TransactionView) : Type 0 where
  pub same : new ≡ record old { layers = new.layers; tracked = new.tracked }
  pub layers : IsPrefix new.layers old.layers
  pub groups : pushed old ≡ pushed new ++ Ms ∷ []
  pub tracked : AreEach (old.tracked ++ from_below old locations) new.tracked
  pub few : length new.tracked + length new.scanned ≤ reads_limit

-- the locations on which the moves that were pushed last depend by themselves
abbrev pub dependencies_last : TransactionView → List Place
dependencies_last t = filter (depends (last_moves t.layers)) (dependencies_of t.layers)

-- with these pushed moves, the commit of the transaction declares a read of the location
abbrev pub Declares : TransactionView → List Move → Place → Type 0
Declares t Ms l = Contains t.tracked l ⊎ (depends Ms l ≡ true)

-- the answer is the one move of the moves, which does what they do in turn; or why they have none
abbrev pub IsOneMoveOf : Meaning → List Move → Result Move ComposeError → Type 0
IsOneMoveOf a Ms r = IsOneOf a Ms r × KeepsTurns a.part Ms r

-- the group that was pushed last is popped, and this is its one move. If this move is pushed again in its place,
-- the commit declares the same reads, and does the same
pub record HasPoppedMove (a : Meaning) (old new : TransactionView) (C : Move) : Type 0 where
  pub popped : HasPopped (dependencies_last old) (last_moves old.layers) old new
  pub one : IsOneMoveOf a (last_moves old.layers) (Ok C)
  pub reads : (below : Old) → IsStepOf a.part below old.layers (pushed old) →
      (l : Place) → Declares old (moves_of old) l ↔ Declares new (moves_of new ++ C ∷ []) l
  pub again : (below : Old) → IsStepOf a.part below old.layers (pushed old) →
      IsPushedAgain a below old.layers (pushed new) (last_moves old.layers) C

-- the move does what the group does that was pushed last
abbrev pub IsLastAsOne : Meaning → TransactionView → Move → Type 0
IsLastAsOne a t C =
    (below : Old) (groups : List (List Move)) → IsStepOf a.part below t.layers (groups ++ last_moves t.layers ∷ []) →
    IsPushedAgain a below t.layers groups (last_moves t.layers) C

-- why no move is popped: the locations would take too many places; or the group has no one move
abbrev pub IsNotPopped : Meaning → TransactionView → PopError → Type 0
IsNotPopped a t pop_error.ManyReads = WouldTakeMany (dependencies_last t) t
IsNotPopped a t (pop_error.Composition e) = IsOneMoveOf a (last_moves t.layers) (Err e)
IsNotPopped a t pop_error.Memory = Unit {0}
