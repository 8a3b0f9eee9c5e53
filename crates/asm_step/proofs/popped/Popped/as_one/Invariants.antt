use Rattle.std.proofs.Common.{◌≡◌, ◌∷◌, Some, drop, take, Result}
use Rattle.asm_update.specs.Move.{Move}
use Rattle.asm_aggregate.specs.declared.composition.ComposeError.{ComposeError}
use Rattle.asm_step.specs.Layers.{one_move}
use Rattle.asm_step.specs.Popped.{IsContinuedOf, IsOneMove, IsOneOf}
use Rattle.asm_step.proofs.popped.Popped.as_one.Given as goal

-- what is answered of the moves that are left is answered of all, and the step has the one move of those so far
abbrev pub invariant-loop-next : goal.invariant-loop-next
invariant-loop-next g l =
    let a = g.A.Aggregator.meaning l.aggregator in
    (first : Move) × (D : Move) × (l.self ≡ first ∷ l.next-items) × (one_move l.step ≡ Some D)
    × ((r : Result Move ComposeError) → IsContinuedOf a D (drop l.next-index l.next-items) r → IsOneOf a l.self r)
    × IsOneMove a.part (first ∷ take l.next-index l.next-items) D
