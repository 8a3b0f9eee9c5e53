use Rattle.std.proofs.Common.{[], sym, subst}
use Rattle.std.specs.Arc.{arc_value}
use Rattle.asm_state.specs.FollowsFrom.{FollowsFrom}
use Rattle.asm_state.specs.View.{Entries, StateView, AreSettled}
use Rattle.asm_state.proofs.OpeningState.{opening_stands, opening_settled}
use Rattle.asm_state.proofs.state.State.over.Goals as goal

pub invariant_of-result : goal.invariant_of-result
invariant_of-result c = subst AreSettled (sym c.new.ensures) opening_settled

pub returns : goal.returns
returns c = λ part.
    subst (λ (es : Entries). let s : StateView = record { number = 0; base = arc_value c.args.base; entries = es } in FollowsFrom part (arc_value c.args.base) s [])
    (sym c.new.ensures) (opening_stands (arc_value c.args.base) part)
