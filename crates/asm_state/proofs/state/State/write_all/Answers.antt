use Rattle.std.proofs.Common.{ap, sym, ◌∙◌, subst}
use Rattle.std.specs.Arc.{arc_value}
use Rattle.std.specs.FinMap as finite
use Rattle.asm_element.specs.Tests.{on_err}
use Rattle.asm_state.specs.View.{StateView, AreSettled}
use Rattle.asm_state.specs.Follow.{entry_after}
use Rattle.asm_state.proofs.Settled.{settled_after}
use Rattle.asm_state.proofs.state.State.write_all.Goals as goal

pub invariant_of-self : goal.invariant_of-self
invariant_of-self c = subst AreSettled (sym c.in_err-write.ensures.err) c.self.invariant

pub returns-in_err-write-clause-err : goal.returns-in_err-write-clause-err
returns-in_err-write-clause-err c =
    on_err _ ((λ i. let s : StateView = record { number = c.self.inside.number; base = arc_value c.self.inside.base; entries = c.in_err-write.ensures.err i } in s) ∙ c.self.view_is)

pub invariant_of-self-2 : goal.invariant_of-self-2
invariant_of-self-2 c =
    settled_after c.args.number c.args.results c.self.inside.entries c.write.new.self c.requires c.self.invariant
    c.in_ok-write.ensures.ok

pub returns-clause-written : goal.returns-clause-written
returns-clause-written c = λ q.
    c.in_ok-write.ensures.ok q
    ∙ ap (λ (s : StateView). entry_after c.args.number (finite.get c.args.results q) (finite.get s.entries q)) c.self.view_is
