use Rattle.std.proofs.Common.{◌≡◌, sym, ap, ◌∙◌, subst}
use Rattle.asm_state.specs.View.{StateView, AreSettled}
use Rattle.asm_state.proofs.state.State.copy.Goals as goal

pub invariant_of-result : goal.invariant_of-result
invariant_of-result c = subst AreSettled (sym c.in_ok-entries.ensures) c.self.invariant

pub returns : goal.returns
returns c =
    let entries = c.in_ok-entries.ensures ∙ ap (λ (s : StateView). s.entries) c.self.view_is in
    let base : c.in_ok-base.base.value ≡ c.args.self.now.base = c.in_ok-base.ensures ∙ ap (λ (s : StateView). s.base) c.self.view_is in
    λ i. record { number = (c.self.view_is i).number; base = base i; entries = entries i }
