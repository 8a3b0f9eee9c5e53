use Rattle.std.proofs.Common.{◌∙◌}
use Rattle.std.specs.Cmp.Lexicographic.{pointwise}
use Rattle.asm_element.proofs.Same.{answer_same}
use Rattle.asm_update.specs.Equal.{entry_eq, state_eq, state_eq-same}
use Rattle.asm_update.proofs.Walks.{walked}
use Rattle.asm_update.proofs.plain_state.PlainStatePartialEq.eq.Goals as goal

pub returns-clause-eq : goal.returns-clause-eq
returns-clause-eq c =
    let mine = walked c.self.inside.values.entries c.self.invariant.ordered c.args.self.now c.self.view_is in
    let others = walked c.other.inside.values.entries c.other.invariant.ordered c.args.other.now c.other.view_is in
    c.eq.ensures ∙ (λ i. pointwise entry_eq (mine i) (others i))

pub returns-clause-same : goal.returns-clause-same
returns-clause-same c = answer_same state_eq state_eq-same c.eq.result c.args.self.now c.args.other.now (returns-clause-eq c)
