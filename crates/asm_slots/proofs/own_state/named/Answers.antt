use Rattle.std.proofs.Common.{ℕ, List, string_bytes, subst}
use Rattle.asm_slots.specs.OwnState.{IsOwnOfName}
use Rattle.asm_slots.proofs.own_state.named.Goals as goal

pub returns-clause-ok : goal.returns-clause-ok
returns-clause-ok c =
    let own = c.in_ok-own_of_name.field-0 in
    subst (λ (name : List ℕ). IsOwnOfName name c.args.agent.now own.number (string_bytes own.text))
    c.in-Ok.ensures.cases.0 c.in_ok-own_of_name.ensures
