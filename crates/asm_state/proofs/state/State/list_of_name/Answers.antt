use Rattle.std.proofs.Common.{◌≡◌, ℕ, List, rules, subst}
use Rattle.asm_state.specs.Listed.{IsListing, by_value}
use Rattle.asm_state.specs.Plain.{value_of_name}
use Rattle.asm_state.proofs.state.State.list_of_name.Goals as goal

pub returns : goal.returns
returns c =
    let same : c.in-Ok.first.name ≡ c.args.name.now = search rules in
    subst (λ (name : List ℕ). IsListing (value_of_name c.args.self.now name) (by_value c.in_ok-list.list.items)) same c.in_ok-list.ensures
