use Rattle.std.proofs.Common.{◌≡◌, IfOk, subst, map, take}
use Rattle.asm_element.specs.Place.{Place}
use Rattle.asm_update.specs.State.{val}
use Rattle.asm_state.specs.View.{value_at}
use Rattle.asm_storage.specs.Agents.{moves_seen}
use Rattle.asm_storage.specs.Machine.{machine_state}
use Rattle.asm_storage.specs.Storage.{machine_of}
use Rattle.asm_storage.proofs.part.AgentPart.values_held.Goals as goal

pub returns-clause-count : goal.returns-clause-count
returns-clause-count g c = c.requires.following.stands.number

pub returns-clause-values : goal.returns-clause-values
returns-clause-values g c =
    let p = c.args.self.now in
    let m = machine_of g.A.Aggregator.meaning c.args.storage.now in
    let stands = c.requires.following.stands in
    let same : value_at p.state ≡ val (machine_state m (take p.state.number (moves_seen p.progress.seen))) =
    λ i l. stands.values l i in
    subst (λ (old : Place → _). IfOk c.share_or_copy_values.result (λ values. values ≡ map old c.args.places.now)) same c.share_or_copy_values.ensures
