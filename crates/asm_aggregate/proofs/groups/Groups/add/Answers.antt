use Rattle.std.proofs.Common.{sym, ap, ◌∙◌, Bor, unwrap_or}
use Rattle.std.specs.BTreeMap as tree
use Rattle.std.specs.FinMap as finite
use Rattle.asm_element.specs.Place.{Place, location_cmp}
use Rattle.asm_aggregate.specs.Bundle.{Bundle}
use Rattle.asm_aggregate.proofs.Grouped.{added, on_ok, ref_cmp}
use Rattle.asm_aggregate.proofs.groups.Groups.add.Goals as goal

pub returns : goal.returns
returns c =
    let entry = c.in_ok-self-inside.ensures in
    let written = c.self-3-1.given.1 (sym entry.same_map) in
    on_ok c.add.result (λ more M groups.
    added c.self.inside.tree _
    (record { ref_ptr = (0, 0); now = c.args.instruction.now.at }) c.args.instruction.now
    c.or_insert-bundle.result.now c.add.new.self (λ _. c.args.instruction.now.at)
    (λ q. ap (λ (t : tree.BTreeMap (Bor Place) Bundle). tree.get ref_cmp t q) written
    ∙ (entry.update.0 c.add.new.self).0 q)
    (c.or_insert-bundle.ensures.value ∙ (λ i. unwrap_or (entry.value i) (c.new.ensures i)))
    more M (λ l. ap (λ (m : finite.FinMap location_cmp Bundle). finite.get m l) c.self.view_is ∙ groups l))
    c.add.ensures
