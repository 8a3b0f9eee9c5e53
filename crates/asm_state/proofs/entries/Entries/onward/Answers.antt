use Rattle.std.proofs.Common.{ap, sym, ◌∙◌}
use Rattle.std.specs.BTreeMap.Range.{entries_between}
use Rattle.std.specs.declared.ops.Bound.TheVariants.{Included, Unbounded}
use Rattle.std.specs.FinMap as map
use Rattle.asm_element.specs.Place.{location_cmp, location_cmp_total}
use Rattle.asm_element.proofs.Ordered.{entries-from_tree}
use Rattle.asm_state.proofs.entries.Entries.onward.Goals as goal

pub returns : goal.returns
returns c =
    let all = sym (entries-from_tree location_cmp_total c.self.inside.tree.entries c.self.invariant) ∙ ap map.entries c.self.view_is in
    c.range.ensures.between tt ∙ ap (entries_between location_cmp (Included c.args.first.now) Unbounded) all
