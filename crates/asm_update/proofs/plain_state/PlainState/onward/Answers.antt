use Rattle.std.proofs.Common.{ap, ◌∙◌}
use Rattle.std.specs.BTreeMap.Range.{entries_between}
use Rattle.std.specs.declared.ops.Bound.TheVariants.{Included, Unbounded}
use Rattle.asm_element.specs.Place.{location_cmp}
use Rattle.asm_update.proofs.Walks.{walked}
use Rattle.asm_update.proofs.plain_state.PlainState.onward.Goals as goal

pub returns : goal.returns
returns c =
    c.range.ensures.between tt
    ∙ ap (entries_between location_cmp (Included c.args.first.now) Unbounded)
    (walked c.self.inside.values.entries c.self.invariant.ordered c.args.self.now c.self.view_is)
