use Rattle.std.proofs.Common.{◌≡◌, ◌≤◌, ◌<◌, List, All, ℕ, ap, sym, subst, ◌∙◌, arith}
use Rattle.std.specs.FinMap as map
use Rattle.std.specs.Map.{keys_of, values_of}
use Rattle.std.specs.List.Sorted.{IsStrictlySortedBy}
use Rattle.asm_element.specs.declared.element.Element.{Element}
use Rattle.asm_element.specs.Element.{element_cmp, element_cmp_total, IsProper}
use Rattle.asm_element.specs.Tests.{on_err}
use Rattle.asm_element.specs.Bag as bag
use Rattle.asm_element.proofs.Changes.{bag_first, keys_added, values_added}
use Rattle.asm_element.proofs.elem_bag.ElemBag.first.Goals as goal

pub invariant_of-self-2 : goal.invariant_of-self-2
invariant_of-self-2 c =
    let old = c.self.inside.counts in
    let new = c.insert.new.self in
    record {
      ordered = c.ascends.ensures;
      elements = keys_added IsProper old new c.args.element c.args.n c.in_ok-_added._added c.in_ok-_added.ensures.ok c.self.invariant.elements c.proper.ensures;
      counts = values_added bag.IsCount old new c.args.element c.args.n c.in_ok-_added._added c.in_ok-_added.ensures.ok c.self.invariant.counts (omega (arith, c.requires.positive), omega (arith, c.ranges.n.fits));
    }

pub returns-clause-ok : goal.returns-clause-ok
returns-clause-ok c =
    bag_first c.self.inside.counts c.insert.new.self c.args.self.now c.args.element c.args.n c.in_ok-_added._added c.self.invariant.counts c.requires.positive c.self.view_is c.requires.absent c.in_ok-_added.ensures.added c.in_ok-_added.ensures.ok
