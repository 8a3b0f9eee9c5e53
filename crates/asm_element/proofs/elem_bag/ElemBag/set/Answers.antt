use Rattle.std.proofs.Common.{◌≡◌, ◌≤◌, ◌<◌, List, All, ℕ, ap, sym, subst, ◌∙◌, arith}
use Rattle.std.specs.FinMap as map
use Rattle.std.specs.Map.{keys_of, values_of}
use Rattle.std.specs.List.Sorted.{IsStrictlySortedBy}
use Rattle.asm_element.specs.declared.element.Element.{Element}
use Rattle.asm_element.specs.Element.{element_cmp, element_cmp_total, IsProper}
use Rattle.asm_element.specs.Tests.{on_err}
use Rattle.asm_element.specs.Bag as bag
use Rattle.asm_element.proofs.Changes.{bag_assigned, keys_assigned, values_assigned}
use Rattle.asm_element.proofs.elem_bag.ElemBag.set.Goals as goal

pub invariant_of-self : goal.invariant_of-self
invariant_of-self c =
    let old = c.self.inside.counts in
    let new = c.assign.new.self in
    record {
      ordered = c.ascends.ensures;
      elements = keys_assigned IsProper old new c.args.element.now c.args.n c.assign.ensures c.self.invariant.elements;
      counts = values_assigned bag.IsCount old new c.args.element.now c.args.n c.assign.ensures c.self.invariant.counts (λ m is. (omega (arith, is), omega (arith, c.ranges.n.fits)));
    }

pub returns : goal.returns
returns c =
    bag_assigned c.self.inside.counts c.assign.new.self c.args.self.now c.args.element.now c.args.n c.self.invariant.ordered c.self.view_is c.requires.present c.assign.ensures
