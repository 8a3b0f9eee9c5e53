use Rattle.std.proofs.Common.{◌∙◌}
use Rattle.asm_element.specs.Bag as bags
use Rattle.asm_transaction.specs.Members.{size_limit}
use Rattle.asm_transaction.proofs.MemberCounts.{counted_all}
use Rattle.asm_transaction.proofs.members.bag_size.Goals as goal

pub returns : goal.returns
returns c =
    let l = c.loop-element in
    let start = c.into_iter-element-iterator.ensures.into_iter_gives ∙ c.iter-element-items.ensures.entries in
    counted_all l.size size_limit l._element-iterator _ (bags.entries c.args.bag.now) c.in-None.ensures.steps.0 start l.invariant.0 l.invariant.1
