use Rattle.std.proofs.Common.{◌≤◌}
use Rattle.asm_element.proofs.Changes.{values_assigned, not_some}
use Rattle.asm_element.proofs.entries.Entries.assign.Goals as goal

pub invariant_of-self-in-None : goal.invariant_of-self-in-None
invariant_of-self-in-None g c = (
  values_assigned (λ n. n ≤ g.M.Marks.most) c.self.inside.few c.assign-in-None.new.self c.args.key.now c.args.n c.assign-in-None.ensures c.self.invariant.0 (λ m is. c.requires),
  λ some. not_some c.self.inside.many c.in-None.is some,
)
