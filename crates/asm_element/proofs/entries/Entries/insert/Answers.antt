use Rattle.std.proofs.Common.{◌≤◌}
use Rattle.asm_element.proofs.Changes.{values_put, not_some}
use Rattle.asm_element.proofs.entries.Entries.insert.Goals as goal

pub invariant_of-self-then-len-ne-FEW : goal.invariant_of-self-then-len-ne-FEW
invariant_of-self-then-len-ne-FEW g c =
    let put = c.insert-then-len-ne-FEW.ensures in (
      values_put (λ n. n ≤ g.M.Marks.most) c.insert-then-len-ne-FEW.result c.self.inside.few c.insert-then-len-ne-FEW.new.self c.args.key c.args.n put.ok put.err c.self.invariant.0 c.requires.fits,
      λ some. not_some c.self.inside.many c.in_default.is some,
    )
