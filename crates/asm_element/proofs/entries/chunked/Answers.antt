use Rattle.std.proofs.Common.{◌≤◌, subst, sym}
use Rattle.asm_element.specs.Entries.{AllFit}
use Rattle.asm_element.proofs.Trees.{all_entries}
use Rattle.asm_element.proofs.entries.chunked.Goals as goal

pub of-requires-clause-fits : goal.of-requires-clause-fits
of-requires-clause-fits g c =
    subst (AllFit g.M.Marks.most) (sym c.in_ok-pairs.ensures) (all_entries (λ n. n ≤ g.M.Marks.most) c.args.tree.now c.requires.fits)
