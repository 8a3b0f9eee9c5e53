use Rattle.std.proofs.Common.{◌≡◌, ◌++◌, ℕ, List, vec_len}
use Rattle.asm_element.specs.declared.element.Element.{Element}
use Rattle.asm_journal.specs.Set.{IsBagOf}
use Rattle.asm_journal.proofs.EntriesKept.{ArePositive}
use Rattle.asm_journal.proofs.Elements.{counts_of}
use Rattle.asm_journal.proofs.form.set.bag_of.Given as goal

abbrev pub decreases-loop-element : goal.decreases-loop-element
decreases-loop-element l = vec_len l.counts

-- the bag is that of the last counts
abbrev pub invariant-loop-element : goal.invariant-loop-element
invariant-loop-element l = record {
  done : List (Element × ℕ);
  whole : counts_of l.counts.items ++ done ≡ counts_of l.fn.counts.items;
  made : IsBagOf l.bag done;
  positive : ArePositive done;
}
