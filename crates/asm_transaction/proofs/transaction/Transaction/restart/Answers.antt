use Rattle.asm_transaction.proofs.TrackedLists.{none_kept}
use Rattle.asm_transaction.proofs.transaction.Transaction.restart.Goals as goal

pub invariant_of-self : goal.invariant_of-self
invariant_of-self c =
    none_kept c.clear-2.new.self.items c.clear-3.new.self.items c.args.number c.clear-2.ensures.items c.clear-3.ensures.items
