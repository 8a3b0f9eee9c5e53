use Rattle.std.proofs.Common.{List, subst}
use Rattle.asm_element.specs.Place.{Place}
use Rattle.asm_step.proofs.Agreeing.{each_from}
use Rattle.asm_step.specs.Places.{AreEach}
use Rattle.asm_transaction.specs.View.{places_of}
use Rattle.asm_transaction.proofs.TrackedLists.{each_swapped}
use Rattle.asm_transaction.proofs.tracking.each_of.Goals as goal

pub returns : goal.returns
returns c =
    each_swapped c.args.locations.items (places_of c.args.reads.now) c.dedup.new.self.items
    (subst (λ (ls : List Place). AreEach ls c.dedup.new.self.items) c.in_ok-push_locations.ensures
    (each_from c.push_locations.new.all.items c.sort_unstable.new.self.items c.dedup.new.self.items
    c.sort_unstable.ensures.permutation c.sort_unstable.ensures.sorted c.dedup.ensures.filtered))
