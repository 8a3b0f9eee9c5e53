use Rattle.std.proofs.Common.{refl}
use Rattle.asm_transaction.proofs.TrackedLists.{named_more, numbers_more}
use Rattle.asm_transaction.proofs.tracking.named_at.Goals as goal

pub loop-at-preserved : goal.loop-at-preserved
loop-at-preserved c = record {
  locations = named_more _ _ _ _ _ _ c.in-Some.ensures.steps.0 c.in_ok-push.ensures.items c.loop-at.invariant.locations;
  numbers = numbers_more _ _ _ _ refl c.in_ok-push.ensures.items c.loop-at.invariant.numbers;
}
