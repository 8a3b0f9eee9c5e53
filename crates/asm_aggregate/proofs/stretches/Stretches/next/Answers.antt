use Rattle.std.proofs.Common.{sym}
use Rattle.asm_aggregate.proofs.Arranged.{parted_at}
use Rattle.asm_aggregate.proofs.stretches.Stretches.next.Goals as goal

pub returns : goal.returns
returns c =
    parted_at c.args.self.now.list.now _ _ c.in-Some.first.now c.args.self.now.done c.count_at-count.result
    c.split_at.ensures.back (sym c.in-Some.ensures.value) c.split_at-2.ensures.front c.count_at-count.ensures.here
    c.count_at-count.ensures.ends
