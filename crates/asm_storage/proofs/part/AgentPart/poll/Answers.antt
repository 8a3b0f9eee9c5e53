use Rattle.std.proofs.Common.{ap, ◌∙◌}
use Rattle.std.proofs.lemmas.Bool.{OnTrue_at}
use Rattle.asm_row.specs.Seat.{SeatView}
use Rattle.asm_storage.specs.declared.entry.Entry.{Entry}
use Rattle.asm_storage.proofs.PartInvariant.{found_next, polls_then}
use Rattle.asm_storage.proofs.part.AgentPart.poll.Goals as goal

pub loop-preserved : goal.loop-preserved
loop-preserved g c =
    let meaning = g.A.Aggregator.meaning in
    let s = c.args.storage.now in
    let mid = c.loop.self in
    let before = c.loop.invariant in
    let found = OnTrue_at c.loop-test.true c.finds_next.ensures.found in
    record {
      polls = polls_then meaning s c.args.self.now mid _ before.polls
          (found_next meaning s mid c.finds_next.new.progress found.0 before.polls.part found.1);
      misses = ap (λ (p : SeatView Entry). p.misses) found.1 ∙ before.misses;
      state = before.state;
    }
