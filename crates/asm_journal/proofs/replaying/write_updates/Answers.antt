use Rattle.std.proofs.Common.{sym, ap, ◌∙◌}
use Rattle.asm_journal.proofs.Moves.{written_with, written_updates}
use Rattle.asm_journal.proofs.replaying.write_updates.Goals as goal

pub loop-at-preserved : goal.loop-at-preserved
loop-at-preserved c =
    let l = c.loop-at in
    ap (λ A. written_with A c.next.new.self) c.in_ok-set.ensures.ok ∙ sym (ap (written_with l.state) c.in-Some.ensures.steps) ∙ l.invariant

pub returns : goal.returns
returns c =
    let l = c.loop-at in
    sym (ap (written_with l.state) c.in-None.ensures.steps.0) ∙ l.invariant ∙ ap (written_with c.args.state.now) c.into_iter-at-iterator.ensures.into_iter_gives.0 ∙ written_updates c.args.state.now c.args.updates
