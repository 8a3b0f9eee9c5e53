use Rattle.std.proofs.Common.{◌≡◌, false, subst}
use Rattle.std.specs.Prelude.{All}
use Rattle.std.proofs.lemmas.List.{take_all}
use Rattle.asm_state.specs.FollowsFrom.{is_stale}
use Rattle.asm_transaction.proofs.Standings.{places_unwritten}
use Rattle.asm_transaction.proofs.standing.first_written.Goals as goal

pub returns : goal.returns
returns c = λ part init q follows.
    places_unwritten part init q c.args.number c.args.reads.now
    (subst (λ rs. All (λ r. is_stale part init q r.at c.args.number ≡ false) rs)
    (take_all c.loop-read.read-index c.args.reads.now c.loop-read-test.false) (c.loop-read.invariant part init q follows))
