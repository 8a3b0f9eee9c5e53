use Rattle.std.proofs.Common.{◌+◌, ◌≤◌, refl, arith}
use Rattle.asm_run.proofs.After as after
use Rattle.asm_run.proofs.writer.RunWriter.drop_oldest.Goals as goal

pub returns-clause-some : goal.returns-clause-some
returns-clause-some c = λ part events h.
    let few : c.args.self.now.saved.first + 2 ≤ c.args.self.now.saved.end.segments = omega arith in
    after.drops_one part c.args.self.now _ events (c.if-not-is_resting.ensures.0 refl) h few refl refl refl
