use Rattle.std.proofs.Common.{◌+◌, ◌*◌, max, vec_len}
use Rattle.asm_play.proofs.workers.+halves.Given as goal

abbrev pub decreases-each : goal.decreases-each
decreases-each g l = 4 * vec_len l.jobs

abbrev pub decreases-both : goal.decreases-both
decreases-both g l = 4 * max (vec_len l.first) (vec_len l.second) + 3

abbrev pub decreases-both-scope : goal.decreases-both-scope
decreases-both-scope g l = 4 * max (vec_len l.first) (vec_len l.second) + 2

abbrev pub decreases-both-scope-work : goal.decreases-both-scope-work
decreases-both-scope-work g l = 4 * vec_len l.first + 1
