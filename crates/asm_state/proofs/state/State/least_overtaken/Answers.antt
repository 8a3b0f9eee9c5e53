use Rattle.std.proofs.Common.{sym, ◌∙◌}
use Rattle.asm_state.proofs.Judged.{same_stale}
use Rattle.asm_state.proofs.Writers.{none_stale}
use Rattle.asm_state.proofs.state.State.least_overtaken.Goals as goal

pub returns-then-are_read_from : goal.returns-then-are_read_from
returns-then-are_read_from c = λ part init q stands.
    none_stale part init q c.number.result c.args.reads.now (c.number.ensures ∙ stands.number) (sym c.are_read_from.ensures ∙ c.if-are_read_from.true)

pub returns : goal.returns
returns c = λ part init q stands. c.least_stale.ensures ∙ same_stale part init q c.args.self.now stands c.args.reads.now
