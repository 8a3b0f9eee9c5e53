use Rattle.std.proofs.Common.{sym, ap, ◌∙◌, subst}
use Rattle.asm_state.specs.View.{writer_of}
use Rattle.asm_state.specs.FollowsFrom.{IsLastWriter}
use Rattle.asm_state.proofs.Overwritten.{last_writer}
use Rattle.asm_state.proofs.state.State.written_at.Goals as goal

pub returns-in-Some-clause-last : goal.returns-in-Some-clause-last
returns-in-Some-clause-last c = λ part init q stands.
    subst (IsLastWriter part init q c.args.at.now) (sym (ap writer_of c.in-Some.ensures.value ∙ stands.writers c.args.at.now)) (last_writer part init q c.args.at.now)

pub returns-in-None-clause-last : goal.returns-in-None-clause-last
returns-in-None-clause-last c = λ part init q stands.
    subst (IsLastWriter part init q c.args.at.now) (sym (ap writer_of c.in-None.ensures.value ∙ stands.writers c.args.at.now)) (last_writer part init q c.args.at.now)
