use Rattle.std.proofs.Common.{Some, None}
use Rattle.asm_audit.proofs.SoFar.{state_left, none_read}
use Rattle.asm_audit.proofs.Telling.{current_is}
use Rattle.asm_audit.proofs.progress.Progress.state.Goals as goal

pub returns-in_ok-plain_state-in-Some : goal.returns-in_ok-plain_state-in-Some
returns-in_ok-plain_state-in-Some c = λ part text audited.
    let p = c.args.self.now in
    let o = c.in-Some.part in
    state_left part text p.before o (current_is part text p (Some o) c.in-Some.is audited) c.in_ok-plain_state-in-Some.field-0
    c.in_ok-plain_state-in-Some.ensures

pub returns-in-None : goal.returns-in-None
returns-in-None c = λ part text audited.
    let p = c.args.self.now in
    none_read part text p.before (current_is part text p None c.in-None.is audited)
