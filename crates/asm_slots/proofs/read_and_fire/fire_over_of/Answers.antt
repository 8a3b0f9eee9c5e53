use Rattle.std.proofs.Common.{inr}
use Rattle.std.proofs.lemmas.Result.{err_from_is_err_and}
use Rattle.asm_slots.specs.AgentAnswers.{AreScans}
use Rattle.asm_slots.proofs.Refused.{unread_as}
use Rattle.asm_slots.proofs.read_and_fire.fire_over_of.Goals as goal

-- the first text is read, and the second one isn't
pub returns-in_err-scans-clause-err : goal.returns-in_err-scans-clause-err
returns-in_err-scans-clause-err c =
    let p = err_from_is_err_and c.from_residual-in_err-scans.result c.from_residual-in_err-scans.ensures.1 in
    let fire = c.in_ok-fire.fire in
    rw p.1 (inr (
      (fire.reads, fire.instrs),
      c.in_ok-fire.ensures.ok,
      unread_as AreScans c.args.scans.now c.in_err-scans.field-0.0 p.0 p.2 c.in_err-scans.ensures.err,
    ))
