use Rattle.std.proofs.Common.{subst}
use Rattle.std.proofs.lemmas.Result.{err_from_is_err_and}
use Rattle.asm_update.specs.Aggregator.{Meaning}
use Rattle.asm_journal.specs.Check.{machine_of, IsLegality}
use Rattle.asm_driver.proofs.Refusing.{no_journal}
use Rattle.asm_driver.proofs.program.commands.check_journal.Goals as goal

pub returns-in_err-history-clause-err : goal.returns-in_err-history-clause-err
returns-in_err-history-clause-err c =
    let p = err_from_is_err_and c.from_residual.result c.from_residual.ensures.1 in
    rw (p.1, p.2) (no_journal c.args.bytes.now c.in_err-history.field-0.0 c.in_err-history.ensures.err)

pub returns-clause-ok : goal.returns-clause-ok
returns-clause-ok c =
    let h = c.in_ok-history.history in
    let l = c.in_ok-legality.legality in (
      h,
      l,
      c.in_ok-history.ensures.ok,
      subst (λ (a : Meaning). IsLegality (machine_of a.part h) h.events l) c.script_aggregator.ensures c.in_ok-legality.ensures,
      c.in_ok-legality_ending.ensures.status,
      c.in_ok-legality_ending.ensures.text,
    )
