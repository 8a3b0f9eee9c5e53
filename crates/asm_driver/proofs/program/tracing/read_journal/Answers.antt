use Rattle.std.proofs.Common.{subst, inl, inr}
use Rattle.std.proofs.lemmas.Result.{err_from_is_err_and}
use Rattle.asm_journal.specs.Reading.{ReadsAs}
use Rattle.asm_driver.specs.Commands.{IsNoJournal}
use Rattle.asm_driver.specs.Refusal.{refusal_of_journal}
use Rattle.asm_driver.specs.declared.program.words.Request.TheVariants.{Trace}
use Rattle.asm_driver.proofs.Refusing.{no_input, no_journal}
use Rattle.asm_driver.proofs.program.tracing.read_journal.Goals as goal

pub returns-in_err-bytes-clause-err : goal.returns-in_err-bytes-clause-err
returns-in_err-bytes-clause-err g c =
    let p = err_from_is_err_and c.from_residual.result c.from_residual.ensures.1 in
    let read = c.in_err-bytes.ensures in
    rw (p.1, p.2) (λ words asks. inr (inl (
      (Trace, asks, λ w e. cc (e), λ every e. cc (e)),
      no_input _ _ _ c.in_err-bytes.field-0.0 read.large read.some read.noted,
    )))

pub returns-in_err-from_text-clause-err : goal.returns-in_err-from_text-clause-err
returns-in_err-from_text-clause-err g c =
    let p = err_from_is_err_and c.from_residual-in_err-from_text.result c.from_residual-in_err-from_text.ensures.1 in
    let read = c.in_ok-bytes.ensures in
    let e = c.in_err-from_text.field-0.0 in
    rw (p.1, p.2) (λ words asks. inr (inr (inl (
      c.in_ok-bytes.bytes.items,
      Trace,
      record { all = read.all; whole = read.noted },
      asks,
      subst (λ b. IsNoJournal b (refusal_of_journal e)) c.as_slice.ensures.value
          (no_journal c.as_slice.result.now e c.in_err-from_text.ensures.err),
    ))))

pub returns-clause-ok : goal.returns-clause-ok
returns-clause-ok g c =
    let read = c.in_ok-bytes.ensures in (
      c.in_ok-bytes.bytes.items,
      record { all = read.all; whole = read.noted },
      subst (λ b. ReadsAs b c.in_ok-from_text.field-0) c.as_slice.ensures.value c.in_ok-from_text.ensures.ok,
    )
