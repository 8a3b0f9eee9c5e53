use Rattle.std.proofs.Common.{string_bytes, subst, inl, inr}
use Rattle.std.proofs.lemmas.Result.{IfOk-weaker, IfErr-weaker, err_from_is_err_and}
use Rattle.asm_driver.specs.Commands.{IsDone, IsNotDone}
use Rattle.asm_driver.specs.Words.{AsksFor}
use Rattle.asm_driver.proofs.Ending.{shown_answered}
use Rattle.asm_driver.proofs.Refusing.{no_input}
use Rattle.asm_driver.proofs.program.answer.Goals as goal

pub returns-in-Show-clause-ok : goal.returns-in-Show-clause-ok
returns-in-Show-clause-ok g c =
    shown_answered c.in-Show.window _ _ _ c.args.request c.window_input.result c.in-Show.is
    c.window_input.ensures.status c.window_input.ensures.ok

pub returns-in-Show-clause-err : goal.returns-in-Show-clause-err
returns-in-Show-clause-err g c =
    IfErr-weaker c.window_input.result _ _
    (λ r is words asks. inr (inr (inr (c.in-Show.window, subst (AsksFor words) c.in-Show.is asks, is))))
    c.window_input.ensures.err

pub returns-in_err-bytes-in_default-clause-err : goal.returns-in_err-bytes-in_default-clause-err
returns-in_err-bytes-in_default-clause-err g c =
    let r = err_from_is_err_and c.from_residual.result c.from_residual.ensures.1 in
    let read = c.in_err-bytes-in_default.ensures in
    rw (r.1, r.2) (λ words asks. inr (inl (
      (c.args.request, asks, c.in_default.not-Show, c.requires.audit),
      no_input _ _ _ c.in_err-bytes-in_default.field-0.0 read.large read.some read.noted,
    )))

pub returns-in_ok-bytes-in_default-clause-ok : goal.returns-in_ok-bytes-in_default-clause-ok
returns-in_ok-bytes-in_default-clause-ok g c =
    let read = c.in_ok-bytes-in_default.ensures in
    let bytes = c.in_ok-bytes-in_default.bytes.items in
    let request = c.args.request in
    IfOk-weaker c.carry_out.result _ _ (λ e is words asks.
    inl (
      bytes,
      request,
      record { all = read.all; whole = read.noted },
      asks,
      subst (λ b. IsDone b request e.status (string_bytes e.text)) c.as_slice.ensures.value is,
    ))
    c.carry_out.ensures.ok

pub returns-in_ok-bytes-in_default-clause-err : goal.returns-in_ok-bytes-in_default-clause-err
returns-in_ok-bytes-in_default-clause-err g c =
    let read = c.in_ok-bytes-in_default.ensures in
    let bytes = c.in_ok-bytes-in_default.bytes.items in
    let request = c.args.request in
    IfErr-weaker c.carry_out.result _ _ (λ r is words asks.
    inr (inr (inl (
      bytes,
      request,
      record { all = read.all; whole = read.noted },
      asks,
      subst (λ b. IsNotDone b request r) c.as_slice.ensures.value is,
    ))))
    c.carry_out.ensures.err
