use Rattle.std.proofs.Common.{◌++◌, string_bytes, false, ap₂, ◌∙◌}
use Rattle.std.proofs.lemmas.Result.{err_from_is_err_and}
use Rattle.asm_driver.proofs.Refusing.{unplayed}
use Rattle.asm_driver.proofs.program.commands.run_with_terms.Goals as goal

pub returns-in_err-play-clause-err : goal.returns-in_err-play-clause-err
returns-in_err-play-clause-err g c =
    let p = err_from_is_err_and c.from_residual-in_err-play.result c.from_residual-in_err-play.ensures.1 in
    rw (p.1, p.2) (unplayed c.args.bytes.now c.args.capacity false c.in_err-play.field-0.0
    c.in_ok-script.script c.in_ok-script.ensures.ok (λ e. c.in_err-play.ensures.capacity.0 (cc (e)))
    (λ e. c.in_err-play.ensures.threads (cc (e))))

pub returns-clause-ok : goal.returns-clause-ok
returns-clause-ok g c = (
  c.in_ok-play.play,
  string_bytes c.in_ok-reported.reported,
  (c.in_ok-script.script, c.in_ok-script.ensures.ok, c.in_ok-play.ensures.played),
  rw c.as_slice.ensures at c.in_ok-reported.ensures,
  c.in_ok-push_str.ensures.bytes ∙ ap₂ (λ a b. a ++ b) c.in_ok-text.ensures c.as_str.ensures.value,
)
