use Rattle.std.proofs.Common.{◌≡◌, sym, ◌∙◌, ap, true≢false, decimal}
use Rattle.std.specs.Result.{result_ok}
use Rattle.std.proofs.lemmas.Fmt.{parse-decimal}
use Rattle.std.proofs.lemmas.Slice.Eq.{bytes_eq-Decides}
use Rattle.asm_run.proofs.name.number.Goals as goal

pub returns-in_err-number-clause-none : goal.returns-in_err-number-clause-none
returns-in_err-number-clause-none c = λ e n lt is.
    let r = ap result_ok (parse-decimal 64 n c.args.text.now c.parse.result lt lt is c.parse.ensures.value.0) in
    let was = c.in_err-number.was in let value = c.ok.ensures.value in cc

pub returns-else-eq-clause-none : goal.returns-else-eq-clause-none
returns-else-eq-clause-none c = λ e n lt is.
    let r = ap result_ok (parse-decimal 64 n c.args.text.now c.parse.result lt lt is c.parse.ensures.value.0) in
    let value = c.in_ok-number.ensures.value in
    let same : c.in_ok-number.number ≡ n = cc in
    let text = c.format.ensures.text ∙ ap decimal same ∙ sym is in
    true≢false (sym ((bytes_eq-Decides c.format.result.now c.args.text.now).1 text) ∙ sym c.if-eq.ensures)
