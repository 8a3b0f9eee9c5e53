use Rattle.std.proofs.Common.{sym, ◌∙◌}
use Rattle.asm_run.proofs.Cuts.{not_read, is_numeral}
use Rattle.asm_run.proofs.name.eight.Goals as goal

pub returns-clause-none : goal.returns-clause-none
returns-clause-none c = λ e n is. not_read _ _ c.parse.result (sym c.ok.ensures.value ∙ e) c.parse.ensures.value.0
    (is_numeral c.args.text.now n is)
