use Rattle.std.proofs.Common.{string_bytes}
use Rattle.std.proofs.lemmas.Result.{IfOk-weaker}
use Rattle.asm_explain.proofs.journal.at_line.Goals as goal

pub returns : goal.returns
returns c =
    IfOk-weaker c.line_sentence.result _ _ (λ s is. (string_bytes c.in_ok-why.why, c.in_ok-why.ensures.some, c.in_ok-why.ensures.one_line, c.in_ok-why.ensures.short, is))
    c.line_sentence.ensures
