use Rattle.std.proofs.Common.{◌∙◌, append_assoc, sym}
use Rattle.std.proofs.lemmas.Result.{IfOk-weaker}
use Rattle.asm_explain.proofs.journal.line_sentence.Goals as goal

pub returns : goal.returns
returns c = IfOk-weaker c.format.result _ _ (λ s is. is ∙ sym (simp append_assoc)) c.format.ensures.ok
