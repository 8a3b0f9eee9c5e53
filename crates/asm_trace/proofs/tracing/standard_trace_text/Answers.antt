use Rattle.std.proofs.Common.{string_bytes, sym, subst}
use Rattle.std.proofs.lemmas.Result.{IfOk-weaker}
use Rattle.asm_update.specs.Aggregator.{Meaning}
use Rattle.asm_trace.specs.Change.{IsLocal}
use Rattle.asm_trace.specs.Text.{IsTrace}
use Rattle.asm_trace.proofs.Local.{standard_local}
use Rattle.asm_trace.proofs.tracing.standard_trace_text.Goals as goal

pub traced-requires-clause-local : goal.traced-requires-clause-local
traced-requires-clause-local c = λ _. subst (λ (a : Meaning). IsLocal a.part) (sym c.standard.ensures) standard_local

pub returns : goal.returns
returns c =
    IfOk-weaker c.traced.result _ _
    (λ text is. subst (λ (a : Meaning). IsTrace a.part c.args.history.now (string_bytes text)) c.standard.ensures is)
    c.traced.ensures
