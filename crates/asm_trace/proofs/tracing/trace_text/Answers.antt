use Rattle.std.proofs.lemmas.Bool.{false≢true}
use Rattle.asm_trace.proofs.tracing.trace_text.Goals as goal

pub traced-requires-clause-local : goal.traced-requires-clause-local
traced-requires-clause-local g c = λ h. absurd (false≢true h)
