use Rattle.std.proofs.Common.{refl}
use Rattle.asm_driver.proofs.Runs.{refused}
use Rattle.asm_driver.proofs.Ending.{traced_all, traced_memory, traced_cut}
use Rattle.asm_driver.proofs.program.trace.Goals as goal

pub returns-in-Err-clause-runs : goal.returns-in-Err-clause-runs
returns-in-Err-clause-runs g c = λ words asks.
    refused words _ _ c.in-Err.refusal _ (c.in-Err.ensures.err words asks) c.refuse.ensures.refuses

pub returns-in-Ok-write_trace-clause-runs : goal.returns-in-Ok-write_trace-clause-runs
returns-in-Ok-write_trace-clause-runs g c = λ words asks.
    let wrote = c.in-Ok-write_trace.ensures in
    traced_all words _ _ _ _ _ _ c.in-Ok.history c.in-Ok.ensures.ok asks refl wrote.ok wrote.noted wrote.flushed

pub returns-in-Refused-clause-runs : goal.returns-in-Refused-clause-runs
returns-in-Refused-clause-runs g c = λ words asks.
    traced_memory words _ _ _ _ _ _ c.in-Ok.history c.in-Ok.ensures.ok asks _ c.in-Refused.refusal
    (rw c.in-Refused.is at c.in-Err-write_trace.ensures.err) c.refuse-in-Refused.ensures.refuses

pub returns-clause-runs : goal.returns-clause-runs
returns-clause-runs g c = λ words asks.
    let wrote = c.in-Err-write_trace.ensures in
    traced_cut words _ _ _ _ _ _ c.in-Ok.history c.in-Ok.ensures.ok asks refl (rw c.in-Unwritten.is at wrote.err)
    (rw c.in-Unwritten.is at wrote.noted)
