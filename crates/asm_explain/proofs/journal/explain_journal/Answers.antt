use Rattle.asm_explain.proofs.journal.explain_journal.Goals as goal

pub returns-in-Ok-clause-accepted : goal.returns-in-Ok-clause-accepted
returns-in-Ok-clause-accepted c = (c.in-Ok._history, c.in-Ok.ensures.ok)
