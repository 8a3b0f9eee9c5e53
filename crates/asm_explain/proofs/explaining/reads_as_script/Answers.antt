use Rattle.asm_explain.proofs.explaining.reads_as_script.Goals as goal

pub returns-in-Ok-clause-reads : goal.returns-in-Ok-clause-reads
returns-in-Ok-clause-reads c = λ e. (c.in-Ok._script, c.in-Ok.ensures.ok)
