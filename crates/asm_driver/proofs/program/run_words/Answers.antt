use Rattle.std.proofs.Common.{subst, refl, inl, inr}
use Rattle.asm_driver.specs.Words.{AsksFor}
use Rattle.asm_driver.proofs.Ending.{reported_of_words, asked_answered, run_is}
use Rattle.asm_driver.proofs.program.run_words.Goals as goal

pub returns-in-Err-clause-runs : goal.returns-in-Err-clause-runs
returns-in-Err-clause-runs g c =
    run_is _ _ _ _ c.answer_to.result
    (reported_of_words _ _ c.in-Err.error c.answer_to.result c.in-Err.ensures.refused c.answer_to.ensures
    (record { same = refl {a = g.S.Source.remaining c.args.input.now}; whole = c.requires.input }))
    c.write_answer.ensures.ok c.write_answer.ensures.err

pub returns-in-Audit-clause-runs : goal.returns-in-Audit-clause-runs
returns-in-Audit-clause-runs g c =
    inr (inl (c.in-Audit.every, subst (AsksFor _) c.in-Audit.is c.in-Ok.ensures.asked, c.watch.ensures.watches))

pub returns-in-Trace-clause-runs : goal.returns-in-Trace-clause-runs
returns-in-Trace-clause-runs g c = c.trace.ensures.runs _ (subst (AsksFor _) c.in-Trace.is c.in-Ok.ensures.asked)

pub returns-in_default-clause-runs : goal.returns-in_default-clause-runs
returns-in_default-clause-runs g c =
    run_is _ _ _ _ c.answer-answered.result
    (asked_answered _ _ c.in-Ok.request c.answer-answered.result c.answer-answered.ensures.ok c.answer-answered.ensures.err c.in-Ok.ensures.asked)
    c.write_answer-in_default.ensures.ok c.write_answer-in_default.ensures.err
