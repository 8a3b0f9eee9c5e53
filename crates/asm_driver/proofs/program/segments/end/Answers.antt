use Rattle.std.proofs.Common.{ap, ◌∙◌}
use Rattle.asm_update.specs.Aggregator.{Meaning}
use Rattle.asm_driver.proofs.Segmenting.{ended_between, ended_refused}
use Rattle.asm_driver.proofs.program.segments.end.Goals as goal

pub returns-in-Ok-clause-ended : goal.returns-in-Ok-clause-ended
returns-in-Ok-clause-ended g c =
    let n = c.end in
    let was = ap (λ (m : Meaning). m.part) c.requires.meaning in
    let is = ap (λ (m : Meaning). m.part) (ap (λ a. g.A.Aggregator.meaning a) n.ensures.aggregator ∙ c.requires.meaning) in
    ended_between c.args.reader.now n.new.self c.args.name.now was is c.in-Ok.ensures.ok n.ensures.fault

pub returns-in-Err-clause-ended : goal.returns-in-Err-clause-ended
returns-in-Err-clause-ended g c =
    let was = ap (λ (m : Meaning). m.part) c.requires.meaning in
    ended_refused c.args.reader.now c.end.new.self c.args.name.now c.in-Err.error _ was c.in-Err.ensures.error
    c.refusal_of_read.ensures
