use Rattle.std.proofs.Common.{string_bytes, ap, ◌∙◌}
use Rattle.asm_update.specs.Aggregator.{Meaning}
use Rattle.asm_driver.proofs.Foldering.{taken_fault, taken_plain}
use Rattle.asm_driver.proofs.program.segments.take_line.Goals as goal

pub returns-in-Some-clause-taken : goal.returns-in-Some-clause-taken
returns-in-Some-clause-taken g c =
    let f = c.feed in
    let was = ap (λ (m : Meaning). m.part) c.requires.meaning in
    let is = ap (λ (m : Meaning). m.part) (ap (λ a. g.A.Aggregator.meaning a) f.ensures.aggregator ∙ c.requires.meaning) in
    taken_fault c.args.every c.args.reader.now f.new.self c.args.line.now c.requires.line was is f.ensures.fed
    f.ensures.stays f.ensures.length (string_bytes c.args.lines.now) _ c.in-Some.is

pub returns-clause-taken : goal.returns-clause-taken
returns-clause-taken g c =
    let f = c.feed in
    let was = ap (λ (m : Meaning). m.part) c.requires.meaning in
    let is = ap (λ (m : Meaning). m.part) (ap (λ a. g.A.Aggregator.meaning a) f.ensures.aggregator ∙ c.requires.meaning) in
    taken_plain c.args.every c.args.reader.now f.new.self c.args.line.now c.requires.line was is f.ensures.fed
    f.ensures.stays f.ensures.length (string_bytes c.args.lines.now) (string_bytes c.add_due.new.lines)
    c.counts-before.result c.counts.result c.in-None.is c.counts-before.ensures c.counts.ensures c.in_ok-add_due.ensures.ok
