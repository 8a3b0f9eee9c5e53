use Rattle.std.proofs.Common.{Err, ap, refl, ◌∙◌}
use Rattle.asm_update.specs.Aggregator.{Meaning}
use Rattle.asm_run.specs.declared.error.ReadError.TheVariants as read_error
use Rattle.asm_driver.specs.Folder.{refusal_of_read}
use Rattle.asm_driver.proofs.Segmenting.{begun_inside, numbered}
use Rattle.asm_driver.proofs.program.segments.begin.Goals as goal

pub returns-in-Ok-clause-begun : goal.returns-in-Ok-clause-begun
returns-in-Ok-clause-begun g c =
    let n = c.name in
    let was = ap (λ (m : Meaning). m.part) c.requires.meaning in
    let is = ap (λ (m : Meaning). m.part) (ap (λ a. g.A.Aggregator.meaning a) n.ensures.aggregator ∙ c.requires.meaning) in
    begun_inside c.args.reader.now n.new.self c.args.name.now c.args.size was is c.in-Ok.ensures.ok n.ensures.judge
    c.in-Ok.ensures.length

pub returns-in_default-clause-begun : goal.returns-in_default-clause-begun
returns-in_default-clause-begun g c = (
  c.number_after-number.result,
  read_error.Name,
  (rw c.in_default.is at c.parse.ensures.none) refl,
  λ place e. cc (e),
  tt,
  c.refusal_of_read.ensures
      ∙ ap (λ n. refusal_of_read c.args.reader.now.trail.since.segments n c.number_after-number.result read_error.Name)
      c.number_after-number.ensures,
)

pub returns-in-Err-clause-begun : goal.returns-in-Err-clause-begun
returns-in-Err-clause-begun g c = (
  c.in-Some.parsed.number,
  c.in-Err.error,
  c.in-Err.ensures.error,
  λ place busy. (c.in-Err.ensures.busy.0 (ap Err busy)) place,
  numbered c.args.name.now c.in-Some.parsed c.in-Err.error c.in-Some.ensures.some,
  c.refusal_of_read-in-Err.ensures
      ∙ ap (λ n. refusal_of_read c.args.reader.now.trail.since.segments n c.in-Some.parsed.number c.in-Err.error)
      c.number_after-number.ensures,
)
