use Rattle.std.proofs.Common.{◌++◌, refl, sym, ◌∙◌}
use Rattle.std.proofs.Common.{true≢false}
use Rattle.asm_run.specs.Reader.{texts_of}
use Rattle.asm_run.proofs.Runs as runs
use Rattle.asm_run.proofs.reader.RunReader.verdict.Goals as goal

pub returns-in-Err-clause-error : goal.returns-in-Err-clause-error
returns-in-Err-clause-error g c = λ skipped segments title text h.
    let old = c.args.self.now in (
      c.if-not-finish.ensures.right refl old.trail.end text h.taken,
      c.in-Err.ensures.verdict
          (texts_of segments ++ text) h.judged,
    )

pub returns-clause-error : goal.returns-clause-error
returns-clause-error g c = λ skipped segments title text h.
    let part = (g.A.Aggregator.meaning c.args.self.now.judge.auditor.auditor.aggregator).part in
    let old = c.args.self.now in (
      c.if-not-finish.ensures.right refl old.trail.end text h.taken,
      λ history is.
          let same = runs.reported_numbers part old.trail skipped segments text old.trail.segment.name.moves
          old.trail.segment.name.events c.in-Ok.counts c.in-Some.next h.before c.in-Some.ensures.some
          (c.in-Ok.ensures.verdict (texts_of segments ++ text) h.judged).0 history is in
          true≢false (sym (c.are_same_counts.ensures.1 same) ∙ c.if-are_same_counts.false),
    )
