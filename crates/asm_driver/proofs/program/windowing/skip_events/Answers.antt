use Rattle.std.proofs.Common.{◌<◌, ◌++◌, inl, sym, subst, ◌∙◌, arith}
use Rattle.std.proofs.lemmas.Result.{err_from_is_err_and}
use Rattle.asm_journal.specs.Reading.{HasNoLineFeed}
use Rattle.asm_audit.specs.Text.{HasLineFeed}
use Rattle.asm_driver.specs.Lines.{pending}
use Rattle.asm_driver.specs.Window.{IsBadWindow, IsNoWindow}
use Rattle.asm_driver.specs.declared.program.refusal.Refusal.TheVariants.{BadPart}
use Rattle.asm_journal.specs.declared.error.JournalError.TheVariants.{Cut}
use Rattle.asm_driver.proofs.LinesTaken.{taken_on, unread_reported}
use Rattle.asm_driver.proofs.PartLines.{skipping_all, skipping_long}
use Rattle.asm_driver.proofs.PartsRead.{line_skipped, line_missing, within_window}
use Rattle.asm_driver.proofs.program.windowing.skip_events.Goals as goal

pub returns-in_err-read-clause-answer : goal.returns-in_err-read-clause-answer
returns-in_err-read-clause-answer g c = λ w had text h before all at none.
    let r = err_from_is_err_and c.from_residual.result c.from_residual.ensures.1 in
    let i = c.loop.invariant in
    let now = i.passed had c.args.number h text at none in
    let less : c.loop.counter < h.limits.events = omega (arith, c.loop-test.true, all) in
    rw (r.1, r.2) (
      now.0,
      within_window w c.args.number c.loop.counter h now.0 now.2 less before,
      unread_reported had (g.S.Source.remaining c.loop.input) (g.S.Source.remaining c.read.new.input)
          (g.S.Source.failed c.read.new.input) now.0 (pending c.loop.lines) (pending c.read.new.self) c.read.new.self.line.items
          (IsBadWindow w) c.in_err-read.field-0.0 now.1 c.in_err-read.ensures.read (λ t. inl tt) (λ t. inl tt)
          (skipping_long c.args.number c.loop.counter h now.0 now.2 less w before),
    )

pub returns-in_default-clause-answer : goal.returns-in_default-clause-answer
returns-in_default-clause-answer g c = λ w had text h before all at none.
    let i = c.loop.invariant in
    let now = i.passed had c.args.number h text at none in
    let is = c.in_ok-read.ensures.read in
    let line = c.read.new.self.line.items in
    let less : c.loop.counter < h.limits.events = omega (arith, c.loop-test.true, all) in
    subst (λ n. IsNoWindow w had (g.S.Source.remaining c.read.new.input) (g.S.Source.failed c.read.new.input) (BadPart n Cut))
    (sym c.from.ensures)
    (line_missing had (g.S.Source.remaining c.read.new.input) (g.S.Source.failed c.read.new.input) now.0 line
    (pending c.read.new.self)
    (taken_on had (g.S.Source.remaining c.loop.input) (g.S.Source.remaining c.read.new.input) now.0 (pending c.loop.lines)
    (pending c.read.new.self) line now.1 is.0) is.1 is.2 c.args.number c.loop.counter h now.2 w before less
    (subst HasNoLineFeed c.line.ensures (rw c.in_default.is at c.line_feed_in.ensures.none)))

pub loop-preserved : goal.loop-preserved
loop-preserved g c =
    let i = c.loop.invariant in
    let is = c.in_ok-read.ensures.read in
    let line = c.read.new.self.line.items in
    let ends = rw c.in-Some.is at c.line_feed_in.ensures.some in
    record {
      same_reference = c.read.ensures.same_reference ∙ i.same_reference;
      noted = is.2;
      within = omega (arith, c.loop-test.true);
      passed = λ had number h text at none.
          let now = i.passed had number h text at none in
          let at = taken_on had (g.S.Source.remaining c.loop.input) (g.S.Source.remaining c.read.new.input) now.0
          (pending c.loop.lines) (pending c.read.new.self) line now.1 is.0 in (
            now.0 ++ line,
            at,
            line_skipped had (g.S.Source.remaining c.read.new.input) (g.S.Source.failed c.read.new.input) now.0 line
                (pending c.read.new.self) at is.1 is.2 number c.loop.counter h now.2
                (subst HasLineFeed c.line.ensures (_, _, ends)),
          );
    }

pub returns-clause-answer : goal.returns-clause-answer
returns-clause-answer g c = λ w had text h before all at none.
    let i = c.loop.invariant in
    let now = i.passed had c.args.number h text at none in
    let within = i.within in
    (i.noted, (now.0, now.1, skipping_all c.args.number c.loop.counter h now.0 (omega (arith, all, within, c.loop-test.false)) now.2))
