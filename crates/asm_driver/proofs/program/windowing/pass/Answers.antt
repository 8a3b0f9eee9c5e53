use Rattle.std.proofs.Common.{◌≤◌, ◌∷◌, ◌++◌, ◌+◌, [], ap, sym, subst, ◌∙◌, arith}
use Rattle.std.proofs.lemmas.Result.{err_from_is_err_and}
use Rattle.asm_journal.specs.declared.parsing.Limits.{Limits}
use Rattle.asm_driver.specs.Lines.{pending}
use Rattle.asm_driver.specs.Window.{end_in}
use Rattle.asm_driver.proofs.PartsRead.{event_refused_window}
use Rattle.asm_driver.proofs.program.windowing.pass.Goals as goal

pub returns-in_err-next_event-clause-reported : goal.returns-in_err-next_event-clause-reported
returns-in_err-next_event-clause-reported g c = λ w had text A most at read.
    let r = err_from_is_err_and c.from_residual.result c.from_residual.ensures.1 in
    let i = c.loop.invariant in
    let o = c.loop.opened in
    let now = i.read w.part had text A at read in
    let here = subst (λ (l : Limits). c.args.calls ≤ end_in w l.events) (sym i.limits) most in
    let taken = i.taken in
    rw (r.1, r.2) (event_refused_window w had (g.S.Source.remaining c.next_event.new.input)
    (g.S.Source.failed c.next_event.new.input) c.args.calls now.0 (pending c.next_event.new.lines) o
    c.next_event.new.opened A now.1 c.in_err-next_event.field-0.0 now.3 here (omega (arith, taken, c.loop-test.true))
    (c.in_err-next_event.ensures.reported w.part had now.0 A now.1 now.2 now.3))

pub loop-preserved : goal.loop-preserved
loop-preserved g c =
    let i = c.loop.invariant in
    let n = c.in_ok-next_event.ensures.next in
    record {
      same_reference = c.next_event.ensures.same_reference ∙ i.same_reference;
      noted = c.in_ok-next_event.ensures.unread;
      number = n.0 ∙ i.number;
      limits = n.1 ∙ i.limits;
      taken = n.2 ∙ ap (λ k. k + 1) i.taken;
      within = omega (arith, c.loop-test.true);
      read = λ part had text A at read.
          let now = i.read part had text A at read in
          let reported = c.in_ok-next_event.ensures.reported part had now.0 A now.1 now.2 now.3 in
          (reported.1.0, now.1 ++ c.in_ok-next_event.field-0 ∷ [], reported.1.1, reported.1.2);
    }

pub returns-clause-reported : goal.returns-clause-reported
returns-clause-reported g c = λ w had text A most at read.
    let i = c.loop.invariant in
    let now = i.read w.part had text A at read in
    let taken = i.taken in
    let within = i.within in
    let long = now.3.taken in
    (i.noted, (now.0, now.1, now.2, now.3, omega (arith, taken, within, long, c.loop-test.false)))
