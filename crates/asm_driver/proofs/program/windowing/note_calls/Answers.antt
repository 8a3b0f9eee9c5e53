use Rattle.std.proofs.Common.{◌≤◌, ◌+◌, ◌++◌, ◌∷◌, [], None, List, string_bytes, refl, ap, sym, subst, ◌∙◌, append_assoc, append-nil, arith}
use Rattle.std.proofs.lemmas.Result.{err_from_is_err_and}
use Rattle.asm_aggregate.specs.Standard.{standard_part}
use Rattle.asm_state.specs.FollowsFrom.{FollowsFrom}
use Rattle.asm_storage.specs.History.{fired_moves}
use Rattle.asm_storage.specs.declared.history.Event.{Event}
use Rattle.asm_journal.specs.declared.parsing.Limits.{Limits}
use Rattle.asm_driver.specs.Lines.{pending}
use Rattle.asm_driver.specs.Parts.{IsPartRead}
use Rattle.asm_driver.specs.Window.{end_in}
use Rattle.asm_driver.proofs.Windows.{AreNotedTo, noted_none, noted_more, few_followed, memory_window}
use Rattle.asm_driver.proofs.PartsRead.{event_refused_window}
use Rattle.asm_driver.proofs.program.windowing.note_calls.Goals as goal

pub returns-in_err-noted-clause-reported : goal.returns-in_err-noted-clause-reported
returns-in_err-noted-clause-reported g c = λ w had before A es end at read.
    let r = err_from_is_err_and c.from_residual.result c.from_residual.ensures.1 in
    rw (r.1, r.2) (memory_window w had (g.S.Source.remaining c.args.input.now) (g.S.Source.failed c.args.input.now)
    (before ++ pending c.args.lines.now) at c.requires.unread)

pub loop-call-init : goal.loop-call-init
loop-call-init g c = record {
  same_reference = refl;
  noted = c.requires.unread;
  limits = refl;
  taken = refl;
  within = c.requires.forward;
  read = λ part had before A es at read. (
    before,
    [],
    at,
    subst (λ (xs : List Event). IsPartRead part before c.args.opened.now A xs)
        (sym (append-nil es)) read,
    noted_none c.args.opened.now.limits.capacity A es c.in_ok-noted.noted (string_bytes c.args.text.now)
        (subst (λ s. FollowsFrom standard_part A s (fired_moves es)) (sym c.in_ok-noted.ensures) read.stands),
  );
}

pub returns-in_err-event-clause-reported : goal.returns-in_err-event-clause-reported
returns-in_err-event-clause-reported g c = λ w had before A es end at read.
    let r = err_from_is_err_and c.from_residual-in_err-event.result c.from_residual-in_err-event.ensures.1 in
    let i = c.loop-call.invariant in
    let o = c.loop-call.opened in
    let now = i.read w.part had before A es at read in
    let taken = i.taken in
    let most : c.args.end ≤ end_in w o.limits.events =
    subst (λ (l : Limits). c.args.end ≤ end_in w l.events) (sym i.limits) (omega (arith, end)) in
    rw (r.1, r.2) (event_refused_window w had (g.S.Source.remaining c.next_event.new.input)
    (g.S.Source.failed c.next_event.new.input) c.args.end now.0 (pending c.next_event.new.lines) o
    c.next_event.new.opened A (es ++ now.1) c.in_err-event.field-0.0 now.3 most
    (omega (arith, taken, c.loop-call-test.true))
    (c.in_err-event.ensures.reported w.part had now.0 A (es ++ now.1) now.2 now.3))

pub push_standard_note-requires : goal.push_standard_note-requires
push_standard_note-requires g c =
    let i = c.loop-call.invariant in
    let k = c.requires.known in
    let now = i.read k.0 None k.1 k.2 k.3 tt k.4 in
    let taken = i.taken in
    let long = now.3.taken in
    few_followed k.0 c.args.end c.args.end now.0 c.loop-call.opened k.2 (k.3 ++ now.1)
    c.loop-call.noted now.3 now.4.stands (omega (arith, taken, long, c.loop-call-test.true)) (omega (arith, c.ranges.end.fits))

pub returns-in_err-push_standard_note-clause-reported : goal.returns-in_err-push_standard_note-clause-reported
returns-in_err-push_standard_note-clause-reported g c = λ w had before A es end at read.
    let r = err_from_is_err_and c.from_residual-in_err-push_standard_note.result c.from_residual-in_err-push_standard_note.ensures.1 in
    let i = c.loop-call.invariant in
    let now = i.read w.part had before A es at read in
    let reported = c.in_ok-event.ensures.reported w.part had now.0 A (es ++ now.1) now.2 now.3 in
    rw (r.1, r.2) (memory_window w had (g.S.Source.remaining c.next_event.new.input) (g.S.Source.failed c.next_event.new.input)
    (reported.1.0 ++ pending c.next_event.new.lines) reported.1.1 reported.0)

pub loop-call-preserved : goal.loop-call-preserved
loop-call-preserved g c =
    let i = c.loop-call.invariant in
    let n = c.in_ok-event.ensures.next in
    let o = c.loop-call.opened in
    record {
      same_reference = c.next_event.ensures.same_reference ∙ i.same_reference;
      noted = c.in_ok-event.ensures.unread;
      limits = n.1 ∙ i.limits;
      taken = n.2 ∙ ap (λ k. k + 1) i.taken;
      within = omega (arith, c.loop-call-test.true);
      read = λ part had before A es at read.
          let now = i.read part had before A es at read in
          let e = c.in_ok-event.event in
          let reported = c.in_ok-event.ensures.reported part had now.0 A (es ++ now.1) now.2 now.3 in
          let taken = i.taken in (
            reported.1.0,
            now.1 ++ e ∷ [],
            reported.1.1,
            subst (λ (xs : List Event). IsPartRead part reported.1.0 c.next_event.new.opened A xs)
                (append_assoc es now.1 (e ∷ [])) reported.1.2,
            subst (λ (l : Limits). AreNotedTo l.capacity A es (now.1 ++ e ∷ []) c.push_standard_note.new.state (string_bytes c.args.text.now) (string_bytes c.push_standard_note.new.text))
                (sym (n.1 ∙ i.limits))
                (noted_more c.args.opened.now.limits.capacity A es now.1 e c.from.result c.loop-call.noted
                c.push_standard_note.new.state (string_bytes c.args.text.now) (string_bytes c.loop-call.text)
                (string_bytes c.push_standard_note.new.text)
                (subst (λ (l : Limits). AreNotedTo l.capacity A es now.1 c.loop-call.noted (string_bytes c.args.text.now) (string_bytes c.loop-call.text)) i.limits now.4)
                (c.from.ensures ∙ sym taken ∙ now.3.taken) c.in_ok-push_standard_note.ensures),
          );
    }

pub returns-clause-reported : goal.returns-clause-reported
returns-clause-reported g c = λ w had before A es end at read.
    let i = c.loop-call.invariant in
    let now = i.read w.part had before A es at read in
    let taken = i.taken in
    let within = i.within in
    let long = now.3.taken in (
      i.noted,
      (
        now.0,
        now.1,
        now.4.notes,
        now.2,
        now.3,
        omega (arith, taken, within, long, c.loop-call-test.false),
        now.4.are,
        now.4.text,
      ),
    )
