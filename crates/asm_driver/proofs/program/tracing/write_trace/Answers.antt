use Rattle.std.proofs.Common.{◌≡◌, ◌<◌, ◌++◌, [], List, ℕ, length, get_or, take, string_bytes, refl, sym, ap, subst, ◌∙◌, inl, append-nil}
use Rattle.std.proofs.lemmas.List.{take_all}
use Rattle.std.proofs.lemmas.Result.{err_from_is_err_and}
use Rattle.std.proofs.KnownBytes.{Appends-nil}
use Rattle.std.specs.Io.KnownBytes.{Appends}
use Rattle.asm_aggregate.specs.Standard.{standard_part}
use Rattle.asm_journal.specs.Text.{line}
use Rattle.asm_storage.specs.declared.history.Event.{Event}
use Rattle.asm_trace.specs.Text.{header_of}
use Rattle.asm_trace.proofs.Noted.{few_followed}
use Rattle.asm_driver.specs.Ports.{AppendsSome}
use Rattle.asm_driver.proofs.Tracing.{nothing_out, traced_more, traced_on, traced_stopped, traced_cut, traced_to_end}
use Rattle.asm_driver.proofs.program.tracing.write_trace.Goals as goal

pub returns-in_err-state-clause-err : goal.returns-in_err-state-clause-err
returns-in_err-state-clause-err g c =
    let r = err_from_is_err_and c.from_residual.result c.from_residual.ensures.1 in
    rw (r.1, r.2) (nothing_out c.args.history.now (g.K.Sink.contents c.args.output.now))

pub loop-index-init : goal.loop-index-init
loop-index-init g c =
    let front = line (header_of c.args.history.now) in
    let text : string_bytes c.begin.new.text ≡ front ++ [] =
    c.in_ok-state.ensures.header ∙ ap (λ (b : List ℕ). b ++ front) c.new-text.ensures.bytes ∙ sym (append-nil front) in
    record {
      same_reference = refl;
      unfailed = c.requires.unwritten;
      traced = record {
        out = [];
        begun = inl refl;
        appended = Appends-nil (g.K.Sink.contents c.args.output.now);
        noted = (([], tt, text), c.in_ok-state.ensures.state);
      };
    }

pub returns-in_err-pass_on-clause-err : goal.returns-in_err-pass_on-clause-err
returns-in_err-pass_on-clause-err g c =
    let r = err_from_is_err_and c.from_residual-in_err-pass_on.result c.from_residual-in_err-pass_on.ensures.1 in
    let l = c.loop-index in
    rw (r.1, r.2) (traced_cut c.args.history.now l.state (g.K.Sink.contents c.args.output.now) (g.K.Sink.contents l.output)
    (string_bytes l.text) l.index l.invariant.traced (g.K.Sink.contents c.pass_on.new.output) c.in_err-pass_on.ensures.err)

pub push_standard_note-requires : goal.push_standard_note-requires
push_standard_note-requires g c =
    let h = c.args.history.now in
    let l = c.loop-index in
    let w = l.invariant.traced in
    let within : l.index < length h.events = rw (← c.as_slice-event-items.ensures) c.loop-index-test.true in
    few_followed standard_part h l.state (w.out ++ string_bytes l.text) l.index w.noted within c.requires.fits.few

pub returns-in_err-push_standard_note-clause-err : goal.returns-in_err-push_standard_note-clause-err
returns-in_err-push_standard_note-clause-err g c =
    let r = err_from_is_err_and c.from_residual-in_err-push_standard_note.result c.from_residual-in_err-push_standard_note.ensures.1 in
    let h = c.args.history.now in
    let l = c.loop-index in
    let held = g.K.Sink.contents c.args.output.now in
    let mid = g.K.Sink.contents l.output in
    let holds = g.K.Sink.contents c.pass_on.new.output in
    let left = string_bytes c.pass_on.new.text in
    rw (r.1, r.2) (traced_stopped h l.state held holds left l.index
    (traced_on h l.state held mid (string_bytes l.text) l.index l.invariant.traced holds left c.in_ok-pass_on.ensures.ok))

pub loop-index-preserved : goal.loop-index-preserved
loop-index-preserved g c =
    let h = c.args.history.now in
    let l = c.loop-index in
    let held = g.K.Sink.contents c.args.output.now in
    let mid = g.K.Sink.contents l.output in
    let holds = g.K.Sink.contents c.pass_on.new.output in
    let left = string_bytes c.pass_on.new.text in
    let e : Event = c.event-item.result in
    let same : c.as_slice-event-items.result.now ≡ h.events = c.as_slice-event-items.ensures in
    let within : l.index < length h.events = rw (← same) c.loop-index-test.true in
    let here : e ≡ get_or h.events l.index e = c.event-item.is ∙ ap (λ (xs : List Event). get_or xs l.index e) same in
    record {
      same_reference = c.pass_on.ensures.same_reference ∙ l.invariant.same_reference;
      unfailed = c.in_ok-pass_on.ensures.noted;
      traced = traced_more h l.state held holds left l.index
          (traced_on h l.state held mid (string_bytes l.text) l.index l.invariant.traced holds left c.in_ok-pass_on.ensures.ok)
          c.push_standard_note.new.state (string_bytes c.push_standard_note.new.text) e within here
          c.in_ok-push_standard_note.ensures;
    }

pub returns-in_err-write_whole-clause-err : goal.returns-in_err-write_whole-clause-err
returns-in_err-write_whole-clause-err g c =
    let r = err_from_is_err_and c.from_residual-in_err-write_whole.result c.from_residual-in_err-write_whole.ensures.1 in
    let l = c.loop-index in
    let held = g.K.Sink.contents c.args.output.now in
    let mid = g.K.Sink.contents l.output in
    let holds = g.K.Sink.contents c.write_whole.new.output in
    rw (r.1, r.2) (traced_cut c.args.history.now l.state held mid (string_bytes l.text) l.index l.invariant.traced holds
    (subst (λ (t : List ℕ). AppendsSome mid holds t) c.as_bytes.ensures.value c.in_err-write_whole.ensures.err))

pub returns-clause-ok : goal.returns-clause-ok
returns-clause-ok g c =
    let h = c.args.history.now in
    let l = c.loop-index in
    let held = g.K.Sink.contents c.args.output.now in
    let mid = g.K.Sink.contents l.output in
    let holds = g.K.Sink.contents c.write_whole.new.output in
    let same : c.as_slice-event-items.result.now ≡ h.events = c.as_slice-event-items.ensures in
    let all = take_all l.index c.as_slice-event-items.result.now c.loop-index-test.false in
    traced_to_end h l.state held mid (string_bytes l.text) l.index l.invariant.traced holds
    (subst (λ (es : List Event). take l.index es ≡ es) same all)
    (subst (λ (t : List ℕ). Appends mid holds t) c.as_bytes.ensures.value c.in_ok-write_whole.ensures.ok)
