use Rattle.std.proofs.Common.{◌≡◌, ◌-◌, ◌++◌, [], length, string_bytes, ap, sym, subst, ◌∙◌, length-append, arith}
use Rattle.std.proofs.lemmas.Result.{err_from_is_err_and}
use Rattle.serde_json.specs.Data.{Data}
use Rattle.serde_json.specs.Written.{has_float}
use Rattle.asm_journal.specs.Text.{line}
use Rattle.asm_storage.specs.History.{fired_moves}
use Rattle.asm_journal.specs.declared.parsing.Limits.{Limits}
use Rattle.asm_audit.specs.PartAuditor.{history_of}
use Rattle.asm_trace.specs.Text.{notes_text}
use Rattle.asm_driver.specs.Lines.{pending}
use Rattle.asm_driver.specs.Window.{end_in, LiesIn, window_header}
use Rattle.asm_driver.proofs.Windows.{few_calls, memory_window, part_held, window_no_float, window_shown}
use Rattle.asm_driver.proofs.program.windowing.window_text.Goals as goal

pub returns-in_default-clause-err : goal.returns-in_default-clause-err
returns-in_default-clause-err g c =
    let ok = c.in_ok-opened.ensures.ok in
    let o = ok.2 in
    few_calls c.args.window (g.S.Source.remaining c.args.input.now) (g.S.Source.remaining c.find_part.new.input)
    (g.S.Source.failed c.find_part.new.input) o.0 o.1 (pending c.find_part.new.lines) c.in_ok-opened.opened o.2 o.4 o.5 o.6 o.3
    ok.0 (rw c.in_default.is at c.end_of.ensures.none)

pub returns-in_err-pass-clause-err : goal.returns-in_err-pass-clause-err
returns-in_err-pass-clause-err g c =
    let r = err_from_is_err_and c.from_residual-in_err-pass.result c.from_residual-in_err-pass.ensures.1 in
    let w = c.args.window in
    let had = g.S.Source.remaining c.args.input.now in
    let o = c.in_ok-opened.ensures.ok.2 in
    let some = rw c.in-Some.is at c.end_of.ensures.some in
    rw (r.1, r.2) (c.in_err-pass.ensures.reported w had (o.0 ++ o.1) o.2 some.1.0 o.3 o.6)

pub returns-in_err-header-clause-err : goal.returns-in_err-header-clause-err
returns-in_err-header-clause-err g c =
    let r = err_from_is_err_and c.from_residual-in_err-header.result c.from_residual-in_err-header.ensures.1 in
    let w = c.args.window in
    let had = g.S.Source.remaining c.args.input.now in
    let o = c.in_ok-opened.ensures.ok.2 in
    let some = rw c.in-Some.is at c.end_of.ensures.some in
    let passed = c.in_ok-pass.ensures.reported w had (o.0 ++ o.1) o.2 some.1.0 o.3 o.6 in
    let read = passed.1.3 in
    rw (r.1, r.2) (memory_window w had (g.S.Source.remaining c.pass.new.input) (g.S.Source.failed c.pass.new.input)
    (passed.1.0 ++ pending c.pass.new.lines) passed.1.2 passed.0)

pub push_line-requires : goal.push_line-requires
push_line-requires g c =
    let w = c.args.window in
    let had = g.S.Source.remaining c.args.input.now in
    let o = c.in_ok-opened.ensures.ok.2 in
    let some = rw c.in-Some.is at c.end_of.ensures.some in
    let passed = c.in_ok-pass.ensures.reported w had (o.0 ++ o.1) o.2 some.1.0 o.3 o.6 in
    let read = passed.1.3 in
    let held = part_held w.part passed.1.0 c.pass.new.opened o.2 passed.1.1 read in
    ap has_float (c.in_ok-header.ensures o.2 passed.1.1 [] held read.taken read.stands)
    ∙ window_no_float c.pass.new.opened.limits.agents c.pass.new.opened.limits.capacity (c.in-Some.end - w.from)
    (length passed.1.1) _ (length (fired_moves passed.1.1)) c.pass.new.opened.number

pub returns-in_err-push_line-clause-err : goal.returns-in_err-push_line-clause-err
returns-in_err-push_line-clause-err g c =
    let r = err_from_is_err_and c.from_residual-in_err-push_line.result c.from_residual-in_err-push_line.ensures.1 in
    let w = c.args.window in
    let had = g.S.Source.remaining c.args.input.now in
    let o = c.in_ok-opened.ensures.ok.2 in
    let some = rw c.in-Some.is at c.end_of.ensures.some in
    let passed = c.in_ok-pass.ensures.reported w had (o.0 ++ o.1) o.2 some.1.0 o.3 o.6 in
    let read = passed.1.3 in
    rw (r.1, r.2) (memory_window w had (g.S.Source.remaining c.pass.new.input) (g.S.Source.failed c.pass.new.input)
    (passed.1.0 ++ pending c.pass.new.lines) passed.1.2 passed.0)

pub note_calls-requires-clause-known : goal.note_calls-requires-clause-known
note_calls-requires-clause-known g c =
    let w = c.args.window in
    let had = g.S.Source.remaining c.args.input.now in
    let o = c.in_ok-opened.ensures.ok.2 in
    let some = rw c.in-Some.is at c.end_of.ensures.some in
    let passed = c.in_ok-pass.ensures.reported w had (o.0 ++ o.1) o.2 some.1.0 o.3 o.6 in
    let read = passed.1.3 in
    (w.part, passed.1.0, o.2, passed.1.1, read)

pub returns-in_err-note_calls-clause-err : goal.returns-in_err-note_calls-clause-err
returns-in_err-note_calls-clause-err g c =
    let r = err_from_is_err_and c.from_residual-in_err-note_calls.result c.from_residual-in_err-note_calls.ensures.1 in
    let w = c.args.window in
    let had = g.S.Source.remaining c.args.input.now in
    let o = c.in_ok-opened.ensures.ok.2 in
    let some = rw c.in-Some.is at c.end_of.ensures.some in
    let passed = c.in_ok-pass.ensures.reported w had (o.0 ++ o.1) o.2 some.1.0 o.3 o.6 in
    let read = passed.1.3 in
    let end = subst (λ (l : Limits). c.in-Some.end ≡ end_in w l.events) (sym c.in_ok-pass.ensures.limits) some.0 in
    rw (r.1, r.2) (c.in_err-note_calls.ensures.reported w had passed.1.0 o.2 passed.1.1
    end passed.1.2 read)

pub returns-clause-ok : goal.returns-clause-ok
returns-clause-ok g c =
    let w = c.args.window in
    let had = g.S.Source.remaining c.args.input.now in
    let o = c.in_ok-opened.ensures.ok.2 in
    let some = rw c.in-Some.is at c.end_of.ensures.some in
    let passed = c.in_ok-pass.ensures.reported w had (o.0 ++ o.1) o.2 some.1.0 o.3 o.6 in
    let read = passed.1.3 in
    let held = part_held w.part passed.1.0 c.pass.new.opened o.2 passed.1.1 read in
    let es = passed.1.1 in
    let end = subst (λ (l : Limits). c.in-Some.end ≡ end_in w l.events) (sym c.in_ok-pass.ensures.limits) some.0 in
    let reported = c.in_ok-note_calls.ensures.reported w had passed.1.0 o.2 es end passed.1.2 read in
    let t = reported.1 in
    let shown = t.1 in
    let last = c.note_calls.new.opened.limits in
    let limits = c.in_ok-note_calls.ensures.limits in
    let all = limits ∙ c.in_ok-pass.ensures.limits in
    let lies = subst (λ (l : Limits). LiesIn w l.events) (sym all) some.1 in
    let closed = subst (λ (l : Limits). c.in-Some.end ≡ end_in w l.events) (sym all) some.0 in
    let first : length es ≡ w.from = passed.1.4 in
    let long : length (es ++ shown) ≡ c.in-Some.end = t.5 in
    let count : c.in-Some.end - w.from ≡ length shown = omega (arith, long, length-append es shown, first) in
    let header = c.in_ok-header.ensures o.2 es (es ++ shown) held read.taken read.stands
    ∙ ap (λ n. window_header n (history_of c.pass.new.opened.limits o.2 (es ++ shown)) es (c.in-Some.end - w.from)) read.known
    ∙ ap (λ (l : Limits). window_header w.part (history_of l o.2 (es ++ shown)) es (c.in-Some.end - w.from)) (sym limits)
    ∙ ap (λ k. window_header w.part (history_of last o.2 (es ++ shown)) es k) count in
    let D = window_header w.part (history_of last o.2 (es ++ shown)) es (length shown) in
    let text = t.7 ∙ ap (λ b. b ++ notes_text t.2) (c.in_ok-push_line.ensures
    ∙ ap (λ (d : Data). string_bytes c.new-text.result ++ line d) header
    ∙ ap (λ b. b ++ line D) c.new-text.ensures.bytes) in
    window_shown w had (g.S.Source.remaining c.note_calls.new.input) (g.S.Source.failed c.note_calls.new.input) t.0
    (pending c.note_calls.new.lines) c.note_calls.new.opened o.2 es shown t.2 (string_bytes c.note_calls.new.text) t.3
    reported.0 t.4 lies first (long ∙ closed) t.6 text
