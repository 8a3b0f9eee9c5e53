use Rattle.std.proofs.Common.{◌≡◌, ◌<◌, ◌++◌, [], ℕ, List, length, get_or, take, string_bytes, sym, ap, subst, ◌∙◌, append-nil}
use Rattle.std.proofs.lemmas.List.{take_all}
use Rattle.serde_json.specs.Data.{Data}
use Rattle.asm_state.specs.FollowsFrom.{FollowsFrom}
use Rattle.asm_storage.specs.declared.history.Event.{Event}
use Rattle.asm_journal.specs.Check.{machine_of}
use Rattle.asm_journal.specs.Text.{line}
use Rattle.asm_trace.specs.Note.{AreNotesOf}
use Rattle.asm_trace.specs.Text.{header_of}
use Rattle.asm_trace.proofs.Unchanged.{header_no_float}
use Rattle.asm_trace.proofs.Noted.{noted_to_more, few_followed}
use Rattle.asm_trace.proofs.tracing.traced.Goals as goal

pub push_line-requires : goal.push_line-requires
push_line-requires g c = rw c.in_ok-header_json.ensures (header_no_float c.args.history.now)

pub loop-index-init : goal.loop-index-init
loop-index-init g c =
    let part = (g.A.Aggregator.meaning c.args.aggregator.now).part in
    let front = line (header_of c.args.history.now) in
    let text : string_bytes c.push_line.new.text ≡ front ++ [] =
    c.in_ok-push_line.ensures
    ∙ ap (λ (d : Data). string_bytes c.new-text.result ++ line d) c.in_ok-header_json.ensures
    ∙ ap (λ (b : List ℕ). b ++ front) c.new-text.ensures.bytes
    ∙ sym (append-nil front) in
    (([], tt, text), subst (λ A. FollowsFrom part A c.in_ok-state.state []) c.in_ok-copy.ensures (c.in_ok-state.ensures part))

pub push_note-requires-clause-few : goal.push_note-requires-clause-few
push_note-requires-clause-few g c =
    let part = (g.A.Aggregator.meaning c.args.aggregator.now).part in
    let h = c.args.history.now in
    let l = c.loop-index in
    let same : c.as_slice-event-items.result.now ≡ h.events = c.as_slice-event-items.ensures in
    let within : l.index < length h.events = rw (← same) c.loop-index-test.true in
    few_followed part h l.state (string_bytes l.text) l.index l.invariant within c.requires.fits.few

pub loop-index-preserved : goal.loop-index-preserved
loop-index-preserved g c =
    let part = (g.A.Aggregator.meaning c.args.aggregator.now).part in
    let h = c.args.history.now in
    let l = c.loop-index in
    let e : Event = c.event-item.result in
    let same : c.as_slice-event-items.result.now ≡ h.events = c.as_slice-event-items.ensures in
    let within : l.index < length h.events = rw (← same) c.loop-index-test.true in
    let here : e ≡ get_or h.events l.index e = c.event-item.is ∙ ap (λ (xs : List Event). get_or xs l.index e) same in
    noted_to_more part h l.index e l.state c.push_note.new.state (string_bytes l.text) (string_bytes c.push_note.new.text)
    within here l.invariant c.in_ok-push_note.ensures

pub returns : goal.returns
returns g c =
    let part = (g.A.Aggregator.meaning c.args.aggregator.now).part in
    let h = c.args.history.now in
    let l = c.loop-index in
    let traced = l.invariant.0 in
    let same : c.as_slice-event-items.result.now ≡ h.events = c.as_slice-event-items.ensures in
    let all = take_all l.index c.as_slice-event-items.result.now c.loop-index-test.false in
    let whole : take l.index h.events ≡ h.events = subst (λ (es : List Event). take l.index es ≡ es) same all in
    (traced.0, subst (λ (es : List Event). AreNotesOf (machine_of part h) [] 0 es traced.0) whole traced.1, traced.2)
