use Rattle.std.proofs.Common.{◌<◌, length, take, Ok, Err, refl, ap, subst, ◌∙◌, rules}
use Rattle.std.proofs.lemmas.Result.{err_from_is_err_and}
use Rattle.asm_update.specs.Aggregator.{Meaning}
use Rattle.asm_audit.specs.Fed.{IsFedEnd}
use Rattle.asm_driver.proofs.Watching.{watched_none, end_unread, end_all, end_fault, chunk_on, chunk_stopped}
use Rattle.asm_driver.proofs.program.watching.watch_all.Goals as goal

pub chunks-init : goal.chunks-init
chunks-init g c = record {
  same_aggregator = refl;
  same_input = refl;
  same_output = refl;
  read = c.requires.unread;
  written = c.requires.unwritten;
  watched = watched_none c.args.every _ _ _ _ c.requires.fed;
}

pub returns-in-Err-clause-reported : goal.returns-in-Err-clause-reported
returns-in-Err-clause-reported g c =
    let l = c.chunks in
    end_unread c.args.every _ _ _ _ l.auditor.auditor.progress l.auditor.line.items l.invariant.watched
    (g.S.Source.remaining c.read.new.self) (g.S.Source.failed c.read.new.self) c.in-Err.ensures.bytes c.in-Err.ensures.noted

pub returns-in_err-finish-clause-reported : goal.returns-in_err-finish-clause-reported
returns-in_err-finish-clause-reported g c =
    let r = err_from_is_err_and c.from_residual.result c.from_residual.ensures.1 in
    let l = c.chunks in
    let i = l.invariant in
    let same = ap (λ a. g.A.Aggregator.meaning a) i.same_aggregator ∙ c.requires.meaning in
    let p = l.auditor.auditor.progress in
    let line = l.auditor.line.items in
    let some : 0 < length c.read.new.buffer = search rules in
    let e = c.in_err-finish.field-0.0 in
    let reported = subst (λ (m : Meaning). IsFedEnd m.part p line (Err e)) same c.in_err-finish.ensures.answer in
    rw (r.1, r.2) (end_fault c.args.every _ _ _ _ p line i.watched (g.S.Source.remaining c.read.new.self)
    c.read.new.buffer c.in-Ok.count (g.S.Source.failed c.read.new.self) c.if-count-eq0.true c.in-Ok.ensures.bytes.0
    (c.in-Ok.ensures.bytes.1 c.if-count-eq0.true some) c.in-Ok.ensures.noted e reported)

pub returns-then-count-eq0-clause-reported : goal.returns-then-count-eq0-clause-reported
returns-then-count-eq0-clause-reported g c =
    let l = c.chunks in
    let i = l.invariant in
    let same = ap (λ a. g.A.Aggregator.meaning a) i.same_aggregator ∙ c.requires.meaning in
    let p = l.auditor.auditor.progress in
    let line = l.auditor.line.items in
    let some : 0 < length c.read.new.buffer = search rules in
    let w = c.in_ok-finish.field-0 in
    let reported = subst (λ (m : Meaning). IsFedEnd m.part p line (Ok w)) same c.in_ok-finish.ensures.answer in
    end_all c.args.every _ _ _ _ p line i.watched (g.S.Source.remaining c.read.new.self)
    c.read.new.buffer c.in-Ok.count (g.S.Source.failed c.read.new.self) c.if-count-eq0.true c.in-Ok.ensures.bytes.0
    (c.in-Ok.ensures.bytes.1 c.if-count-eq0.true some) c.in-Ok.ensures.noted w reported

pub returns-in_err-watch_bytes-clause-reported : goal.returns-in_err-watch_bytes-clause-reported
returns-in_err-watch_bytes-clause-reported g c =
    let r = err_from_is_err_and c.from_residual-in_err-watch_bytes.result c.from_residual-in_err-watch_bytes.ensures.1 in
    let l = c.chunks in
    let w = l.invariant.watched in
    let new = c.watch_bytes.new.auditor in
    let e = c.in_err-watch_bytes.field-0.0 in
    rw (r.1, r.2) (chunk_stopped c.args.every _ _ _ _ l.auditor.auditor.progress l.auditor.line.items w
    (g.S.Source.remaining c.read.new.self) (g.K.Sink.contents c.watch_bytes.new.output) new.auditor.progress new.line.items
    (take c.in-Ok.count c.read.new.buffer) (g.S.Source.failed c.read.new.self) c.in-Ok.ensures.bytes.0 c.in-Ok.ensures.noted e
    (c.in_err-watch_bytes.ensures.reported w.bytes w.reported w.watched))

pub chunks-preserved : goal.chunks-preserved
chunks-preserved g c =
    let l = c.chunks in
    let i = l.invariant in
    let w = i.watched in
    let new = c.watch_bytes.new.auditor in
    record {
      same_aggregator = c.watch_bytes.ensures.aggregator ∙ i.same_aggregator;
      same_input = c.in-Ok.ensures.same_reference ∙ i.same_input;
      same_output = c.watch_bytes.ensures.same_reference ∙ i.same_output;
      read = c.in-Ok.ensures.noted;
      written = c.in_ok-watch_bytes.ensures.noted;
      watched = chunk_on c.args.every _ _ _ _ l.auditor.auditor.progress l.auditor.line.items w
          (g.S.Source.remaining c.read.new.self) (g.K.Sink.contents c.watch_bytes.new.output) new.auditor.progress
          new.line.items (take c.in-Ok.count c.read.new.buffer) (g.S.Source.failed c.read.new.self) c.in-Ok.ensures.bytes.0
          c.in-Ok.ensures.noted (c.in_ok-watch_bytes.ensures.reported w.bytes w.reported w.watched);
    }
