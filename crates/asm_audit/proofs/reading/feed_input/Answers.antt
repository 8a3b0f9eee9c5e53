use Rattle.std.proofs.Common.{◌<◌, length, take, Ok, Err, ap, subst, ◌∙◌, rules}
use Rattle.std.proofs.lemmas.Result.{err_from_is_err_and}
use Rattle.asm_audit.specs.Audited.{IsInputVerdict}
use Rattle.asm_audit.specs.Fed.{IsFedAnswer, IsFedEnd}
use Rattle.asm_audit.proofs.Through.{IsReadTo, where_known, read_chunk, chunk_fed, chunk_fault, all_fed}
use Rattle.asm_audit.proofs.reading.feed_input.Goals as goal

pub returns-in_err-finish : goal.returns-in_err-finish
returns-in_err-finish g c =
    let r = err_from_is_err_and c.from_residual.result c.from_residual.ensures.1 in
    let l = c.chunks in
    let part = (g.A.Aggregator.meaning c.args.auditor.now.auditor.aggregator).part in
    let same = ap (λ a. (g.A.Aggregator.meaning a).part) l.invariant.0 in
    let p = l.auditor.auditor.progress in
    let line = l.auditor.line.items in
    let old = g.R.Read.remaining l.input in
    let left = g.R.Read.remaining c.read.new.self in
    let buffer = c.read.new.buf in
    let some : 0 < length buffer = search rules in
    let e = c.in_err-finish.field-0.0 in
    let answer = subst (λ q. IsFedEnd q p line (Err e)) same c.in_err-finish.ensures.answer in
    where_known (g.R.Read.remaining c.args.input.now) (λ text. IsReadTo part text p line old)
    (λ text. IsInputVerdict part text c.from_residual.result)
    (λ text read.
    let chunk = read_chunk part text p line (take c.in-Ok.count buffer) old left read c.in-Ok.ensures.bytes.0 in
    rw (r.1, r.2) (answer text (all_fed part text p line buffer left c.in-Ok.count c.if-count-eq0.true chunk
    (c.in-Ok.ensures.bytes.1 c.if-count-eq0.true some))))
    l.invariant.1

pub returns-then-count-eq0 : goal.returns-then-count-eq0
returns-then-count-eq0 g c =
    let l = c.chunks in
    let part = (g.A.Aggregator.meaning c.args.auditor.now.auditor.aggregator).part in
    let same = ap (λ a. (g.A.Aggregator.meaning a).part) l.invariant.0 in
    let p = l.auditor.auditor.progress in
    let line = l.auditor.line.items in
    let old = g.R.Read.remaining l.input in
    let left = g.R.Read.remaining c.read.new.self in
    let buffer = c.read.new.buf in
    let some : 0 < length buffer = search rules in
    let w = c.in_ok-finish.field-0 in
    let answer = subst (λ q. IsFedEnd q p line (Ok w)) same c.in_ok-finish.ensures.answer in
    where_known (g.R.Read.remaining c.args.input.now) (λ text. IsReadTo part text p line old)
    (λ text. IsInputVerdict part text (Ok w))
    (λ text read.
    let chunk = read_chunk part text p line (take c.in-Ok.count buffer) old left read c.in-Ok.ensures.bytes.0 in
    answer text (all_fed part text p line buffer left c.in-Ok.count c.if-count-eq0.true chunk
    (c.in-Ok.ensures.bytes.1 c.if-count-eq0.true some)))
    l.invariant.1

pub returns-in_err-feed : goal.returns-in_err-feed
returns-in_err-feed g c =
    let r = err_from_is_err_and c.from_residual-in_err-feed.result c.from_residual-in_err-feed.ensures.1 in
    let l = c.chunks in
    let part = (g.A.Aggregator.meaning c.args.auditor.now.auditor.aggregator).part in
    let same = ap (λ a. (g.A.Aggregator.meaning a).part) l.invariant.0 in
    let p = l.auditor.auditor.progress in
    let line = l.auditor.line.items in
    let new = c.feed.new.self in
    let old = g.R.Read.remaining l.input in
    let left = g.R.Read.remaining c.read.new.self in
    let bytes = take c.in-Ok.count c.read.new.buf in
    let e = c.in_err-feed.field-0.0 in
    let answer = subst (λ q. IsFedAnswer q bytes p line new.auditor.progress new.line.items (Err e)) same c.in_err-feed.ensures.answer in
    where_known (g.R.Read.remaining c.args.input.now) (λ text. IsReadTo part text p line old)
    (λ text. IsInputVerdict part text c.from_residual-in_err-feed.result)
    (λ text read.
    let chunk = read_chunk part text p line bytes old left read c.in-Ok.ensures.bytes.0 in
    rw (r.1, r.2) (chunk_fault part text p new.auditor.progress line new.line.items bytes left e chunk answer))
    l.invariant.1

pub chunks-preserved : goal.chunks-preserved
chunks-preserved g c =
    let l = c.chunks in
    let part = (g.A.Aggregator.meaning c.args.auditor.now.auditor.aggregator).part in
    let same = ap (λ a. (g.A.Aggregator.meaning a).part) l.invariant.0 in
    let p = l.auditor.auditor.progress in
    let line = l.auditor.line.items in
    let new = c.feed.new.self in
    let old = g.R.Read.remaining l.input in
    let left = g.R.Read.remaining c.read.new.self in
    let bytes = take c.in-Ok.count c.read.new.buf in
    let answer = subst (λ q. IsFedAnswer q bytes p line new.auditor.progress new.line.items (Ok tt)) same c.in_ok-feed.ensures.answer in (
      c.feed.ensures.aggregator ∙ l.invariant.0,
      where_known (g.R.Read.remaining c.args.input.now) (λ text. IsReadTo part text p line old) _
          (λ text read.
          let chunk = read_chunk part text p line bytes old left read c.in-Ok.ensures.bytes.0 in
          chunk_fed part text p new.auditor.progress line new.line.items bytes left chunk answer)
          l.invariant.1,
    )
