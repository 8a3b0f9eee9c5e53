use Rattle.std.proofs.Common.{◌≤◌, ◌<◌, length, ap, arith, ◌∙◌}
use Rattle.std.proofs.lemmas.Result.{err_from_is_err_and}
use Rattle.asm_audit.specs.Limits.{line_limit}
use Rattle.asm_driver.proofs.BytesTaken.{line_ended, too_many, kept_on, unread, unkept}
use Rattle.asm_driver.proofs.ports.line_reader.LineReader.read.Goals as goal

pub returns-in_err-byte-clause-read : goal.returns-in_err-byte-clause-read
returns-in_err-byte-clause-read g c =
    let r = err_from_is_err_and c.from_residual.result c.from_residual.ensures.1 in
    let i = c.bytes.invariant in
    rw (r.1, r.2) (unread _ _ _ _ _ _ _ _ i.taken i.open_line c.next_byte.new.self.line.items c.in_err-byte.field-0.0
    c.in_err-byte.ensures.next)

pub returns-then-byte-eq10-clause-read : goal.returns-then-byte-eq10-clause-read
returns-then-byte-eq10-clause-read g c =
    let i = c.bytes.invariant in
    line_ended _ _ _ _ _ _ _ _ i.taken i.open_line c.in-Some-2.byte _ c.next_byte.new.self.line.items
    c.keep.new.self.line.items c.keep.result c.if-byte-eq10.true (rw c.in-Some-2.is at c.in_ok-byte.ensures.next)
    (ap (λ l. l.items) c.next_byte.ensures.line) c.keep.ensures.kept c.keep.ensures.err c.keep.ensures.pending

pub returns-then-len-ge-LINE_LIMIT-clause-read : goal.returns-then-len-ge-LINE_LIMIT-clause-read
returns-then-len-ge-LINE_LIMIT-clause-read g c =
    let i = c.bytes.invariant in
    let here = c.next_byte.new.self.line.items in
    let full : line_limit ≤ length here = omega (arith, c.if-len-ge-LINE_LIMIT.true, c.len.ensures) in
    too_many _ _ _ _ _ _ _ _ i.taken i.open_line c.in-Some-2.byte here c.if-byte-eq10.false full
    (ap (λ l. l.items) c.next_byte.ensures.line) (rw c.in-Some-2.is at c.in_ok-byte.ensures.next)

pub bytes-preserved : goal.bytes-preserved
bytes-preserved g c =
    let i = c.bytes.invariant in
    let here = c.next_byte.new.self.line.items in
    let less : length here < line_limit = omega (arith, c.if-len-ge-LINE_LIMIT.false, c.len.ensures) in
    let kept = kept_on _ _ _ _ _ _ _ _ i.taken i.open_line c.in-Some-2.byte _ here c.keep-in-bytes.new.self.line.items
    c.if-byte-eq10.false less (ap (λ l. l.items) c.next_byte.ensures.line) (rw c.in-Some-2.is at c.in_ok-byte.ensures.next)
    c.in_ok-keep.ensures.kept c.keep-in-bytes.ensures.pending in
    record {
      same_reference = c.next_byte.ensures.same_reference ∙ i.same_reference;
      noted = kept.3;
      taken = kept.0;
      open_line = kept.1;
      short = kept.2;
    }

pub returns-in_err-keep-clause-read : goal.returns-in_err-keep-clause-read
returns-in_err-keep-clause-read g c =
    let r = err_from_is_err_and c.from_residual-in_err-keep.result c.from_residual-in_err-keep.ensures.1 in
    let i = c.bytes.invariant in
    rw (r.1, r.2) (unkept _ _ _ _ _ _ _ _ i.taken i.open_line c.in-Some-2.byte _ c.keep-in-bytes.new.self.line.items
    c.in_err-keep.field-0.0 (rw c.in-Some-2.is at c.in_ok-byte.ensures.next) c.in_err-keep.ensures.err)
