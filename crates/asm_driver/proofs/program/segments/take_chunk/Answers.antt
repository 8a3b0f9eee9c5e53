use Rattle.std.proofs.Common.{string_bytes, refl, sym}
use Rattle.std.proofs.KnownBytes.{Appends-nil}
use Rattle.std.proofs.lemmas.Result.{err_from_is_err_and}
use Rattle.asm_driver.proofs.Foldering.{chunk_written, chunk_cut}
use Rattle.asm_driver.proofs.program.segments.take_chunk.Goals as goal

pub returns-in_err-take_lines-clause-taken : goal.returns-in_err-take_lines-clause-taken
returns-in_err-take_lines-clause-taken g c =
    let r = err_from_is_err_and c.from_residual.result c.from_residual.ensures.1 in
    rw (r.1, r.2) (refl, Appends-nil (g.K.Sink.contents c.args.output.now))

pub returns-in_err-write_lines-clause-taken : goal.returns-in_err-write_lines-clause-taken
returns-in_err-write_lines-clause-taken g c =
    let r = err_from_is_err_and c.from_residual-in_err-write_lines.result c.from_residual-in_err-write_lines.ensures.1 in
    let t = c.take_lines in
    rw (r.1, r.2) (chunk_cut c.args.every c.args.reader.now t.new.reader c.args.bytes.now _ (string_bytes t.new.lines) _
    (g.K.Sink.contents c.args.output.now) (g.K.Sink.contents c.write_lines.new.output) c.new-lines.ensures.bytes
    c.as_str.ensures.value c.in_ok-take_lines.ensures.taken c.in_err-write_lines.ensures.err)

pub returns-clause-taken : goal.returns-clause-taken
returns-clause-taken g c =
    let t = c.take_lines in
    chunk_written c.args.every c.args.reader.now t.new.reader c.args.bytes.now _ (string_bytes t.new.lines) _
    (g.K.Sink.contents c.args.output.now) (g.K.Sink.contents c.write_lines.new.output) c.new-lines.ensures.bytes
    c.as_str.ensures.value c.in_ok-take_lines.ensures.taken c.in_ok-write_lines.ensures.ok
