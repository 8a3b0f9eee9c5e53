use Rattle.std.proofs.Common.{◌<◌, length, take, refl, ap, ◌∙◌, rules}
use Rattle.std.proofs.lemmas.Result.{err_from_is_err_and}
use Rattle.asm_driver.proofs.Foldering.{file_none, file_unread, file_end, file_on, file_stopped}
use Rattle.asm_driver.proofs.program.segments.take_file.Goals as goal

pub chunks-init : goal.chunks-init
chunks-init g c = record {
  same_aggregator = refl;
  same_files = refl;
  same_output = refl;
  read = c.requires.unread;
  written = c.requires.unwritten;
  taken = file_none c.args.every c.args.reader.now _ _;
}

pub returns-in-Err-clause-taken : goal.returns-in-Err-clause-taken
returns-in-Err-clause-taken g c =
    let l = c.chunks in
    file_unread c.args.every _ _ _ _ _ _ l.invariant.taken (g.F.Folder.remaining c.read.new.self)
    (g.F.Folder.failed c.read.new.self) c.in-Err.ensures.noted

pub returns-then-count-eq0-clause-taken : goal.returns-then-count-eq0-clause-taken
returns-then-count-eq0-clause-taken g c =
    let l = c.chunks in
    let some : 0 < length c.read.new.buffer = search rules in
    file_end c.args.every _ _ _ _ _ _ l.invariant.taken (g.F.Folder.remaining c.read.new.self) c.read.new.buffer
    c.in-Ok.count (g.F.Folder.failed c.read.new.self) c.if-count-eq0.true c.in-Ok.ensures.bytes.0
    (c.in-Ok.ensures.bytes.1 c.if-count-eq0.true some) c.in-Ok.ensures.noted

pub returns-in_err-take_chunk-clause-taken : goal.returns-in_err-take_chunk-clause-taken
returns-in_err-take_chunk-clause-taken g c =
    let r = err_from_is_err_and c.from_residual.result c.from_residual.ensures.1 in
    let l = c.chunks in
    let e = c.in_err-take_chunk.field-0.0 in
    rw (r.1, r.2) (file_stopped c.args.every _ _ _ _ _ _ l.invariant.taken c.take_chunk.new.reader
    (g.F.Folder.remaining c.read.new.self) (g.K.Sink.contents c.take_chunk.new.output)
    (take c.in-Ok.count c.read.new.buffer) (g.F.Folder.failed c.read.new.self) c.in-Ok.ensures.bytes.0
    c.in-Ok.ensures.noted e c.in_err-take_chunk.ensures.taken)

pub chunks-preserved : goal.chunks-preserved
chunks-preserved g c =
    let l = c.chunks in
    let i = l.invariant in
    record {
      same_aggregator = c.take_chunk.ensures.aggregator ∙ i.same_aggregator;
      same_files = c.in-Ok.ensures.files ∙ i.same_files;
      same_output = c.take_chunk.ensures.same_reference ∙ i.same_output;
      read = c.in-Ok.ensures.noted;
      written = c.in_ok-take_chunk.ensures.noted;
      taken = file_on c.args.every _ _ _ _ _ _ i.taken c.take_chunk.new.reader (g.F.Folder.remaining c.read.new.self)
          (g.K.Sink.contents c.take_chunk.new.output) (take c.in-Ok.count c.read.new.buffer)
          (g.F.Folder.failed c.read.new.self) c.in-Ok.ensures.bytes.0 c.in-Ok.ensures.noted
          c.in_ok-take_chunk.ensures.taken;
    }
