use Rattle.std.proofs.Common.{Err, ap, subst, sym, ◌∙◌}
use Rattle.std.proofs.lemmas.Result.{err_from_is_err_and}
use Rattle.asm_driver.proofs.Segmenting.{unopened, unbegun, stopped, unended, segment_read, plain_as}
use Rattle.asm_driver.proofs.program.segments.take_segment.Goals as goal

pub returns-in_err-size-clause-taken : goal.returns-in_err-size-clause-taken
returns-in_err-size-clause-taken g c =
    let r = err_from_is_err_and c.from_residual.result c.from_residual.ensures.1 in
    rw (r.1, r.2) (unopened c.args.every (g.F.Folder.files c.args.folder.now) c.args.name.now c.args.reader.now
    (g.K.Sink.contents c.args.output.now) c.args.reader.now c.in_err-size.field-0.0 (g.F.Folder.failed c.«open».new.self)
    (λ e. c.in_err-size.ensures.not_large (ap Err e)) c.in_err-size.ensures.noted)

pub returns-in_err-begin-clause-taken : goal.returns-in_err-begin-clause-taken
returns-in_err-begin-clause-taken g c =
    let r = err_from_is_err_and c.from_residual-in_err-begin.result c.from_residual-in_err-begin.ensures.1 in
    let b = c.in_err-begin.ensures.begun in
    rw (r.1, r.2) (unbegun c.args.every (g.F.Folder.files c.args.folder.now) c.args.name.now c.args.reader.now
    (g.K.Sink.contents c.args.output.now) c.begin.new.reader c.in_ok-size.size c.in_err-begin.field-0.0
    (g.F.Folder.failed c.«open».new.self) c.in_ok-size.ensures.size c.in_ok-size.ensures.noted b
    (plain_as _ _ b.0 b.1 _ b.5))

pub returns-in_err-take_file-clause-taken : goal.returns-in_err-take_file-clause-taken
returns-in_err-take_file-clause-taken g c =
    let r = err_from_is_err_and c.from_residual-in_err-take_file.result c.from_residual-in_err-take_file.ensures.1 in
    let f = c.take_file in
    rw (r.1, r.2) (stopped c.args.every (g.F.Folder.files c.args.folder.now) c.args.name.now c.args.reader.now
    (g.K.Sink.contents c.args.output.now) c.begin.new.reader c.in_ok-size.size
    (g.F.Folder.remaining c.«open».new.self) (g.F.Folder.remaining f.new.folder) (g.F.Folder.failed f.new.folder)
    (g.K.Sink.contents f.new.output) c.in_ok-size.ensures.opened c.in_ok-size.ensures.size c.in_ok-begin.ensures.begun
    f.new.reader c.in_err-take_file.field-0.0 c.in_err-take_file.ensures.taken)

pub returns-in_err-end-clause-taken : goal.returns-in_err-end-clause-taken
returns-in_err-end-clause-taken g c =
    let r = err_from_is_err_and c.from_residual-in_err-end.result c.from_residual-in_err-end.ensures.1 in
    let f = c.take_file in
    let e = c.in_err-end.ensures.ended in
    rw (r.1, r.2) (unended c.args.every (g.F.Folder.files c.args.folder.now) c.args.name.now c.args.reader.now
    (g.K.Sink.contents c.args.output.now) c.begin.new.reader c.in_ok-size.size
    (g.F.Folder.remaining c.«open».new.self) (g.F.Folder.remaining f.new.folder) (g.F.Folder.failed f.new.folder)
    (g.K.Sink.contents f.new.output) c.in_ok-size.ensures.opened c.in_ok-size.ensures.size c.in_ok-begin.ensures.begun
    f.new.reader c.in_ok-take_file.ensures.taken c.end.new.reader c.in_err-end.field-0.0 e (plain_as _ _ _ e.0 _ e.1))

pub returns-clause-taken : goal.returns-clause-taken
returns-clause-taken g c =
    let f = c.take_file in
    segment_read c.args.every (g.F.Folder.files c.args.folder.now) c.args.name.now c.args.reader.now
    (g.K.Sink.contents c.args.output.now) c.begin.new.reader c.in_ok-size.size
    (g.F.Folder.remaining c.«open».new.self) (g.F.Folder.remaining f.new.folder) (g.F.Folder.failed f.new.folder)
    (g.K.Sink.contents f.new.output) c.in_ok-size.ensures.opened c.in_ok-size.ensures.size c.in_ok-begin.ensures.begun
    f.new.reader c.in_ok-take_file.ensures.taken c.end.new.reader c.in_ok-end.ensures.ended
