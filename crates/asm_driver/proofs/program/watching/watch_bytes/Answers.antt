use Rattle.std.proofs.Common.{ℕ, List, string_bytes, subst}
use Rattle.std.proofs.lemmas.Result.{err_from_is_err_and}
use Rattle.std.specs.Io.KnownBytes.{Appends}
use Rattle.asm_driver.specs.Ports.{AppendsSome}
use Rattle.asm_driver.proofs.Watching.{written_cut, no_lines}
use Rattle.asm_driver.proofs.program.watching.watch_bytes.Goals as goal

pub returns-in_err-write_lines-clause-reported : goal.returns-in_err-write_lines-clause-reported
returns-in_err-write_lines-clause-reported g c = λ text before watched.
    let r = err_from_is_err_and c.from_residual.result c.from_residual.ensures.1 in
    let old = c.args.auditor.now in
    let new = c.take_bytes-fed.new.auditor in
    let lines = string_bytes c.take_bytes-fed.new.lines in
    let held = g.K.Sink.contents c.args.output.now in
    let holds = g.K.Sink.contents c.write_lines.new.output in
    rw (r.1, r.2) (written_cut c.args.every text c.args.bytes.now before lines new.auditor.progress new.line.items held holds
    c.take_bytes-fed.result
    (subst (λ (t : List ℕ). AppendsSome held holds t) c.as_str.ensures.value c.in_err-write_lines.ensures.err)
    (c.take_bytes-fed.ensures.reported text before
    (no_lines c.args.every text before _ old.auditor.progress old.line.items c.new-lines.ensures.bytes watched)))

pub returns-in_err-fed-clause-reported : goal.returns-in_err-fed-clause-reported
returns-in_err-fed-clause-reported g c = λ text before watched.
    let r = err_from_is_err_and c.from_residual-in_err-fed.result c.from_residual-in_err-fed.ensures.1 in
    let old = c.args.auditor.now in
    let lines = string_bytes c.take_bytes-fed.new.lines in
    let held = g.K.Sink.contents c.args.output.now in
    let holds = g.K.Sink.contents c.write_lines.new.output in
    rw (r.1, r.2) (
      lines,
      subst (λ (t : List ℕ). Appends held holds t) c.as_str.ensures.value c.in_ok-write_lines.ensures.ok,
      c.in_err-fed.ensures.reported text before
          (no_lines c.args.every text before _ old.auditor.progress old.line.items c.new-lines.ensures.bytes watched),
    )

pub returns-clause-reported : goal.returns-clause-reported
returns-clause-reported g c = λ text before watched.
    let old = c.args.auditor.now in
    let new = c.take_bytes-fed.new.auditor in
    let lines = string_bytes c.take_bytes-fed.new.lines in
    let held = g.K.Sink.contents c.args.output.now in
    let holds = g.K.Sink.contents c.write_lines.new.output in (
      lines,
      subst (λ (t : List ℕ). Appends held holds t) c.as_str.ensures.value c.in_ok-write_lines.ensures.ok,
      c.in_ok-fed.ensures.reported text before
          (no_lines c.args.every text before _ old.auditor.progress old.line.items c.new-lines.ensures.bytes watched),
    )
