use Rattle.std.proofs.Common.{ℕ, List, length, refl, subst, inl, ◌∙◌, arith}
use Rattle.std.proofs.lemmas.Result.{err_from_is_err_and}
use Rattle.asm_audit.specs.PartAuditor.{HasHeader, BreaksHeaderOf}
use Rattle.asm_audit.proofs.Fed.{some_left}
use Rattle.asm_driver.specs.Lines.{pending}
use Rattle.asm_driver.specs.Window.{IsBadWindow}
use Rattle.asm_driver.proofs.LinesTaken.{taken_on, unread_reported}
use Rattle.asm_driver.proofs.PartLines.{header_long}
use Rattle.asm_driver.proofs.PartsRead.{header_read, header_unread}
use Rattle.asm_driver.proofs.program.windowing.next_header.Goals as goal
use Rattle.asm_driver.proofs.program.windowing.next_header.Goals.{else-number-gt0-via-then-number-gt0+else-is_empty, else-number-gt0-via-else-number-gt0}

pub returns-in_err-read-clause-err : goal.returns-in_err-read-clause-err
returns-in_err-read-clause-err g c =
    let r = err_from_is_err_and c.from_residual.result c.from_residual.ensures.1 in
    rw (r.1, r.2) (λ w had text most at has. (
      text,
      inl (c.args.number, has, most),
      unread_reported had (g.S.Source.remaining c.args.input.now) (g.S.Source.remaining c.read.new.input)
          (g.S.Source.failed c.read.new.input) text (pending c.args.lines.now) (pending c.read.new.self)
          c.read.new.self.line.items (IsBadWindow w) c.in_err-read.field-0.0 at c.in_err-read.ensures.read (λ all. inl tt)
          (λ all. inl tt) (header_long w c.args.number text has most),
    ))

pub returns-clause-ok : goal.returns-clause-ok
returns-clause-ok g c = λ had text at.
    let is = c.in_ok-read.ensures.read in
    let line = c.read.new.self.line.items in
    header_read had (g.S.Source.remaining c.read.new.input) (g.S.Source.failed c.read.new.input) text line
    (pending c.read.new.self)
    (taken_on had (g.S.Source.remaining c.args.input.now) (g.S.Source.remaining c.read.new.input) text (pending c.args.lines.now)
    (pending c.read.new.self) line at is.0) is.1 is.2 c.in_ok-read_part_header.field-0
    (subst (λ (l : List ℕ). HasHeader l c.in_ok-read_part_header.field-0) c.line-2.ensures c.in_ok-read_part_header.ensures.ok)

pub returns-in_err-read_part_header-clause-err : goal.returns-in_err-read_part_header-clause-err
returns-in_err-read_part_header-clause-err g c =
    let r = err_from_is_err_and c.from_residual-in_err-read_part_header.result c.from_residual-in_err-read_part_header.ensures.1 in
    rw (r.1, r.2) (λ w had text most at has.
    let is = c.in_ok-read.ensures.read in
    let line = c.read.new.self.line.items in
    let e = c.in_err-read_part_header.field-0.0 in
    header_unread had (g.S.Source.remaining c.read.new.input) (g.S.Source.failed c.read.new.input) text line
    (pending c.read.new.self)
    (taken_on had (g.S.Source.remaining c.args.input.now) (g.S.Source.remaining c.read.new.input) text (pending c.args.lines.now)
    (pending c.read.new.self) line at is.0) is.1 is.2 w c.args.number most has e
    (elim c.else-number-gt0.branch [
      | else-number-gt0-via-then-number-gt0+else-is_empty v ↦ λ none. absurd (some_left v.line.result.now (length v.line.result.now) v.is_empty.result refl v.is_empty.ensures v.if-is_empty.false (v.line.ensures ∙ none))
      | else-number-gt0-via-else-number-gt0 v ↦ λ none. omega (arith, v.if-number-gt0.false)
    ])
    (subst (λ (l : List ℕ). BreaksHeaderOf c.args.number l e) c.line-2.ensures
    (subst (λ n. BreaksHeaderOf n c.line-2.result.now e) c.from-2.ensures c.in_err-read_part_header.ensures.err)))
