use Rattle.std.proofs.Common.{◌++◌, List, ℕ, [], None, refl, sym, subst, ◌∙◌, arith}
use Rattle.std.specs.Io.KnownBytes.{Consumes}
use Rattle.std.proofs.KnownBytes.{Consumes-nil}
use Rattle.std.proofs.lemmas.Result.{err_from_is_err_and}
use Rattle.asm_aggregate.specs.Standard.{standard_part}
use Rattle.asm_driver.specs.Lines.{pending}
use Rattle.asm_driver.specs.Parts.{HasSegments}
use Rattle.asm_driver.specs.declared.program.words.Window.{Window}
use Rattle.asm_driver.proofs.PartLines.{skipping_none}
use Rattle.asm_driver.proofs.PartsRead.{opened}
use Rattle.asm_driver.proofs.Windows.{memory_window}
use Rattle.asm_driver.proofs.program.windowing.find_part.Goals as goal

pub loop-number-init : goal.loop-number-init
loop-number-init g c = record {
  same_reference = refl;
  noted = c.requires.unread;
  within = omega arith;
  text = [];
  at = subst (λ (l : List ℕ). Consumes (g.S.Source.remaining c.args.input.now) (g.S.Source.remaining c.args.input.now) l)
      (sym c.requires.begins) (Consumes-nil (g.S.Source.remaining c.args.input.now));
  has = refl;
}

pub returns-in_err-header-clause-err : goal.returns-in_err-header-clause-err
returns-in_err-header-clause-err g c =
    let r = err_from_is_err_and c.from_residual.result c.from_residual.ensures.1 in
    let i = c.loop-number.invariant in
    rw (r.1, r.2) (λ w same.
    c.in_err-header.ensures.err w (g.S.Source.remaining c.args.input.now) i.text (omega (arith, same, c.loop-number-test.true)) i.at i.has)

pub returns-in_err-skip_events-clause-err : goal.returns-in_err-skip_events-clause-err
returns-in_err-skip_events-clause-err g c =
    let r = err_from_is_err_and c.from_residual-in_err-skip_events.result c.from_residual-in_err-skip_events.ensures.1 in
    let i = c.loop-number.invariant in
    let had = g.S.Source.remaining c.args.input.now in
    let read = c.in_ok-header.ensures.ok had i.text i.at in
    rw (r.1, r.2) (λ w same.
    c.in_err-skip_events.ensures.answer w had (i.text ++ read.1.0) c.in_ok-header.header
    (omega (arith, same, c.loop-number-test.true)) refl read.1.1
    (skipping_none c.loop-number.number c.in_ok-header.header i.text read.1.0 i.has read.1.3))

pub loop-number-preserved : goal.loop-number-preserved
loop-number-preserved g c =
    let i = c.loop-number.invariant in
    let had = g.S.Source.remaining c.args.input.now in
    let read = c.in_ok-header.ensures.ok had i.text i.at in
    let w : Window = record { part = c.args.wanted; from = 0; to = None } in
    let passed = c.in_ok-skip_events.ensures.answer w had (i.text ++ read.1.0) c.in_ok-header.header c.loop-number-test.true refl
    read.1.1 (skipping_none c.loop-number.number c.in_ok-header.header i.text read.1.0 i.has read.1.3) in
    record {
      same_reference = c.skip_events.ensures.same_reference ∙ c.next_header.ensures.same_reference ∙ i.same_reference;
      noted = passed.0;
      within = omega (arith, c.loop-number-test.true);
      text = passed.1.0;
      at = passed.1.1;
      has = passed.1.2;
    }

pub returns-in_err-header-2-clause-err : goal.returns-in_err-header-2-clause-err
returns-in_err-header-2-clause-err g c =
    let r = err_from_is_err_and c.from_residual-in_err-header-2.result c.from_residual-in_err-header-2.ensures.1 in
    let i = c.loop-number.invariant in
    let within = i.within in
    rw (r.1, r.2) (λ w same.
    c.in_err-header-2.ensures.err w (g.S.Source.remaining c.args.input.now) i.text (omega (arith, same)) i.at
    (subst (λ n. HasSegments n i.text []) (omega (arith, within, c.loop-number-test.false)) i.has))

pub returns-in_err-new-clause-err : goal.returns-in_err-new-clause-err
returns-in_err-new-clause-err g c =
    let r = err_from_is_err_and c.from_residual-in_err-new.result c.from_residual-in_err-new.ensures.1 in
    let i = c.loop-number.invariant in
    let had = g.S.Source.remaining c.args.input.now in
    let read = c.in_ok-header-2.ensures.ok had i.text i.at in
    rw (r.1, r.2) (λ w same.
    memory_window w had (g.S.Source.remaining c.next_header-2.new.input) (g.S.Source.failed c.next_header-2.new.input)
    ((i.text ++ read.1.0) ++ pending c.next_header-2.new.lines) read.1.1 read.0)

pub returns-clause-ok : goal.returns-clause-ok
returns-clause-ok g c =
    let i = c.loop-number.invariant in
    let within = i.within in
    let had = g.S.Source.remaining c.args.input.now in
    let o = c.in_ok-new in
    opened had (g.S.Source.remaining c.next_header-2.new.input) (g.S.Source.failed c.next_header-2.new.input) c.args.wanted i.text
    (pending c.next_header-2.new.lines) c.in_ok-header-2.header o.field-0 (c.in_ok-header-2.ensures.ok had i.text i.at)
    (subst (λ n. HasSegments n i.text []) (omega (arith, within, c.loop-number-test.false)) i.has) (o.ensures.number ∙ c.from.ensures)
    o.ensures.limits o.ensures.taken (o.ensures.stands standard_part)
