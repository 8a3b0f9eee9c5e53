use Rattle.std.proofs.Common.{[], ◌++◌, length, take, true, string_bytes, refl, sym, ap, subst, ◌∙◌, append-nil, rules}
use Rattle.asm_audit.proofs.Fed.{none_left}
use Rattle.asm_driver.specs.Segments.{IsTakenOn}
use Rattle.asm_driver.proofs.Foldering.{taken_none, taken_more}
use Rattle.asm_driver.proofs.TextPieces.{moved}
use Rattle.asm_driver.proofs.program.segments.take_lines.Goals as goal

pub loop-rest-init : goal.loop-rest-init
loop-rest-init g c = record {
  done = [];
  all = refl;
  same_aggregator = refl;
  taken = taken_none c.args.every c.args.reader.now c.args.reader.now (string_bytes c.args.lines.now);
}

pub loop-rest-preserved : goal.loop-rest-preserved
loop-rest-preserved g c =
    let l = c.loop-rest in
    let i = l.invariant in
    let rest = l.rest.now in
    let n = c.line_length-length.result in
    record {
      done = i.done ++ take n rest;
      all = sym (moved n c.args.bytes.now i.done rest (sym i.all));
      same_aggregator = c.take_line.ensures.aggregator ∙ i.same_aggregator;
      taken = taken_more c.args.every c.args.reader.now l.reader c.take_line.new.reader i.done (take n rest)
          (string_bytes c.args.lines.now) (string_bytes l.lines) (string_bytes c.take_line.new.lines) i.taken
          c.in_ok-take_line.ensures.taken;
    }

pub returns-clause-taken : goal.returns-clause-taken
returns-clause-taken g c =
    let l = c.loop-rest in
    let i = l.invariant in
    let none = none_left l.rest.now (length l.rest.now) true refl c.loop-rest-test.ensures refl in
    subst (λ t. IsTakenOn c.args.every c.args.reader.now l.reader t (string_bytes c.args.lines.now) (string_bytes l.lines))
    (sym (append-nil i.done) ∙ ap (λ t. i.done ++ t) (sym none) ∙ i.all) i.taken
