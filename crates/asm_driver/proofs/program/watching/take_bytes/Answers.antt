use Rattle.std.proofs.Common.{ℕ, List, ◌++◌, take, length, true, string_bytes, refl, sym, ap, subst, ◌∙◌, append-nil, append_assoc, rules}
use Rattle.std.proofs.lemmas.List.{take_at}
use Rattle.std.proofs.lemmas.Result.{err_from_is_err_and}
use Rattle.asm_aggregate.specs.Standard.{standard_part}
use Rattle.asm_update.specs.Aggregator.{Meaning}
use Rattle.asm_audit.proofs.Fed.{none_left}
use Rattle.asm_audit.specs.Fed.{FeedsLine}
use Rattle.asm_audit.specs.SoFar.{AreFedSoFar}
use Rattle.asm_driver.specs.Audit.{refusal_of_audit}
use Rattle.asm_driver.specs.Watch.{IsWatched}
use Rattle.asm_driver.specs.declared.program.refusal.Refusal.TheVariants as refusal
use Rattle.asm_driver.proofs.TextPieces.{moved}
use Rattle.asm_driver.proofs.Watching.{stopped_fault, stopped_memory, stopped_more, line_taken}
use Rattle.asm_driver.proofs.program.watching.take_bytes.Goals as goal

pub returns-in_err-fed-clause-reported : goal.returns-in_err-fed-clause-reported
returns-in_err-fed-clause-reported g c = λ text before watched.
    let r = err_from_is_err_and c.from_residual.result c.from_residual.ensures.1 in
    let l = c.loop-rest in
    let i = l.invariant in
    let f = c.feed_line-count in
    let new = f.new.self in
    let rest = l.rest.now in
    let mean = ap (λ a. g.A.Aggregator.meaning a) i.same_aggregator ∙ c.requires in
    let p = l.auditor.auditor.progress in
    let line = l.auditor.line.items in
    let reported = subst (λ (m : Meaning). FeedsLine m.part rest p line new.auditor.progress new.line.items f.result.0 f.result.1) mean
    f.ensures.taken in
    let e = c.in_err-fed.field-0.0 in
    let fault = subst (λ x. FeedsLine standard_part rest p line new.auditor.progress new.line.items f.result.0 x)
    c.in_err-fed.was reported in
    rw (r.1, r.2) (stopped_more c.args.every text i.done rest c.args.bytes.now (before ++ string_bytes l.lines)
    (refusal_of_audit e) i.all (stopped_fault c.args.every (text ++ i.done) (before ++ string_bytes l.lines) rest p
    new.auditor.progress line new.line.items f.result.0 (i.watched text before watched) e fault))

pub returns-in_err-add_due-clause-reported : goal.returns-in_err-add_due-clause-reported
returns-in_err-add_due-clause-reported g c = λ text before watched.
    let r = err_from_is_err_and c.from_residual-in_err-add_due.result c.from_residual-in_err-add_due.ensures.1 in
    let l = c.loop-rest in
    let i = l.invariant in
    let f = c.feed_line-count in
    let new = f.new.self in
    let rest = l.rest.now in
    let mean = ap (λ a. g.A.Aggregator.meaning a) i.same_aggregator ∙ c.requires in
    let p = l.auditor.auditor.progress in
    let line = l.auditor.line.items in
    let reported = subst (λ (m : Meaning). FeedsLine m.part rest p line new.auditor.progress new.line.items f.result.0 f.result.1) mean
    f.ensures.taken in
    let kept = subst (λ (t : List ℕ). IsWatched c.args.every (text ++ i.done) p line (before ++ t)) (sym c.in_err-add_due.ensures.err)
    (i.watched text before watched) in
    rw (r.1, r.2) (stopped_more c.args.every text i.done rest c.args.bytes.now (before ++ string_bytes c.add_due.new.lines)
    refusal.Memory i.all (stopped_memory c.args.every (text ++ i.done) (before ++ string_bytes c.add_due.new.lines) rest p p
    line line 0 kept (search rules)))

pub loop-rest-preserved : goal.loop-rest-preserved
loop-rest-preserved g c =
    let l = c.loop-rest in
    let i = l.invariant in
    let f = c.feed_line-count in
    let new = f.new.self in
    let rest = l.rest.now in
    let mean = ap (λ a. g.A.Aggregator.meaning a) i.same_aggregator ∙ c.requires in
    let p = l.auditor.auditor.progress in
    let line = l.auditor.line.items in
    let reported = subst (λ (m : Meaning). FeedsLine m.part rest p line new.auditor.progress new.line.items f.result.0 f.result.1) mean
    f.ensures.taken in
    let legal = subst (λ x. FeedsLine standard_part rest p line new.auditor.progress new.line.items f.result.0 x)
    c.in_ok-fed.was reported in
    let here = subst (λ (m : Meaning). AreFedSoFar m.part p line c.counts-before.result) mean c.counts-before.ensures in
    let there = subst (λ (m : Meaning). AreFedSoFar m.part new.auditor.progress new.line.items c.counts.result)
    (ap (λ a. g.A.Aggregator.meaning a) f.ensures.aggregator ∙ mean) c.counts.ensures in
    let n = f.result.0 in
    let front = ap (λ t. take n t) (sym legal.all) ∙ take_at legal.front legal.behind n (sym legal.count) in
    record {
      done = i.done ++ take n rest;
      all = sym (moved n c.args.bytes.now i.done rest (sym i.all));
      same_aggregator = f.ensures.aggregator ∙ i.same_aggregator;
      watched = λ text before watched.
          subst (λ (t : List ℕ). IsWatched c.args.every t new.auditor.progress new.line.items (before ++ string_bytes c.add_due.new.lines))
          (append_assoc text i.done legal.front ∙ ap (λ t. text ++ (i.done ++ t)) (sym front))
          (line_taken c.args.every (text ++ i.done) before (string_bytes l.lines) (string_bytes c.add_due.new.lines) rest p
          new.auditor.progress line new.line.items n c.counts-before.result c.counts.result (i.watched text before watched) legal
          here there c.in_ok-add_due.ensures.ok);
    }

pub returns-clause-reported : goal.returns-clause-reported
returns-clause-reported g c = λ text before watched.
    let l = c.loop-rest in
    let i = l.invariant in
    let none = none_left l.rest.now (length l.rest.now) true refl c.loop-rest-test.ensures refl in
    subst (λ (t : List ℕ). IsWatched c.args.every (text ++ t) l.auditor.auditor.progress l.auditor.line.items
    (before ++ string_bytes l.lines))
    (sym (append-nil i.done) ∙ ap (λ t. i.done ++ t) (sym none) ∙ i.all) (i.watched text before watched)
