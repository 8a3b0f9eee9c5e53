use Rattle.std.proofs.Common.{◌++◌, true, length, sym, ap, subst, ◌∙◌, refl, Ok}
use Rattle.asm_audit.specs.Fed.{FeedsLine}
use Rattle.asm_audit.proofs.Fed.{report_of_all, all_more, taken_more, stopped, taken_all, none_left}
use Rattle.asm_audit.proofs.byte_auditor.ByteAuditor.feed_some.Goals as goal

pub returns-then-is_err-clause-answer : goal.returns-then-is_err-clause-answer
returns-then-is_err-clause-answer g c =
    let part = (g.A.Aggregator.meaning c.args.self.now.auditor.aggregator).part in
    let old = c.args.self.now in
    let bytes = c.args.bytes.now in
    let l = c.loop-rest in
    let i = l.invariant in
    let f = c.feed_line-count in
    let new = f.new.self in
    let rest = l.rest.now in
    let here = subst (λ q. FeedsLine q rest l.self.auditor.progress l.self.line.items new.auditor.progress new.line.items f.result.0 f.result.1)
    (ap (λ a. (g.A.Aggregator.meaning a).part) i.same) f.ensures.taken in
    report_of_all part bytes old.auditor.progress new.auditor.progress old.line.items new.line.items _ f.result.1
    (stopped part i.done rest bytes old.auditor.progress l.self.auditor.progress new.auditor.progress old.line.items
    l.self.line.items new.line.items f.result.0 f.result.1 i.all i.taken here _
    (sym c.is_err.ensures.value ∙ c.if-is_err.true) refl)

pub returns-then-is_err-clause-taken : goal.returns-then-is_err-clause-taken
returns-then-is_err-clause-taken g c =
    let part = (g.A.Aggregator.meaning c.args.self.now.auditor.aggregator).part in
    let old = c.args.self.now in
    let bytes = c.args.bytes.now in
    let l = c.loop-rest in
    let i = l.invariant in
    let f = c.feed_line-count in
    let new = f.new.self in
    let rest = l.rest.now in
    let here = subst (λ q. FeedsLine q rest l.self.auditor.progress l.self.line.items new.auditor.progress new.line.items f.result.0 f.result.1)
    (ap (λ a. (g.A.Aggregator.meaning a).part) i.same) f.ensures.taken in
    stopped part i.done rest bytes old.auditor.progress l.self.auditor.progress new.auditor.progress old.line.items
    l.self.line.items new.line.items f.result.0 f.result.1 i.all i.taken here _
    (sym c.is_err.ensures.value ∙ c.if-is_err.true) refl

pub loop-rest-preserved : goal.loop-rest-preserved
loop-rest-preserved g c =
    let part = (g.A.Aggregator.meaning c.args.self.now.auditor.aggregator).part in
    let old = c.args.self.now in
    let bytes = c.args.bytes.now in
    let l = c.loop-rest in
    let i = l.invariant in
    let f = c.feed_line-count in
    let new = f.new.self in
    let rest = l.rest.now in
    let here = subst (λ q. FeedsLine q rest l.self.auditor.progress l.self.line.items new.auditor.progress new.line.items f.result.0 f.result.1)
    (ap (λ a. (g.A.Aggregator.meaning a).part) i.same) f.ensures.taken in
    record {
      done = i.done ++ here.front;
      all = all_more part i.done rest bytes old.auditor.progress l.self.auditor.progress new.auditor.progress old.line.items
          l.self.line.items new.line.items f.result.0 f.result.1 i.all i.taken here;
      same = f.ensures.aggregator ∙ i.same;
      taken = taken_more part i.done rest bytes old.auditor.progress l.self.auditor.progress new.auditor.progress old.line.items
          l.self.line.items new.line.items f.result.0 f.result.1 i.all i.taken here;
    }

pub returns-clause-answer : goal.returns-clause-answer
returns-clause-answer g c =
    let part = (g.A.Aggregator.meaning c.args.self.now.auditor.aggregator).part in
    let old = c.args.self.now in
    let bytes = c.args.bytes.now in
    let l = c.loop-rest in
    let i = l.invariant in
    report_of_all part bytes old.auditor.progress l.self.auditor.progress old.line.items l.self.line.items (length bytes) (Ok tt)
    (taken_all part i.done l.rest.now bytes old.auditor.progress l.self.auditor.progress old.line.items l.self.line.items
    (length bytes) i.all (none_left l.rest.now (length l.rest.now) true refl c.loop-rest-test.ensures refl) refl i.taken)

pub returns-clause-taken : goal.returns-clause-taken
returns-clause-taken g c =
    let part = (g.A.Aggregator.meaning c.args.self.now.auditor.aggregator).part in
    let old = c.args.self.now in
    let bytes = c.args.bytes.now in
    let l = c.loop-rest in
    let i = l.invariant in
    taken_all part i.done l.rest.now bytes old.auditor.progress l.self.auditor.progress old.line.items l.self.line.items
    (length bytes) i.all (none_left l.rest.now (length l.rest.now) true refl c.loop-rest-test.ensures refl) refl i.taken
