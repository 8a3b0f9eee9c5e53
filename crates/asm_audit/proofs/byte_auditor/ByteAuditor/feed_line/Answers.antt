use Rattle.std.proofs.Common.{◌+◌, [], ◌∷◌, ◌++◌, length, take, drop, Ok, Err, sym, ap, subst, ◌∙◌, arith, length-append}
use Rattle.std.proofs.lemmas.List.{length-take}
use Rattle.asm_audit.specs.Audited.{IsLineAnswer}
use Rattle.asm_audit.specs.Fed.{FeedsLine}
use Rattle.asm_audit.proofs.Fed.{kept_all, kept_some, kept_body, ended_on, ended_not}
use Rattle.asm_audit.proofs.byte_auditor.ByteAuditor.feed_line.Goals as goal

pub returns-in_default-clause-taken : goal.returns-in_default-clause-taken
returns-in_default-clause-taken g c =
    let part = (g.A.Aggregator.meaning c.args.self.now.auditor.aggregator).part in
    let old = c.args.self.now in
    let bytes = c.args.bytes.now in
    let k = c.keep in
    let new = k.new.self in
    subst (λ q. FeedsLine part bytes old.auditor.progress old.line.items q new.line.items k.result.0 k.result.1)
    (ap (λ a. a.progress) (sym k.ensures.auditor))
    (kept_all part old.auditor.progress old.line.items new.line.items bytes k.result.0 k.result.1
    (rw c.in_default.is at c.line_feed_in.ensures.none) c.requires new.within k.ensures.kept)

pub returns-then-is_err-clause-taken : goal.returns-then-is_err-clause-taken
returns-then-is_err-clause-taken g c =
    let part = (g.A.Aggregator.meaning c.args.self.now.auditor.aggregator).part in
    let old = c.args.self.now in
    let bytes = c.args.bytes.now in
    let k = c.keep-count in
    let mid = k.new.self in
    let end = c.in-Some.end in
    let body = take end bytes in
    let rest = drop (end + 1) bytes in
    let ends = rw c.in-Some.is at c.line_feed_in.ensures.some in
    subst (λ q. FeedsLine part bytes old.auditor.progress old.line.items q mid.line.items k.result.0 k.result.1)
    (ap (λ a. a.progress) (sym k.ensures.auditor))
    (kept_some part old.auditor.progress old.line.items mid.line.items body (10 ∷ rest) bytes k.result.0 k.result.1 ends.1
    (sym ends.0) c.requires mid.within k.ensures.kept (sym c.is_err.ensures.value ∙ c.if-is_err.true))

pub returns-in-Err-clause-taken : goal.returns-in-Err-clause-taken
returns-in-Err-clause-taken g c =
    let part = (g.A.Aggregator.meaning c.args.self.now.auditor.aggregator).part in
    let old = c.args.self.now in
    let bytes = c.args.bytes.now in
    let k = c.keep-count in
    let mid = k.new.self in
    let end = c.in-Some.end in
    let body = take end bytes in
    let rest = drop (end + 1) bytes in
    let ends = rw c.in-Some.is at c.line_feed_in.ensures.some in
    let new = c.end_line.new.self in
    let e = c.in-Err.error in
    let is = kept_body body old.line.items mid.line.items k.result.0 k.result.1 (sym c.is_err.ensures.value ∙ c.if-is_err.false) k.ensures.kept in
    let same = ap (λ a. a.progress) k.ensures.auditor in
    let answer = subst (λ p. IsLineAnswer part (mid.line.items ++ 10 ∷ []) p new.auditor.progress (Err e)) same
    (subst (λ q. IsLineAnswer q (mid.line.items ++ 10 ∷ []) mid.auditor.progress new.auditor.progress (Err e))
    (ap (λ x. (g.A.Aggregator.meaning x).part) (ap (λ a. a.aggregator) k.ensures.auditor)) c.in-Err.ensures.answer) in
    ended_not part old.auditor.progress new.auditor.progress old.line.items mid.line.items new.line.items body rest bytes ends is
    mid.within end e (omega (arith, ap length ends.0, length-append body (10 ∷ rest), length-take end bytes))
    answer (c.in-Err.ensures.unchanged ∙ same) c.in-Err.ensures.line

pub returns-in-Ok-clause-taken : goal.returns-in-Ok-clause-taken
returns-in-Ok-clause-taken g c =
    let part = (g.A.Aggregator.meaning c.args.self.now.auditor.aggregator).part in
    let old = c.args.self.now in
    let bytes = c.args.bytes.now in
    let k = c.keep-count in
    let mid = k.new.self in
    let end = c.in-Some.end in
    let body = take end bytes in
    let rest = drop (end + 1) bytes in
    let ends = rw c.in-Some.is at c.line_feed_in.ensures.some in
    let new = c.end_line.new.self in
    let is = kept_body body old.line.items mid.line.items k.result.0 k.result.1 (sym c.is_err.ensures.value ∙ c.if-is_err.false) k.ensures.kept in
    let same = ap (λ a. a.progress) k.ensures.auditor in
    let answer = subst (λ p. IsLineAnswer part (mid.line.items ++ 10 ∷ []) p new.auditor.progress (Ok tt)) same
    (subst (λ q. IsLineAnswer q (mid.line.items ++ 10 ∷ []) mid.auditor.progress new.auditor.progress (Ok tt))
    (ap (λ x. (g.A.Aggregator.meaning x).part) (ap (λ a. a.aggregator) k.ensures.auditor)) c.in-Ok.ensures.answer) in
    ended_on part old.auditor.progress new.auditor.progress old.line.items mid.line.items new.line.items body rest bytes ends is
    mid.within (end + 1) (omega (arith, ap length ends.0, length-append body (10 ∷ rest), length-take end bytes))
    answer c.in-Ok.ensures.ended
