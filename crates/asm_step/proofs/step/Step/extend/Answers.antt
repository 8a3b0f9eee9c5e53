use Rattle.std.proofs.Common.{List, [], ◌∷◌, ◌++◌, length, sym, ap, ◌∙◌, arith}
use Rattle.std.proofs.lemmas.Result.{on_ok_weaker}
use Rattle.asm_step.specs.InTurn.{all_but_last}
use Rattle.asm_step.specs.Layers.{Layer}
use Rattle.asm_step.proofs.Answered.{extend_first, not_deep, taken_answer, taken_deep, taken_err, taken_instead, taken_on, taken_step}
use Rattle.asm_step.proofs.Prefixes.{no_top_by_test, top_by_test, without_layers}
use Rattle.asm_step.proofs.step.Step.extend.Goals as goal

pub returns-then-is_none-clause-step : goal.returns-then-is_none-clause-step
returns-then-is_none-clause-step g c =
    let part = (g.A.Aggregator.meaning c.args.aggregator.now).part in
    let old = g.L.Lookup.value_at c.args.below.now in
    let none = no_top_by_test c.args.self.now c.top.result c.top.ensures.count c.if-is_none.ensures in
    on_ok_weaker c.push.result
    (λ pushed groups step. extend_first part old c.args.self.now c.push.new.self groups c.args.instructions.now step none
    (pushed groups step)) c.push.ensures.step

pub returns-then-is_none-clause-instead : goal.returns-then-is_none-clause-instead
returns-then-is_none-clause-instead g c =
    let empty = without_layers c.args.self.now (no_top_by_test c.args.self.now c.top.result c.top.ensures.count c.if-is_none.ensures) in
    let same = empty ∙ sym (ap all_but_last empty) in
    on_ok_weaker c.push.result (λ more. (more.0, more.1 ∙ ap (λ (s : List Layer). s ++ more.0 ∷ []) same))
    c.push.ensures.more

pub returns-then-is_none-clause-deep : goal.returns-then-is_none-clause-deep
returns-then-is_none-clause-deep g c =
    let empty = without_layers c.args.self.now (no_top_by_test c.args.self.now c.top.result c.top.ensures.count c.if-is_none.ensures) in
    not_deep c.push.result (λ is. let full = c.push.ensures.deep.0 is in absurd (omega (arith, full, ap length empty)))

pub returns-clause-step : goal.returns-clause-step
returns-clause-step g c =
    let top = top_by_test c.args.self.now c.top.result c.top.ensures.count c.if-is_none.ensures in
    taken_step (g.A.Aggregator.meaning c.args.aggregator.now) (g.L.Lookup.value_at c.args.below.now) c.args.self.now
    c.take_in.new.self c.args.instructions.now c.take_in.result c.take_in.ensures top.0 top.1

pub returns-clause-instead : goal.returns-clause-instead
returns-clause-instead g c =
    taken_instead (g.A.Aggregator.meaning c.args.aggregator.now) (g.L.Lookup.value_at c.args.below.now) c.args.self.now
    c.take_in.new.self c.args.instructions.now c.take_in.result c.take_in.ensures

pub returns-clause-answer : goal.returns-clause-answer
returns-clause-answer g c =
    taken_answer (g.A.Aggregator.meaning c.args.aggregator.now) (g.L.Lookup.value_at c.args.below.now) c.args.self.now
    c.take_in.new.self c.args.instructions.now c.take_in.result c.take_in.ensures

pub returns-clause-answer_on : goal.returns-clause-answer_on
returns-clause-answer_on g c =
    taken_on (g.A.Aggregator.meaning c.args.aggregator.now) (g.L.Lookup.value_at c.args.below.now) c.args.self.now
    c.take_in.new.self c.args.instructions.now c.take_in.result c.take_in.ensures

pub returns-clause-err : goal.returns-clause-err
returns-clause-err g c =
    taken_err (g.A.Aggregator.meaning c.args.aggregator.now) (g.L.Lookup.value_at c.args.below.now) c.args.self.now
    c.take_in.new.self c.args.instructions.now c.take_in.result c.take_in.ensures

pub returns-clause-deep : goal.returns-clause-deep
returns-clause-deep g c =
    taken_deep (g.A.Aggregator.meaning c.args.aggregator.now) (g.L.Lookup.value_at c.args.below.now) c.args.self.now
    c.take_in.new.self c.args.instructions.now c.take_in.result c.take_in.ensures

pub take_in-requires : goal.take_in-requires
take_in-requires g c = top_by_test c.args.self.now c.top.result c.top.ensures.count c.if-is_none.ensures
