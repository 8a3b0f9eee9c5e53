use Rattle.std.proofs.Common.{sym, subst}
use Rattle.std.specs.Prelude.{IfErr, OnOk}
use Rattle.asm_aggregate.specs.Standard.{standard_meaning}
use Rattle.asm_slots.specs.StepCalls.{IsGrown, IsPushError}
use Rattle.asm_slots.specs.declared.pushing.PushMode.{PushMode}
use Rattle.asm_slots.specs.declared.pushing.PushMode.TheVariants as ways
use Rattle.asm_slots.proofs.Growing.{is_grown, is_push_error, never_deep, unextended}
use Rattle.asm_slots.proofs.pushing.grow.Goals as goal

pub returns-in-Push-clause-grown : goal.returns-in-Push-clause-grown
unfolding standard_meaning
returns-in-Push-clause-grown c =
    let grown = c.push_move.ensures in
    subst (λ (w : PushMode). OnOk c.push_move.result (IsGrown w c.args.instrs.now c.args.agent.now c.args.step.now c.push_move.new.self)) (sym c.in-Push.is)
    (is_grown ways.Push c.args.agent.now c.state-state.result.now c.aggregator.result.now c.args.step.now c.push_move.new.self c.args.instrs.now
    c.aggregator.ensures c.state-state.ensures.following c.state-state.ensures.number c.requires c.push_move.result grown.grown grown.kept)

pub returns-in-Push-clause-err : goal.returns-in-Push-clause-err
unfolding standard_meaning
returns-in-Push-clause-err c =
    let grown = c.push_move.ensures in
    subst (λ (w : PushMode). IfErr c.push_move.result (IsPushError w c.args.instrs.now c.args.agent.now c.args.step.now)) (sym c.in-Push.is)
    (is_push_error ways.Push c.args.agent.now c.state-state.result.now c.aggregator.result.now c.args.step.now c.push_move.new.self c.args.instrs.now
    c.aggregator.ensures c.state-state.ensures.following c.state-state.ensures.number c.requires c.push_move.result grown.refused (unextended c.push_move.result))

pub returns-in-Extend-clause-grown : goal.returns-in-Extend-clause-grown
unfolding standard_meaning
returns-in-Extend-clause-grown c =
    let grown = c.extend_last.ensures in
    subst (λ (w : PushMode). OnOk c.extend_last.result (IsGrown w c.args.instrs.now c.args.agent.now c.args.step.now c.extend_last.new.self)) (sym c.in-Extend.is)
    (is_grown ways.Extend c.args.agent.now c.state-state.result.now c.aggregator-in-Extend.result.now c.args.step.now c.extend_last.new.self
    c.args.instrs.now c.aggregator-in-Extend.ensures c.state-state.ensures.following c.state-state.ensures.number c.requires c.extend_last.result
    grown.grown grown.kept)

pub returns-in-Extend-clause-err : goal.returns-in-Extend-clause-err
unfolding standard_meaning
returns-in-Extend-clause-err c =
    let grown = c.extend_last.ensures in
    subst (λ (w : PushMode). IfErr c.extend_last.result (IsPushError w c.args.instrs.now c.args.agent.now c.args.step.now)) (sym c.in-Extend.is)
    (is_push_error ways.Extend c.args.agent.now c.state-state.result.now c.aggregator-in-Extend.result.now c.args.step.now c.extend_last.new.self
    c.args.instrs.now c.aggregator-in-Extend.ensures c.state-state.ensures.following c.state-state.ensures.number c.requires c.extend_last.result
    grown.refused (never_deep c.extend_last.result grown.deep))
