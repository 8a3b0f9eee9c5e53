use Rattle.std.proofs.Common.{length, ap, subst, ◌∙◌, []}
use Rattle.std.proofs.lemmas.List.{take_all}
use Rattle.asm_state.specs.FollowsFrom.{FollowsFrom}
use Rattle.asm_storage.specs.History.{fired_moves, IsLegal}
use Rattle.asm_journal.specs.Check.{machine_of, IsFirstWrong}
use Rattle.asm_storage.proofs.Legal.{legal-from}
use Rattle.asm_journal.proofs.Legal.{checked_more, first_wrong}
use Rattle.asm_journal.proofs.checking.check.Goals as goal

pub loop-index-init : goal.loop-index-init
loop-index-init g c =
    let part = (g.A.Aggregator.meaning c.args.aggregator.now).part in
    (subst (λ A. FollowsFrom part A c.in_ok-state.state []) c.in_ok-copy.ensures (c.in_ok-state.ensures part), tt)

pub returns-then-not-branch : goal.returns-then-not-branch
returns-then-not-branch g c =
    let part = (g.A.Aggregator.meaning c.args.aggregator.now).part in
    let h = c.args.history.now in
    let l = c.loop-index in
    let e = c.index-events-index in
    let wrong = first_wrong part h.init h.capacity c.as_slice-events.result.now l.index e.result l.state c.judge_event.new.state c.in_ok-judge_event.field-0 c.loop-index-test.true e.is c.in_ok-judge_event.ensures.step l.invariant c.if-not-branch.true in
    subst (λ es. IsFirstWrong (machine_of part h) es l.index) c.as_slice-events.ensures wrong

pub loop-index-preserved : goal.loop-index-preserved
loop-index-preserved g c =
    let part = (g.A.Aggregator.meaning c.args.aggregator.now).part in
    let h = c.args.history.now in
    let l = c.loop-index in
    let e = c.index-events-index in
    checked_more part h.init h.capacity c.as_slice-events.result.now l.index e.result l.state c.judge_event.new.state c.in_ok-judge_event.field-0 c.loop-index-test.true e.is c.in_ok-judge_event.ensures.step l.invariant c.if-not-branch.false

pub returns : goal.returns
returns g c =
    let part = (g.A.Aggregator.meaning c.args.aggregator.now).part in
    let h = c.args.history.now in
    let l = c.loop-index in
    let all = take_all l.index c.as_slice-events.result.now c.loop-index-test.false ∙ c.as_slice-events.ensures in
    (subst (IsLegal (machine_of part h)) all (legal-from (machine_of part h) _ l.invariant.1), ap length c.as_slice-events.ensures, c.number.ensures ∙ l.invariant.0.number ∙ ap (λ es. length (fired_moves es)) all)
