use Rattle.std.proofs.Common.{sym, ap, subst, ◌∙◌, true}
use Rattle.asm_storage.specs.declared.call.Call.TheVariants as call
use Rattle.asm_storage.specs.declared.call.Answer.TheVariants as answer
use Rattle.asm_journal.specs.Check.{judged_reply, IsStep}
use Rattle.asm_journal.proofs.Legal.{read_step, wrong_fire, quiet_fire, taken_fire}
use Rattle.asm_journal.proofs.Parsed.{true_and_false}
use Rattle.asm_journal.proofs.checking.judge_event.Goals as goal
use Rattle.asm_journal.proofs.checking.judge_event.Goals.{then-is_fired+in_ok-follow-in-Fire-Fire, else-is_fired}

pub returns-then-number-clause-step : goal.returns-then-number-clause-step
returns-then-number-clause-step g c =
    let part = (g.A.Aggregator.meaning c.args.aggregator.now).part in
    let locations = c.as_slice.result.now in
    let values = c.as_slice-then-number.result.now in
    let number = c.if-number.true ∙ c.number.ensures in
    read_step part c.args.capacity c.args.event.now c.args.state.now locations c.in-Read-Read.number values c.have_values.result
    (c.in-Read-Read.is-0 ∙ ap call.Read (sym c.as_slice.ensures)) (c.in-Read-Read.is-1 ∙ ap (answer.Read c.in-Read-Read.number) (sym c.as_slice-then-number.ensures))
    (λ t. (number, c.have_values.ensures.0 t), λ h. c.have_values.ensures.1 h.1)

pub returns-then-not-is_reply-clause-step : goal.returns-then-not-is_reply-clause-step
returns-then-not-is_reply-clause-step g c =
    let part = (g.A.Aggregator.meaning c.args.aggregator.now).part in
    let f = c.in-Fire-Fire in
    let v = c.in_ok-objection-in-Fire-Fire.objection in
    let reads = c.as_slice-in-Fire-Fire.result.now in
    wrong_fire part c.args.capacity c.args.event.now c.args.state.now reads f.instrs f.reply v
    (f.is-0 ∙ ap (λ rs. call.Fire rs f.instrs) (sym c.as_slice-in-Fire-Fire.ensures)) f.is-1 c.in_ok-objection-in-Fire-Fire.ensures
    (λ e. true_and_false c.is_reply.result (c.is_reply.ensures.1 (e ∙ ap (λ n. judged_reply c.args.capacity n v) (sym c.number-in-Fire-Fire.ensures))) c.if-not-is_reply.true)

pub returns-after-is_fired-clause-step : goal.returns-after-is_fired-clause-step
returns-after-is_fired-clause-step g c =
    let part = (g.A.Aggregator.meaning c.args.aggregator.now).part in
    let f = c.in-Fire-Fire in
    let v = c.in_ok-objection-in-Fire-Fire.objection in
    let reads = c.as_slice-in-Fire-Fire.result.now in
    let call-is = f.is-0 ∙ ap (λ rs. call.Fire rs f.instrs) (sym c.as_slice-in-Fire-Fire.ensures) in
    let is = c.is_reply.ensures.0 c.if-not-is_reply.false ∙ ap (λ n. judged_reply c.args.capacity n v) c.number-in-Fire-Fire.ensures in
    elim c.if-is_fired.branch [
      | then-is_fired+in_ok-follow-in-Fire-Fire w ↦
          let done = taken_fire part c.args.capacity c.args.event.now c.args.state.now reads f.instrs f.reply v call-is f.is-1 c.in_ok-objection-in-Fire-Fire.ensures
          w.follow.new.self is (sym c.is_fired.ensures ∙ w.if-is_fired.true) w.in_ok-follow-in-Fire-Fire.ensures.ok in
          subst (λ s. IsStep part c.args.capacity c.args.event.now c.args.state.now s true) (sym w.state-is) done
      | else-is_fired w ↦
          let done = quiet_fire part c.args.capacity c.args.event.now c.args.state.now reads f.instrs f.reply v call-is f.is-1 c.in_ok-objection-in-Fire-Fire.ensures
          is (sym c.is_fired.ensures ∙ w.if-is_fired.false) in
          subst (λ s. IsStep part c.args.capacity c.args.event.now c.args.state.now s true) (sym w.state-is) done
    ]
