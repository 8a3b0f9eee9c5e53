use Rattle.std.proofs.Common.{◌+◌, List, [], ◌∷◌, ◌++◌, take, sym, ap, subst, ◌∙◌}
use Rattle.std.proofs.lemmas.List.{take_all, take_more}
use Rattle.asm_play.specs.AgentPlay.{Plays}
use Rattle.asm_script.specs.declared.step.Step.{Step}
use Rattle.asm_play.specs.declared.step_end.StepEnd.{StepEnd}
use Rattle.asm_play.proofs.Stepping.{plays_none, plays_more}
use Rattle.asm_play.proofs.player.Player.play.Goals as goal

pub loop-step-init : goal.loop-step-init
loop-step-init g c =
    let meaning = g.A.Aggregator.meaning in
    let own = meaning c.args.self.now.aggregator.now in
    subst (λ (os : List StepEnd). Plays meaning own c.args.agent c.args.agent [] os)
    (sym c.new-ends.ensures.items) (plays_none meaning own c.args.agent)

pub loop-step-preserved : goal.loop-step-preserved
loop-step-preserved g c =
    let meaning = g.A.Aggregator.meaning in
    let own = meaning c.args.self.now.aggregator.now in
    let i = c.loop-step.step-index in
    let steps = c.args.steps.now in
    let s = c.step-item.result in
    let o = c.in_ok-play_step.field-0 in
    let taken = take_more steps i s c.loop-step-test.true
    ∙ ap (λ (y : Step). take i steps ++ y ∷ []) (sym c.step-item.is) in
    let more = plays_more meaning own c.args.agent c.loop-step.agent c.play_step.new.agent (take i steps)
    c.loop-step.ends.items s o c.loop-step.invariant c.in_ok-play_step.ensures in
    subst (λ (os : List StepEnd). Plays meaning own c.args.agent c.play_step.new.agent (take (i + 1) steps) os)
    (sym c.in_ok-push.ensures.items)
    (subst (λ (ss : List Step). Plays meaning own c.args.agent c.play_step.new.agent ss
    (c.loop-step.ends.items ++ o ∷ [])) (sym taken) more)

pub returns : goal.returns
returns g c =
    let meaning = g.A.Aggregator.meaning in
    let own = meaning c.args.self.now.aggregator.now in
    subst (λ (ss : List Step). Plays meaning own c.args.agent c.loop-step.agent ss c.loop-step.ends.items)
    (take_all c.loop-step.step-index c.args.steps.now c.loop-step-test.false) c.loop-step.invariant
