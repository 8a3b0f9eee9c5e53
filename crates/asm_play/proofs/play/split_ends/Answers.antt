use Rattle.std.proofs.Common.{◌++◌, ◌∷◌, [], ap, ◌∙◌, arith, map}
use Rattle.std.proofs.lemmas.List.{nil_from_length}
use Rattle.asm_play.specs.Ends.{outcome_in, terms_in}
use Rattle.asm_play.proofs.Counts.{one_apart, none_apart}
use Rattle.asm_play.proofs.play.split_ends.Goals as goal

pub loop-played-preserved : goal.loop-played-preserved
loop-played-preserved c =
    let l = c.loop-played.invariant in
    let step = c.in-Some.ensures.steps.0 in (
      one_apart (λ t. t.agent) c.loop-played.agents.items _ _ c.in-Some.played _ _ l.0 step c.in_ok-push.ensures.items,
      one_apart (λ t. map outcome_in t.ends.items) c.loop-played.outcomes.items _ _ c.in-Some.played _ _ l.1 step
          (c.in_ok-push-2.ensures.items ∙ ap (λ o. c.loop-played.outcomes.items ++ o ∷ [])
          (c.new.ensures ∙ c.in_ok-reported.ensures.outcomes)),
      one_apart (λ t. terms_in t.ends.items) c.loop-played.terms.items _ _ c.in-Some.played _ _ l.2 step
          (c.in_ok-push-3.ensures.items ∙ ap (λ o. c.loop-played.terms.items ++ o ∷ [])
          (c.new-in-loop-played.ensures ∙ c.in_ok-reported.ensures.terms)),
    )

pub returns-clause-agents : goal.returns-clause-agents
returns-clause-agents c =
    none_apart (λ t. t.agent) c.loop-played.agents.items _ _ c.loop-played.invariant.0
    (nil_from_length _ (omega (arith, c.in-None.ensures.steps.0)))

pub returns-clause-outcomes : goal.returns-clause-outcomes
returns-clause-outcomes c =
    none_apart (λ t. map outcome_in t.ends.items) c.loop-played.outcomes.items _ _ c.loop-played.invariant.1
    (nil_from_length _ (omega (arith, c.in-None.ensures.steps.0)))

pub returns-clause-terms : goal.returns-clause-terms
returns-clause-terms c =
    none_apart (λ t. terms_in t.ends.items) c.loop-played.terms.items _ _ c.loop-played.invariant.2
    (nil_from_length _ (omega (arith, c.in-None.ensures.steps.0)))
