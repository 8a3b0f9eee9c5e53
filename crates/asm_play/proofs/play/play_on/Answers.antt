use Rattle.std.proofs.Common.{map, refl, sym, ◌∙◌}
use Rattle.asm_play.specs.Ends.{outcome_in, terms_in}
use Rattle.asm_play.proofs.Counts.{map_again}
use Rattle.asm_play.proofs.PlayParts.{agents_ended, closed_alone, missing_of_several}
use Rattle.asm_play.proofs.play.play_on.Goals as goal

pub closed-requires-clause-agents : goal.closed-requires-clause-agents
closed-requires-clause-agents g c =
    let played = c.in_ok-played.field-0.items in (
      map (λ t. t.ends.items) played,
      agents_ended _ _ _ _ c.args.storage.now (λ t. t.agent) (λ t. t.ends.items) _ _ _ _ _ _ c.aggregator.ensures
          c.requires.meaning c.agents-scripted.ensures.agents c.in_ok-played.ensures.played c.in_ok-agents.ensures
          c.in_ok-ended.ensures.agents refl,
      c.in_ok-ended.ensures.outcomes ∙ sym (map_again (λ t. t.ends.items) (map outcome_in) played),
      c.in_ok-ended.ensures.terms ∙ sym (map_again (λ t. t.ends.items) terms_in played),
    )

pub returns-in_err-played-clause-threads : goal.returns-in_err-played-clause-threads
returns-in_err-played-clause-threads g c =
    missing_of_several c.args.storage.now c.in_ok-agents.agents _ _ c.in_err-played.field-0.0 c.from_residual-in_err-played.result
    c.in_ok-agents.ensures c.agents-scripted.ensures.agents (λ e. c.in_err-played.ensures.threads (cc e))
    c.from_residual-in_err-played.ensures.1

pub returns-clause-threads : goal.returns-clause-threads
returns-clause-threads g c = closed_alone _ c.closed.result _ c.closed.ensures.missing
