use Rattle.std.proofs.Common.{◌≡◌, ◌++◌, map}
use Rattle.asm_play.specs.Ends.{outcome_in, terms_in}
use Rattle.asm_play.proofs.play.split_ends.Given as goal

abbrev pub invariant-loop-played : goal.invariant-loop-played
invariant-loop-played l =
    (l.agents.items ++ map (λ t. t.agent) l.played-iterator.rest.items ≡ map (λ t. t.agent) l.fn.played_agents.items)
    × (l.outcomes.items ++ map (λ t. map outcome_in t.ends.items) l.played-iterator.rest.items
    ≡ map (λ t. map outcome_in t.ends.items) l.fn.played_agents.items)
    × (l.terms.items ++ map (λ t. terms_in t.ends.items) l.played-iterator.rest.items
    ≡ map (λ t. terms_in t.ends.items) l.fn.played_agents.items)
