use Rattle.std.proofs.Common.{◌≡◌, ◌++◌, length, map}
use Rattle.asm_play.specs.Ends.{outcome_in, terms_from, terms_in}
use Rattle.asm_play.proofs.step_end.agent_ends.Given as goal

-- what is told, in front of what the ends that are left tell, is all
abbrev pub invariant-loop-end : goal.invariant-loop-end
invariant-loop-end l =
    (l.outcomes.items ++ map outcome_in l.end-iterator.rest.items ≡ map outcome_in l.fn.ends.items)
    × (l.terms.items ++ terms_from (length l.outcomes.items) l.end-iterator.rest.items ≡ terms_in l.fn.ends.items)
