use Rattle.asm_step.proofs.Joined.{known_first, known_second, sets_judged}
use Rattle.asm_step.proofs.in_place.PairInPlace.sets.Goals as goal

pub returns-in-Own : goal.returns-in-Own
returns-in-Own g c p = known_first sets_judged (g.A.Aggregator.meaning p.a) (g.B.Aggregator.meaning p.b) (c.in-Own.ensures p.a)

pub returns-in-Other : goal.returns-in-Other
returns-in-Other g c p =
    known_second sets_judged (g.A.Aggregator.meaning p.a) (g.B.Aggregator.meaning p.b) c.sets-in-Other.result (c.in-Other.ensures p.a)
    (c.sets-in-Other.ensures p.b)
