use Rattle.asm_step.proofs.Joined.{known_first, known_second, bags_judged}
use Rattle.asm_step.proofs.in_place.PairInPlace.bags.Goals as goal

pub returns-in-Own : goal.returns-in-Own
returns-in-Own g c p = known_first bags_judged (g.A.Aggregator.meaning p.a) (g.B.Aggregator.meaning p.b) (c.in-Own.ensures p.a)

pub returns-in-Other : goal.returns-in-Other
returns-in-Other g c p =
    known_second bags_judged (g.A.Aggregator.meaning p.a) (g.B.Aggregator.meaning p.b) c.bags-in-Other.result (c.in-Other.ensures p.a)
    (c.bags-in-Other.ensures p.b)
