use Rattle.std.proofs.lemmas.Result.{on_ok_weaker}
use Rattle.asm_state.proofs.Followed.{stands_more}
use Rattle.asm_state.proofs.state.State.follow.Goals as goal

pub returns-in-Some-clause-ok : goal.returns-in-Some-clause-ok
returns-in-Some-clause-ok g c =
    let part = (g.A.Aggregator.meaning c.args.aggregator.now).part in
    let M = c.args.instructions.now in
    on_ok_weaker c.follow_put.result
    (λ followed init q stands.
    stands_more part init q c.args.self.now c.follow_put.new.self M stands (followed part M c.in-Some.ensures.some))
    c.follow_put.ensures.followed

pub returns-in-Some-clause-followed : goal.returns-in-Some-clause-followed
returns-in-Some-clause-followed g c =
    on_ok_weaker c.follow_put.result
    (λ followed. followed (g.A.Aggregator.meaning c.args.aggregator.now).part c.args.instructions.now c.in-Some.ensures.some)
    c.follow_put.ensures.followed

pub returns-in-Some-clause-number : goal.returns-in-Some-clause-number
returns-in-Some-clause-number g c =
    let part = (g.A.Aggregator.meaning c.args.aggregator.now).part in
    on_ok_weaker c.follow_put.result
    (λ followed. (followed part c.args.instructions.now c.in-Some.ensures.some).number)
    c.follow_put.ensures.followed

pub returns-in-None-clause-ok : goal.returns-in-None-clause-ok
returns-in-None-clause-ok g c =
    on_ok_weaker c.follow_rest.result
    (λ followed init q stands.
    stands_more (g.A.Aggregator.meaning c.args.aggregator.now).part init q c.args.self.now c.follow_rest.new.self
    c.args.instructions.now stands followed)
    c.follow_rest.ensures.followed
