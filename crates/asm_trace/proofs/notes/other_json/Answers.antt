use Rattle.std.proofs.Common.{Some, refl, sym, ap, subst, option_map}
use Rattle.asm_state.specs.FollowsFrom.{FollowsFrom}
use Rattle.asm_journal.specs.Check.{IsStep}
use Rattle.asm_trace.proofs.notes.other_json.Goals as goal

pub returns : goal.returns
returns g c = (
  Some c.in_ok-right.ensures.0,
  ap Some c.in_ok-right.ensures.1,
  λ init q stands.
      let part = (g.A.Aggregator.meaning c.args.aggregator.now).part in
      let wrong = subst (IsStep part c.args.capacity c.args.event.now c.args.state.now c.judge_event.new.state) c.if-branch.false c.in_ok-judge_event.ensures.step in
      let here = subst (λ s. FollowsFrom part init s q) (sym wrong.0) stands in
      ((c.in_ok-right.ensures.2 init q here, wrong.1 init q stands), c.in_ok-follow_event.ensures init q here),
)
