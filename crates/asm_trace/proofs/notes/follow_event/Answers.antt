use Rattle.std.proofs.Common.{◌≡◌, ◌++◌, [], Some, sym, subst}
use Rattle.std.proofs.lemmas.Result.{on_ok_weaker}
use Rattle.std.specs.List.{cons_option}
use Rattle.asm_state.specs.FollowsFrom.{FollowsFrom}
use Rattle.asm_storage.specs.History.{move_of}
use Rattle.asm_trace.proofs.notes.follow_event.Goals as goal

pub returns-in-Some : goal.returns-in-Some
returns-in-Some g c =
    let part = (g.A.Aggregator.meaning c.args.aggregator.now).part in
    let moved : move_of c.args.event.now ≡ Some c.in-Some.instructions.now = sym c.in-Some.ensures in
    on_ok_weaker c.follow.result
    (λ left init q stands. subst (λ o. FollowsFrom part init c.follow.new.self (q ++ cons_option o [])) (sym moved) (left init q stands))
    c.follow.ensures.ok
