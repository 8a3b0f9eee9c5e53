use Rattle.std.proofs.Common.{◌≡◌, ◌+◌, subst}
use Rattle.std.specs.Prelude.{Some}
use Rattle.std.specs.Arc.{arc_value}
use Rattle.asm_aggregate.specs.OnlyPut.{only_put}
use Rattle.asm_update.specs.Fire.{Part}
use Rattle.asm_update.specs.Move.{Move}
use Rattle.asm_state.specs.Follow.{IsFollowed}
use Rattle.asm_state.specs.View.{StateView}
use Rattle.asm_state.proofs.ChangedInPlace.{put_settled, put_followed}
use Rattle.asm_state.proofs.state.State.follow_put.Goals as goal

pub invariant_of-self-2 : goal.invariant_of-self-2
invariant_of-self-2 c =
    let s : StateView = record { number = c.self.inside.number; base = arc_value c.self.inside.base; entries = c.self.inside.entries } in
    put_settled s c.args.at.now c.args.value.now c.put_value.new.self c.in_ok-put_value.ensures.ok c.self.invariant

pub returns-clause-followed : goal.returns-clause-followed
returns-clause-followed c =
    let s : StateView = record { number = c.self.inside.number; base = arc_value c.self.inside.base; entries = c.self.inside.entries } in
    subst (λ (old : StateView). (part : Part) (M : Move) → only_put M ≡ Some (c.args.at.now, c.args.value.now) → IsFollowed part old M (record { number = s.number + 1; base = s.base; entries = c.put_value.new.self })) c.self.view_is
    (put_followed s c.args.at.now c.args.value.now c.put_value.new.self c.in_ok-put_value.ensures.ok)
