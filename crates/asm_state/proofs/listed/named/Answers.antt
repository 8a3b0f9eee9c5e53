use Rattle.std.proofs.Common.{ap, sym, ◌∙◌, ◌++◌}
use Rattle.asm_state.specs.Listed.{by_value}
use Rattle.asm_state.specs.Merging.{front}
use Rattle.asm_state.proofs.Listing.{front_end, front_more, front_past}
use Rattle.asm_state.proofs.listed.named.Goals as goal

pub loop-at-init : goal.loop-at-init
loop-at-init g c = (
  tt,
  tt,
  ap (λ es. by_value es ++ front c.args.name.now c.into_iter-at-iterator.result) c.new-list.ensures.items,
)

pub loop-at-preserved : goal.loop-at-preserved
loop-at-preserved g c = (
  tt,
  tt,
  front_more c.args.name.now c.loop-at.list.items c.push.new.self.items c.in-Some.at c.in-Some.held c.loop-at.at-iterator c.next.new.self _
      c.in-Some.ensures.steps (sym c.has_name.ensures ∙ c.if-not-has_name.false) c.in_ok-push.ensures.items c.loop-at.invariant.2,
)

pub returns-then-not-has_name : goal.returns-then-not-has_name
returns-then-not-has_name g c =
    front_past c.args.name.now (by_value c.loop-at.list.items) c.in-Some.at.now c.in-Some.held.now c.loop-at.at-iterator c.next.new.self _
    c.in-Some.ensures.steps (sym c.has_name.ensures ∙ c.if-not-has_name.true) c.loop-at.invariant.2
    ∙ ap (front c.args.name.now) c.into_iter-at-iterator.ensures.into_iter_gives

pub returns : goal.returns
returns g c =
    front_end c.args.name.now (by_value c.loop-at.list.items) c.loop-at.at-iterator _ c.in-None.ensures.steps.0 c.loop-at.invariant.2
    ∙ ap (front c.args.name.now) c.into_iter-at-iterator.ensures.into_iter_gives
