use Rattle.std.proofs.Common.{◌∙◌, ap}
use Rattle.asm_aggregate.specs.Standard.{standard_meaning}
use Rattle.asm_overlay.specs.Frames.{seen_through}
use Rattle.asm_state.specs.View.{value_at}
use Rattle.asm_slots.specs.OwnState.{values_text}
use Rattle.asm_slots.proofs.steps.seen_text.Goals as goal

pub returns-clause-text : goal.returns-clause-text
unfolding standard_meaning
returns-clause-text c =
    let seen = seen_through c.in_ok-seen.seen.frames (value_at c.in_ok-seen.seen.below) in (
      seen,
      (λ own. c.in_ok-seen.ensures.shown c.args.agent.now c.state.ensures.following own),
      c.in_ok-values_text.ensures ∙ ap (λ n. values_text n seen c.args.locations.now) c.number.ensures,
    )
