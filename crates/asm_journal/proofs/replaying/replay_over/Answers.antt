use Rattle.std.proofs.Common.{◌++◌, ◌∷◌, [], sym, ap, ◌∙◌}
use Rattle.std.specs.Prelude.{take}
use Rattle.std.specs.Option.{option_copied}
use Rattle.std.proofs.lemmas.List.{take_more}
use Rattle.asm_update.specs.Fire.{state_of}
use Rattle.asm_state.specs.FollowsFrom.{after_move}
use Rattle.asm_state.proofs.Writers.{state_of-push}
use Rattle.asm_storage.specs.History.{fired_moves}
use Rattle.asm_storage.proofs.Moves.{fired_moves-push_fired, fired_moves-push_quiet}
use Rattle.asm_journal.proofs.replaying.replay_over.Goals as goal
use Rattle.asm_journal.proofs.replaying.replay_over.Goals.{in-Some+in_ok-fire_or_keep, in_default}

pub loop-event-preserved : goal.loop-event-preserved
loop-event-preserved g c =
    let part = (g.A.Aggregator.meaning c.args.aggregator.now).part in
    let items = c.args.events.now in
    let i = c.loop-event.event-index in
    let e = c.event-item.result in
    let init = c.args.init in
    let before = take i items in
    let more = take_more items i e c.loop-event-test.true ∙ ap (λ x. take i items ++ x ∷ []) (sym c.event-item.is) in
    let after = ap (λ h. state_of part init (fired_moves h)) more in
    elim c.match-fired_move.branch [
      | in-Some+in_ok-fire_or_keep w ↦
          let M = w.in-Some.instructions.now in
          let fired = ap (state_of part init) (fired_moves-push_fired before e M (sym w.in-Some.ensures)) ∙ state_of-push part init (fired_moves before) M in
          w.state-is ∙ w.in_ok-fire_or_keep.ensures ∙ ap (λ A. after_move part A M) c.loop-event.invariant ∙ sym (after ∙ fired)
      | in_default w ↦
          let quiet = fired_moves-push_quiet before e (sym c.fired_move.ensures ∙ ap option_copied w.in_default.is) in
          w.state-is ∙ c.loop-event.invariant ∙ sym (after ∙ ap (state_of part init) quiet)
    ]
