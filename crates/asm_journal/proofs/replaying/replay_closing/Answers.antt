use Rattle.std.proofs.Common.{◌≡◌, ◌+◌, ◌++◌, ◌∷◌, [], Some, suc, arith, slice_get, sym, ap, ◌∙◌}
use Rattle.std.specs.Prelude.{take}
use Rattle.std.specs.Option.{option_copied}
use Rattle.asm_update.specs.Fire.{state_of}
use Rattle.asm_state.specs.FollowsFrom.{after_move}
use Rattle.asm_state.proofs.Writers.{state_of-push}
use Rattle.asm_storage.specs.History.{fired_moves}
use Rattle.asm_storage.specs.declared.history.Event.{Event}
use Rattle.asm_storage.proofs.Lists.{take-slice_get}
use Rattle.asm_storage.proofs.Moves.{fired_moves-push_fired, fired_moves-push_quiet}
use Rattle.asm_journal.proofs.replaying.replay_closing.Goals as goal
use Rattle.asm_journal.proofs.replaying.replay_closing.Goals.{in-Some+in_ok-fire_or_keep, in_default}

pub loop-number-preserved : goal.loop-number-preserved
loop-number-preserved g c =
    let part = (g.A.Aggregator.meaning c.args.aggregator.now).part in
    let es = c.args.closing.now.events in
    let n = c.loop-number.number in
    let init = c.args.closing.now.init in
    let before = take n es in
    let on : n + 1 ≡ suc n = omega arith in
    let taken : (e : Event) → slice_get es n ≡ Some e → take (n + 1) es ≡ before ++ e ∷ [] =
    λ e here. ap (λ k. take k es) on ∙ take-slice_get es n e here in
    let after : (e : Event) → slice_get es n ≡ Some e → state_of part init (fired_moves (take (n + 1) es)) ≡ state_of part init (fired_moves (before ++ e ∷ [])) =
    λ e here. ap (λ h. state_of part init (fired_moves h)) (taken e here) in
    elim c.match-fired_move.branch [
      | in-Some+in_ok-fire_or_keep w ↦
          let M = w.in-Some.instructions.now in
          let e = w.in-Some.ensures.0 in
          let fired = ap (state_of part init) (fired_moves-push_fired before e M (sym w.in-Some.ensures.2)) ∙ state_of-push part init (fired_moves before) M in
          w.state-is ∙ w.in_ok-fire_or_keep.ensures ∙ ap (λ A. after_move part A M) c.loop-number.invariant ∙ sym (after e w.in-Some.ensures.1 ∙ fired)
      | in_default w ↦
          let e = c.fired_move.ensures.0 in
          let quiet = fired_moves-push_quiet before e (sym c.fired_move.ensures.2 ∙ ap option_copied w.in_default.is) in
          w.state-is ∙ c.loop-number.invariant ∙ sym (after e c.fired_move.ensures.1 ∙ ap (state_of part init) quiet)
    ]
