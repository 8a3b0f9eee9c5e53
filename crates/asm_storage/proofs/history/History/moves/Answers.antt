use Rattle.std.proofs.Common.{◌++◌, ◌∷◌, [], length, min, is_some, sym, ap, ◌∙◌}
use Rattle.std.specs.Prelude.{take}
use Rattle.std.proofs.lemmas.List.{take_more, take_all}
use Rattle.asm_storage.specs.History.{fired_moves}
use Rattle.asm_storage.specs.Limits.{most_counted}
use Rattle.asm_storage.proofs.Moves.{some_copied, count_fired, count_quiet}
use Rattle.asm_storage.proofs.history.History.moves.Goals as goal
use Rattle.asm_storage.proofs.history.History.moves.Goals.{then-is_some, else-is_some}

pub returns : goal.returns
returns c =
    let whole = take_all c.loop-event.event-index c.as_slice-event-items.result.now c.loop-event-test.false in
    c.loop-event.invariant ∙ ap (λ h. min (length (fired_moves h)) most_counted) (whole ∙ c.as_slice-event-items.ensures)

pub loop-event-preserved : goal.loop-event-preserved
loop-event-preserved c =
    let items = c.as_slice-event-items.result.now in
    let i = c.loop-event.event-index in
    let e = c.event-item.result in
    let more = take_more items i e c.loop-event-test.true ∙ ap (λ x. take i items ++ x ∷ []) (sym c.event-item.is) in
    let counted = ap (λ h. min (length (fired_moves h)) most_counted) (sym more) in
    let known = ap is_some (sym c.fired_move.ensures) ∙ some_copied c.fired_move.result ∙ sym c.is_some.ensures in
    elim c.if-is_some.branch [
      | then-is_some w ↦ w.count-is ∙ w.saturating_add-count.ensures ∙ count_fired (take i items) e c.loop-event.count c.loop-event.invariant (known ∙ w.if-is_some.true) ∙ counted
      | else-is_some w ↦ w.count-is ∙ count_quiet (take i items) e c.loop-event.count c.loop-event.invariant (known ∙ w.if-is_some.false) ∙ counted
    ]
