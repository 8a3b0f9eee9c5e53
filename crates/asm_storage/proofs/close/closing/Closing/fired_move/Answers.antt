use Rattle.std.proofs.Common.{◌≡◌, Some, arith, length, slice_get, option_map, refl, sym, ap, ◌∙◌}
use Rattle.std.proofs.lemmas.List.{length-map}
use Rattle.std.proofs.lemmas.Option.{slice_get-map, slice_get_read}
use Rattle.asm_storage.specs.ReceiptOrder.{merged_event}
use Rattle.asm_storage.specs.declared.history.History.{History}
use Rattle.asm_storage.proofs.close.closing.Closing.fired_move.Goals as goal

pub returns : goal.returns
returns c =
    let n = c.args.number in
    let kept = c.self.inside.receipts.items in
    let there = ap (λ (h : History). slice_get h.events n) (sym c.self.view_is) ∙ slice_get-map merged_event kept n in
    let found : slice_get kept n ≡ Some c.index.result.now =
    slice_get_read kept (length kept) n c.index.result.now refl (omega (arith, c.requires, ap (λ (h : History). length h.events) c.self.view_is, length-map kept merged_event)) c.index.ensures in
    (merged_event c.index.result.now, there ∙ ap (λ o. option_map merged_event o) found, c.fired_move.ensures)
