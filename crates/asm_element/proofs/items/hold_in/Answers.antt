use lib.Seq.{set-get_or}
use Rattle.std.proofs.Common.{sym, ap, ◌∙◌, slice_set}
use Rattle.std.proofs.lemmas.Option.{get_or_from_slice_get}
use Rattle.asm_element.proofs.items.hold_in.Goals as goal

pub returns-then-i-items : goal.returns-then-i-items
returns-then-i-items g c =
    let items = c.args.items.now in
    ap (slice_set items c.args.i) (sym (get_or_from_slice_get items c.args.i c.args.item c.args.item c.requires)) ∙ set-get_or items c.args.i c.args.item
