use Rattle.std.proofs.Common.{sym, ◌∙◌, arith}
use Rattle.std.proofs.lemmas.List.{take_more}
use Rattle.asm_journal.proofs.Clean.{item_reports, none_more, item_is_shallower}
use Rattle.asm_journal.proofs.version.+has_list.Goals as goal

pub items_have_list-has_list-requires : goal.items_have_list-has_list-requires
items_have_list-has_list-requires t c =
    (omega (arith, c.decreases, item_is_shallower c.args.items.now c.loop-item.item-index c.item-item.result (omega (arith, c.loop-item-test.true)) c.item-item.is), tt)

pub items_have_list-returns-then-has_list : goal.items_have_list-returns-then-has_list
items_have_list-returns-then-has_list t c =
    sym (item_reports c.args.items.now c.loop-item.item-index c.item-item.result c.loop-item-test.true c.item-item.is (sym c.has_list.ensures ∙ c.if-has_list.true))

pub items_have_list-loop-item-preserved : goal.items_have_list-loop-item-preserved
items_have_list-loop-item-preserved t c =
    let v = c.item-item.result in
    let more = none_more _ v c.loop-item.invariant (sym c.has_list.ensures ∙ c.if-has_list.false) in
    rw (take_more c.args.items.now c.loop-item.item-index v c.loop-item-test.true, ← c.item-item.is) more
