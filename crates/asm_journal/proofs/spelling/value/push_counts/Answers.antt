use Rattle.std.proofs.Common.{ap, ◌∙◌, ◌++◌, map, string_bytes}
use Rattle.serde_json.specs.Written.{compact_text}
use Rattle.asm_journal.specs.Set.{count_json_of}
use Rattle.asm_journal.specs.Shape.{list_of}
use Rattle.asm_journal.proofs.Spelt.{spelt_more, spelt_all, two_pieces, array_of_left}
use Rattle.asm_journal.proofs.spelling.value.push_counts.Goals as goal

pub loop-element-preserved : goal.loop-element-preserved
loop-element-preserved c =
    let l = c.loop-element in
    spelt_more count_json_of _ _ _ l.later (c.in-Some.element.now, c.in-Some.count.now) _ _ l.invariant c.in-Some.ensures.steps
    (two_pieces _ _ _ _ _ c.in_ok-push_comma.ensures c.in_ok-push_pair.ensures)

pub returns : goal.returns
returns c =
    let l = c.loop-element in
    let start = c.into_iter-element-iterator.ensures.into_iter_gives ∙ c.iter-element-items.ensures.entries in
    let items = spelt_all count_json_of _ _ _ l.later _ l.invariant c.in-None.ensures.steps.0 c.in_ok-push_sign-2.ensures in
    array_of_left count_json_of _ _ _ _ c.in_ok-push_sign.ensures items
    ∙ ap (λ xs. string_bytes c.args.text.now ++ compact_text (list_of (map count_json_of xs))) start
