use Rattle.std.proofs.Common.{ap, ◌∙◌, ◌++◌, map, string_bytes}
use Rattle.serde_json.specs.Written.{compact_text}
use Rattle.asm_journal.specs.Shape.{list_of}
use Rattle.asm_journal.specs.Value.{pair_json_of}
use Rattle.asm_journal.proofs.Spelt.{spelt_more, spelt_all, two_pieces, array_of_left}
use Rattle.asm_journal.proofs.spelling.state.push_pairs.Goals as goal

pub loop-at-preserved : goal.loop-at-preserved
loop-at-preserved c =
    let l = c.loop-at in
    spelt_more pair_json_of _ _ _ l.later (c.in-Some.at.now, c.in-Some.value.now) _ _ l.invariant c.in-Some.ensures.steps
    (two_pieces _ _ _ _ _ c.in_ok-push_comma.ensures c.in_ok-push_pair.ensures)

pub returns : goal.returns
returns c =
    let l = c.loop-at in
    let items = spelt_all pair_json_of _ _ _ l.later _ l.invariant c.in-None.ensures.steps.0 c.in_ok-push_sign-2.ensures in
    array_of_left pair_json_of _ _ _ _ c.in_ok-push_sign.ensures items
    ∙ ap (λ xs. string_bytes c.args.text.now ++ compact_text (list_of (map pair_json_of xs))) c.into_iter-at-iterator.ensures.into_iter_gives
