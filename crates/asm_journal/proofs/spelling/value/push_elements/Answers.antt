use Rattle.std.proofs.Common.{ap, ◌∙◌, ◌++◌, map, string_bytes}
use Rattle.serde_json.specs.Written.{compact_text}
use Rattle.asm_journal.specs.Element.{element_json_of}
use Rattle.asm_journal.specs.Shape.{list_of}
use Rattle.asm_journal.proofs.Spelt.{spelt_more, spelt_all, array_of_left}
use Rattle.asm_journal.proofs.spelling.value.push_elements.Goals as goal

pub loop-element-preserved : goal.loop-element-preserved
loop-element-preserved c =
    let l = c.loop-element in
    spelt_more element_json_of _ _ _ l.later c.in-Some.element.now _ _ l.invariant c.in-Some.ensures.steps c.in_ok-push_next.ensures

pub returns : goal.returns
returns c =
    let l = c.loop-element in
    let start = c.into_iter-element-iterator.ensures.into_iter_gives ∙ c.iter-element-items.ensures.elements in
    let items = spelt_all element_json_of _ _ _ l.later _ l.invariant c.in-None.ensures.steps.0 c.in_ok-push_sign-2.ensures in
    array_of_left element_json_of _ _ _ _ c.in_ok-push_sign.ensures items
    ∙ ap (λ xs. string_bytes c.args.text.now ++ compact_text (list_of (map element_json_of xs))) start
