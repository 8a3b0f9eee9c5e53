use Rattle.std.proofs.Common.{false, ◌∷◌, ◌++◌, ap, subst, ◌∙◌, option_map, codes}
use Rattle.std.specs.Result.{result_ok}
use Rattle.serde_json.specs.Data.{array}
use Rattle.serde_json.specs.Written.{items_text}
use Rattle.asm_element.specs.declared.element.Element.TheVariants as elements
use Rattle.asm_journal.specs.Shape.{AreForms, IsParsed, one_of}
use Rattle.asm_journal.specs.Element.{IsElementForm}
use Rattle.asm_journal.proofs.Compact.{one_more, last_one, not_later, no_items_begin, some_to, list_text}
use Rattle.asm_journal.proofs.Elements.{list_json, list_read}
use Rattle.asm_journal.proofs.front.element.+front_element.Goals as goal

pub front_element-returns-in-Some : goal.front_element-returns-in-Some
front_element-returns-in-Some t c =
    some_to (λ p h. (one_of (codes "list") (array h.0), list_text c.args.text.now c.in-Some.inside.now p.1.now h.0 c.in-Some.ensures h.1, h.2))
    c.front_list.result c.front_list.ensures

pub front_list-returns-in-Ok : goal.front_list-returns-in-Ok
front_list-returns-in-Ok t c =
    let b = c.in_ok-found.ensures in
    let found = c.in_ok-found.found in
    let read = list_read b.0 found.items found.len c.new.result found.ok.0 b.2 c.new.ensures.ok c.new.ensures.many_items c.new.ensures.too_deep in (
      b.0,
      b.1 ∙ ap (λ l. items_text false b.0 ++ l) c.in_ok-rest.ensures,
      subst (λ r. IsParsed IsElementForm (list_json b.0) (option_map elements.List (result_ok r))) c.in-Ok.is read,
    )

pub first_elements-returns-in-Some : goal.first_elements-returns-in-Some
first_elements-returns-in-Some t c =
    no_items_begin IsElementForm false c.args.inside.now c.in-Some.left.now c.new.result.items c.in-Some.ensures c.new.ensures.items

pub first_elements-returns : goal.first_elements-returns
first_elements-returns t c =
    some_to (λ p. not_later (AreForms IsElementForm) c.args.inside.now p.1.now p.0.items) c.some_elements.result c.some_elements.ensures

pub some_elements-items-preserved : goal.some_elements-items-preserved
some_elements-items-preserved t c =
    let more = c.in_ok-byte.more.now in
    one_more IsElementForm c.args.text.now c.items.found.items c.push_item.new.found.items c.in_ok-item.item c.items.rest.now
    c.in_ok-item.left.now more c.items.invariant c.in_ok-item.ensures
    (c.in_ok-byte.ensures.cases.0 ∙ ap (λ b. b ∷ more) c.in-44.is) c.in_ok-push_item.ensures

pub some_elements-returns-in-93 : goal.some_elements-returns-in-93
some_elements-returns-in-93 t c =
    let more = c.in_ok-byte.more.now in
    last_one IsElementForm c.args.text.now c.items.found.items c.push_item.new.found.items c.in_ok-item.item c.items.rest.now
    c.in_ok-item.left.now more c.items.invariant c.in_ok-item.ensures
    (c.in_ok-byte.ensures.cases.0 ∙ ap (λ b. b ∷ more) c.in-93.is) c.in_ok-push_item.ensures
