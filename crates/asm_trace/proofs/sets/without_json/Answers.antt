use Rattle.std.proofs.Common.{◌≡◌, ◌++◌, map, sym, ap, ◌∙◌, append-nil}
use Rattle.std.specs.List.{filter}
use Rattle.serde_json.specs.View.{view}
use Rattle.asm_journal.specs.Element.{element_json_of}
use Rattle.asm_journal.specs.Shape.{list_of}
use Rattle.asm_trace.specs.Change.{is_missing}
use Rattle.asm_trace.proofs.Making.{left_passing}
use Rattle.asm_trace.proofs.sets.without_json.Goals as goal

pub loop-element-preserved : goal.loop-element-preserved
loop-element-preserved c =
    let l = c.loop-element in
    left_passing element_json_of (is_missing c.args.second.now) (map view l.list.items) (map view c.push_missing.new.list.items) _
    c.in-Some.element.now c.next.new.self l.element-iterator c.in-Some.ensures.steps l.invariant c.in_ok-push_missing.ensures

pub returns : goal.returns
returns c =
    let l = c.loop-element in
    let p = is_missing c.args.second.now in
    let start = c.into_iter-element-iterator.ensures.into_iter_gives ∙ c.iter-element-items.ensures.elements in
    let done : map view l.list.items ≡ map element_json_of (filter p c.into_iter-element-iterator.result) =
    sym (append-nil (map view l.list.items))
    ∙ ap (λ left. map view l.list.items ++ map element_json_of (filter p left)) (sym c.in-None.ensures.steps.0)
    ∙ l.invariant in
    c.array_of.ensures ∙ ap list_of (done ∙ ap (λ es. map element_json_of (filter p es)) start)
