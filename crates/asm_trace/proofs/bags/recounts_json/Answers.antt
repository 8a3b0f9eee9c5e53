use Rattle.std.proofs.Common.{map, ap, ◌∙◌}
use Rattle.asm_element.specs.Set as set
use Rattle.asm_element.specs.declared.element.Element.{Element}
use Rattle.asm_journal.specs.Shape.{list_of}
use Rattle.asm_journal.proofs.Arrays.{written_all}
use Rattle.asm_trace.specs.Change.{recount}
use Rattle.asm_trace.specs.Text.{recount_json_of}
use Rattle.asm_trace.proofs.Making.{recounts_json_is}
use Rattle.asm_trace.proofs.bags.recounts_json.Goals as goal

pub returns : goal.returns
returns c =
    let l = c.loop-element in
    let a = c.args.old.now in
    let b = c.args.new.now in
    let f = λ (e : Element). recount_json_of (recount a b e) in
    let start = c.into_iter-element-iterator.ensures.into_iter_gives ∙ c.iter-element-items.ensures.elements
    ∙ ap set.elements c.in_ok-set.ensures in
    let done = written_all f l.list.items l.element-iterator _ l.invariant c.in-None.ensures.steps.0 in
    c.array_of.ensures ∙ ap list_of (done ∙ ap (map f) start ∙ recounts_json_is a b)
