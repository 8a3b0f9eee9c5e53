use Rattle.std.proofs.Common.{codes, map, ap, ◌∙◌}
use Rattle.std.proofs.lemmas.Result.{IfOk-weaker}
use Rattle.asm_journal.specs.Element.{element_json_of}
use Rattle.asm_journal.specs.Shape.{one_of, list_of}
use Rattle.asm_journal.proofs.Arrays.{written_more, written_all}
use Rattle.asm_journal.proofs.form.set.ElemSetToJson.to_json.Goals as goal

pub loop-element-preserved : goal.loop-element-preserved
loop-element-preserved c =
    let l = c.loop-element in
    written_more element_json_of l.list.items c.push.new.self.items _ c.in-Some.element.now l.element-iterator c.next.new.self _ l.invariant c.in-Some.ensures.steps c.in_ok-push.ensures.items c.in_ok-to_json.ensures

pub returns : goal.returns
returns c =
    let l = c.loop-element in
    let start = c.into_iter-element-iterator.ensures.into_iter_gives ∙ c.iter-element-items.ensures.elements in
    let done = written_all element_json_of l.list.items l.element-iterator _ l.invariant c.in-None.ensures.steps.0 in
    IfOk-weaker c.object_of.result _ _ (λ json is. is ∙ ap (one_of (codes "set")) c.array_of.ensures ∙ ap (λ ds. one_of (codes "set") (list_of ds)) (done ∙ ap (map element_json_of) start)) c.object_of.ensures
