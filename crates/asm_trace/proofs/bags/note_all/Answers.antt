use Rattle.std.proofs.Common.{map, ap, ◌∙◌, refl}
use Rattle.asm_element.specs.Bag as bag
use Rattle.asm_trace.proofs.Making.{alike_more, alike_all, element_in}
use Rattle.asm_trace.proofs.bags.note_all.Goals as goal

pub loop-element-init : goal.loop-element-init
loop-element-init c = record { same = λ e. refl }

pub loop-element-preserved : goal.loop-element-preserved
loop-element-preserved c =
    let l = c.loop-element in
    alike_more c.args.old.now c.args.new.now l.set c.note.new.set _ (map element_in l.element-iterator)
    (map element_in c.next.new.self) _ c.in-Some.element.now (ap (map element_in) c.in-Some.ensures.steps)
    c.in_ok-note.ensures l.invariant

pub returns : goal.returns
returns c =
    let l = c.loop-element in
    let start = c.into_iter-element-iterator.ensures.into_iter_gives ∙ c.iter-element-items.ensures.entries in
    alike_all c.args.old.now c.args.new.now l.set c.args.set.now (map element_in l.element-iterator)
    (map element_in c.into_iter-element-iterator.result) (bag.elements c.args.all.now)
    (ap (map element_in) c.in-None.ensures.steps.0) (ap (map element_in) start) l.invariant
