use Rattle.std.proofs.Common.{ap, ◌∙◌}
use Rattle.asm_element.specs.Set as set
use Rattle.asm_element.specs.Tests.{false_from_not, true_from_not}
use Rattle.asm_step.proofs.SetLists.{put_again, taken_out}
use Rattle.asm_step.proofs.sides.take_back.Goals as goal

pub returns-then-is_new : goal.returns-then-is_new
returns-then-is_new c before new put =
    let e = c.args.element.now in
    c.remove.ensures.new ∙ ap (λ (s : set.ElementSet). set.remove s e) put
    ∙ taken_out before e (false_from_not (set.contains before e) c.args.is_new new c.if-is_new.true)

pub returns-else-is_new : goal.returns-else-is_new
returns-else-is_new c before new put =
    let e = c.args.element.now in
    put ∙ put_again before e (true_from_not (set.contains before e) c.args.is_new new c.if-is_new.false)
