use Rattle.std.proofs.Common.{ap, ◌∙◌}
use Rattle.std.specs.FinMap as finite
use Rattle.asm_step.specs.Outcomes.{Outcomes}
use Rattle.asm_step.proofs.Depending.{as_each_by, as_puts_by}
use Rattle.asm_step.proofs.own.Own.get.Goals as goal

pub returns-then-is_empty : goal.returns-then-is_empty
returns-then-is_empty c =
    c.held.ensures
    ∙ ap (λ (os : Outcomes). finite.get os c.args.at.now)
    (as_each_by c.self.inside.puts c.self.inside.each c.args.self.now c.is_empty.result c.self.view_is c.is_empty.ensures c.if-is_empty.true)

pub returns : goal.returns
returns c =
    c.held_put.ensures
    ∙ ap (λ (os : Outcomes). finite.get os c.args.at.now)
    (as_puts_by c.self.inside.puts c.self.inside.each c.args.self.now c.is_empty.result c.as_slice.result.now c.self.view_is
    c.is_empty.ensures c.if-is_empty.false c.as_slice.ensures)
