use Rattle.std.proofs.Common.{◌≡◌, [], refl, subst, ap, sym, ◌∙◌}
use Rattle.std.specs.Bool.{OnFalse}
use Rattle.asm_step.specs.Outcomes.{Outcomes, dependencies_in}
use Rattle.asm_step.proofs.Depending.{as_each_by, as_puts_by}
use Rattle.asm_step.proofs.HeldPuts.{puts_depend}
use Rattle.asm_step.proofs.own.Own.depends_somewhere.Goals as goal

pub returns-then-is_empty : goal.returns-then-is_empty
returns-then-is_empty c =
    subst (λ (os : Outcomes). OnFalse c.depends_somewhere.result (dependencies_in os ≡ []))
    (as_each_by c.self.inside.puts c.self.inside.each c.args.self.now c.is_empty.result c.self.view_is c.is_empty.ensures c.if-is_empty.true)
    c.depends_somewhere.ensures

pub returns : goal.returns
returns c =
    ap (λ (os : Outcomes). dependencies_in os)
    (sym (as_puts_by c.self.inside.puts c.self.inside.each c.args.self.now c.is_empty.result c.self.inside.puts c.self.view_is
    c.is_empty.ensures c.if-is_empty.false refl))
    ∙ puts_depend c.self.inside.puts
