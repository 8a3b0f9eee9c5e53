use Rattle.std.proofs.Common.{sym, ap, ◌∙◌}
use Rattle.asm_element.proofs.Same.{value_eq-same}
use Rattle.asm_update.specs.declared.action.Action.TheVariants.{Regular}
use Rattle.asm_step.proofs.SetLists.{on_true}
use Rattle.asm_step.proofs.front.puts.Goals as goal

pub returns-in-Regular : goal.returns-in-Regular
returns-in-Regular c =
    on_true c.eq.result (λ h. c.in-Regular.is ∙ ap Regular ((value_eq-same c.in-Regular.put c.args.value.now).0 (sym c.eq.ensures ∙ h)))
