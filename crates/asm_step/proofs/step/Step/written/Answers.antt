use Rattle.std.proofs.Common.{Some, ap, sym, ◌∙◌}
use Rattle.std.specs.Option.{option_map}
use Rattle.asm_step.specs.Outcomes.{Outcome}
use Rattle.asm_step.proofs.Nexts.{topmost_is}
use Rattle.asm_step.proofs.step.Step.written.Goals as goal

pub returns-in-Some : goal.returns-in-Some
returns-in-Some c =
    ap Some c.value.ensures ∙ ap (option_map (λ (o : Outcome). o.value)) c.in-Some.ensures ∙ sym (topmost_is c.args.self.now c.args.at.now)

pub returns-in-None : goal.returns-in-None
returns-in-None c =
    ap (option_map (λ (o : Outcome). o.value)) c.in-None.ensures ∙ sym (topmost_is c.args.self.now c.args.at.now)
