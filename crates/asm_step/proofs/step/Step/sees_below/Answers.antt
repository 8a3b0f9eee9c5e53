use Rattle.std.proofs.Common.{true, Option, ap, ◌∙◌}
use Rattle.std.specs.Option.{option_map_or}
use Rattle.asm_step.specs.Outcomes.{Outcome}
use Rattle.asm_step.proofs.Built.{sees_there}
use Rattle.asm_step.proofs.step.Step.sees_below.Goals as goal

pub returns-in-Some-clause-shows : goal.returns-in-Some-clause-shows
returns-in-Some-clause-shows c =
    c.builds.ensures ∙ ap (λ (o : Option Outcome). option_map_or (λ (x : Outcome). x.builds) o true) c.in-Some.ensures

pub returns-in-None-clause-shows : goal.returns-in-None-clause-shows
returns-in-None-clause-shows c = ap (λ (o : Option Outcome). option_map_or (λ (x : Outcome). x.builds) o true) c.in-None.ensures

pub returns-in-Some-clause-sees : goal.returns-in-Some-clause-sees
returns-in-Some-clause-sees c part old groups step =
    returns-in-Some-clause-shows c ∙ sees_there part old c.args.self.now groups step c.args.at.now

pub returns-in-None-clause-sees : goal.returns-in-None-clause-sees
returns-in-None-clause-sees c part old groups step =
    returns-in-None-clause-shows c ∙ sees_there part old c.args.self.now groups step c.args.at.now
