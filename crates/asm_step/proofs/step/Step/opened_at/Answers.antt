use Rattle.std.proofs.Common.{Bool, true, false, [], Option, ap, ◌∙◌}
use Rattle.std.specs.Option.{option_map_or}
use Rattle.asm_step.specs.Outcomes.{Outcome}
use Rattle.asm_step.proofs.step.Step.opened_at.Goals as goal

pub returns-in-Some : goal.returns-in-Some
returns-in-Some c =
    let builds = λ (b : Bool). ap (λ (o : Option Outcome). option_map_or (λ (x : Outcome). x.builds) o b) c.in-Some.ensures in
    c.new.ensures
    ∙ (λ i. record {
      value = c.args.value;
      actions = [];
      builds = (c.builds.ensures ∙ builds true) i;
      depends = (c.builds-in-Some.ensures ∙ builds false) i;
    })

pub returns-in-None : goal.returns-in-None
returns-in-None c =
    c.new-in-None.ensures
    ∙ (λ i. record {
      value = c.args.value;
      actions = [];
      builds = option_map_or (λ (x : Outcome). x.builds) (c.in-None.ensures i) true;
      depends = option_map_or (λ (x : Outcome). x.builds) (c.in-None.ensures i) false;
    })
