use Rattle.std.proofs.Common.{◌-◌, take, ap, ◌∙◌}
use Rattle.asm_step.proofs.Layered.{without_last}
use Rattle.asm_step.proofs.popped.Popped.take_back.Goals as goal

pub returns : goal.returns
returns c Ms M some all =
    let more = c.self.inside.more.items in
    without_last c.self.inside.first M more c.pop.new.self.items Ms
    (c.pop.ensures.rest ∙ ap (λ n. take (n - 1) more) c.self.inside.more.ok.0) some (c.self.view_is ∙ all)
