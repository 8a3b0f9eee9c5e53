use Rattle.std.proofs.Common.{ap, sym}
use Rattle.std.specs.Option.{option_map}
use Rattle.asm_step.specs.Layers.{Layer}
use Rattle.asm_step.proofs.Prefixes.{with_top, without_top}
use Rattle.asm_step.proofs.step.Step.if_later.Goals as goal

pub returns-in-Some : goal.returns-in-Some
returns-in-Some c =
    let top = with_top c.args.self.now _ c.in-Some.ensures.count in
    sym (ap (option_map (λ (y : Layer). c.args.earlier.now)) top.1)

pub returns-in-None : goal.returns-in-None
returns-in-None c =
    sym (ap (option_map (λ (y : Layer). c.args.earlier.now)) (without_top c.args.self.now c.in-None.ensures.count))
