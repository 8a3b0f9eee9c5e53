use Rattle.std.proofs.Common.{◌≡◌, List, length, ap, sym, ◌∙◌, arith, rules}
use Rattle.std.specs.FinMap as finite
use Rattle.asm_step.specs.Layers.{Layer}
use Rattle.asm_step.proofs.Prefixes.{length-layers}
use Rattle.asm_step.proofs.step.Step.depth.Goals as goal

pub returns-clause-value : goal.returns-clause-value
returns-clause-value c =
    let long : c.len.result ≡ length c.self.inside.layers.items = search rules in
    long ∙ sym (length-layers finite.empty c.self.inside.layers.items) ∙ ap (λ (s : List Layer). length s) c.self.view_is

pub returns-clause-within : goal.returns-clause-within
returns-clause-within c =
    let same = sym (length-layers finite.empty c.self.inside.layers.items) ∙ ap (λ (s : List Layer). length s) c.self.view_is in
    omega (arith, same, c.self.invariant.0)
