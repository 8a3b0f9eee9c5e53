use Rattle.std.proofs.Common.{sym, ◌∙◌}
use Rattle.asm_element.specs.Same.{value_eq-same}
use Rattle.asm_storage.proofs.held_values.has_value.Goals as goal

pub returns-in-Some : goal.returns-in-Some
returns-in-Some g c =
    let same = value_eq-same c.in-Some.held.now c.args.value.now in
    let held = c.in-Some.ensures.value in
    (λ t. sym held ∙ same.0 (sym c.eq.ensures ∙ t), λ e. c.eq.ensures ∙ same.1 (held ∙ e))

pub returns-in-None : goal.returns-in-None
returns-in-None g c =
    let none = c.in-None.ensures.value in
    let undef = c.is_undef.ensures.meaning in
    (λ t. sym none ∙ sym (undef.0 t), λ e. undef.1 (sym e ∙ sym none))
