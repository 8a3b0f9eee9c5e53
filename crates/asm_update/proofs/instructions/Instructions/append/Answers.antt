use Rattle.std.proofs.Common.{◌≡◌, ◌<◌, ◌∷◌, ◌∙◌, length, rules, ap, sym, subst, arith}
use Rattle.std.specs.Arc.{arc_value}
use Rattle.asm_update.specs.Limits.{instructions_limit}
use Rattle.asm_update.specs.Shared.{held_items}
use Rattle.asm_update.specs.declared.instructions.Held.{Held}
use Rattle.asm_update.proofs.SharedLists.{Fits, more_fit}
use Rattle.asm_update.proofs.instructions.Instructions.append.Goals as goal

pub invariant_of-self-in_err-self-inside-in-One : goal.invariant_of-self-in_err-self-inside-in-One
invariant_of-self-in_err-self-inside-in-One c = subst Fits c.in-One.is c.self.invariant

pub invariant_of-self-in_ok-self-inside-in-One : goal.invariant_of-self-in_ok-self-inside-in-One
invariant_of-self-in_ok-self-inside-in-One c =
    let one : length c.args.self.now ≡ 1 = ap length (sym c.self.view_is) ∙ ap (λ (held : Held). length (held_items held)) c.in-One.is in
    let few : length c.args.other.now < instructions_limit = omega (arith, one, c.len.ensures.len, c.len-2.ensures.len, c.if-len-gt-INSTRUCTIONS_LIMIT.false) in
    let is : held_items c.in_ok-self-inside-in-One.field-0 ≡ arc_value c.in-One.first ∷ c.args.other.now = search rules in
    more_fit c.in-One.first c.args.other.now c.in_ok-self-inside-in-One.field-0
    (subst Fits c.in-One.is c.self.invariant) few c.proper.ensures is
