use Rattle.std.proofs.Common.{◌≡◌, ◌<◌, ◌∷◌, ◌∙◌, [], length, rules, ap, sym, subst, arith}
use Rattle.std.proofs.lemmas.List.Elements.{All-cons, All-nil}
use Rattle.std.specs.Arc.{arc_value}
use Rattle.asm_update.specs.Action.{IsProperInstruction}
use Rattle.asm_update.specs.Limits.{instructions_limit}
use Rattle.asm_update.specs.Shared.{held_items}
use Rattle.asm_update.specs.declared.instructions.Held.{Held}
use Rattle.asm_update.proofs.SharedLists.{Fits, longer_fits, more_fit}
use Rattle.asm_update.proofs.instructions.Instructions.push.Goals as goal

pub invariant_of-self-in_err-self-inside-in-One : goal.invariant_of-self-in_err-self-inside-in-One
invariant_of-self-in_err-self-inside-in-One c = subst Fits c.in-One.is c.self.invariant

pub invariant_of-self-in_ok-self-inside-in-One : goal.invariant_of-self-in_ok-self-inside-in-One
invariant_of-self-in_ok-self-inside-in-One c =
    let is : held_items c.in_ok-self-inside-in-One.field-0 ≡ arc_value c.in-One.first ∷ c.args.instruction ∷ [] = search rules in
    more_fit c.in-One.first (c.args.instruction ∷ []) c.in_ok-self-inside-in-One.field-0
    (subst Fits c.in-One.is c.self.invariant) (omega arith)
    (All-cons IsProperInstruction c.args.instruction [] c.proper_instruction.ensures (All-nil IsProperInstruction)) is

pub invariant_of-self-in_ok-push_to-in-Many : goal.invariant_of-self-in_ok-push_to-in-Many
invariant_of-self-in_ok-push_to-in-Many c =
    let fits = subst Fits c.in-Many.is c.self.invariant in
    let old = c.in-Many.list.value.items in
    let count : length c.args.self.now ≡ length old = ap length (sym c.self.view_is) ∙ ap (λ (held : Held). length (held_items held)) c.in-Many.is in
    let few : length old < instructions_limit = omega (arith, count, c.len.ensures.len, c.len.ensures.few, c.if-len-eq-INSTRUCTIONS_LIMIT.false) in
    longer_fits old c.push_to.new.list.value.items c.args.instruction few fits.1 c.proper_instruction.ensures
    c.in_ok-push_to-in-Many.ensures.ok
