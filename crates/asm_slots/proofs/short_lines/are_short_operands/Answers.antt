use Rattle.std.proofs.Common.{ℤ, ap, arith, of_z, rules, sym, to_z, w64, ◌≡◌, ◌∙◌, ◌∷◌, []}
use Rattle.std.proofs.Math.Facts.{to_z-of_z}
use Rattle.asm_journal.specs.Element.{element_json_of, integer_json_of}
use Rattle.asm_journal.specs.Instruction.{operands_of}
use Rattle.asm_journal.specs.Shape.{number_json_of}
use Rattle.asm_journal.specs.Value.{value_json_of}
use Rattle.asm_slots.proofs.ShortParts.{one_short_operand, two_short_operands}
use Rattle.asm_slots.proofs.short_lines.are_short_operands.Goals as goal

pub returns-in-Regular : goal.returns-in-Regular
returns-in-Regular c = λ short. one_short_operand c.args.action.now (value_json_of c.in-Regular.value) (ap operands_of c.in-Regular.is) (c.is_short_value.ensures short)

pub returns-in-SetAdd : goal.returns-in-SetAdd
returns-in-SetAdd c = λ short. one_short_operand c.args.action.now (element_json_of c.in-SetAdd.element) (ap operands_of c.in-SetAdd.is) (c.is_short.ensures short)

pub returns-in-SetRemove : goal.returns-in-SetRemove
returns-in-SetRemove c = λ short. one_short_operand c.args.action.now (element_json_of c.in-SetRemove.element) (ap operands_of c.in-SetRemove.is) (c.is_short-in-SetRemove.ensures short)

pub returns-in-Increment : goal.returns-in-Increment
returns-in-Increment c = λ short.
    let n : ℤ = c.in-Increment.number in
    let same : to_z w64 (of_z w64 n) ≡ n = to_z-of_z {w = w64} (record { sfits = search rules }) in
    one_short_operand c.args.action.now (integer_json_of (to_z w64 (of_z w64 n)))
    (ap operands_of c.in-Increment.is ∙ ap (λ z. integer_json_of z ∷ []) (sym same)) (omega (arith, c.short_integer.ensures))

pub returns-in-BagAdd : goal.returns-in-BagAdd
returns-in-BagAdd c = λ short.
    two_short_operands c.args.action.now (element_json_of c.in-BagAdd.element) (number_json_of c.get.result)
    (ap operands_of c.in-BagAdd.is ∙ ap (λ n. element_json_of c.in-BagAdd.element ∷ number_json_of n ∷ []) (sym c.get.ensures.value)) (c.is_short_counted.ensures short)

pub returns-in-BagRemove : goal.returns-in-BagRemove
returns-in-BagRemove c = λ short.
    two_short_operands c.args.action.now (element_json_of c.in-BagRemove.element) (number_json_of c.get-in-BagRemove.result)
    (ap operands_of c.in-BagRemove.is ∙ ap (λ n. element_json_of c.in-BagRemove.element ∷ number_json_of n ∷ []) (sym c.get-in-BagRemove.ensures.value))
    (c.is_short_counted-in-BagRemove.ensures short)
