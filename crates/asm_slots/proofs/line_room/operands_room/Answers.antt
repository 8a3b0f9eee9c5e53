use Rattle.std.proofs.Common.{ℤ, ap, of_z, rules, sym, to_z, w64, ◌≡◌, ◌∙◌, ◌∷◌, []}
use Rattle.std.proofs.Math.Facts.{to_z-of_z}
use Rattle.asm_journal.specs.Element.{element_json_of, integer_json_of}
use Rattle.asm_journal.specs.Instruction.{operands_of}
use Rattle.asm_journal.specs.Shape.{number_json_of}
use Rattle.asm_journal.specs.Value.{value_json_of}
use Rattle.asm_slots.proofs.LineRooms.{one_operand, two_operands}
use Rattle.asm_slots.proofs.line_room.operands_room.Goals as goal

pub returns-in-Regular : goal.returns-in-Regular
returns-in-Regular c = one_operand c.take_room.result c.args.action.now (value_json_of c.in-Regular.value) _ (ap operands_of c.in-Regular.is) c.take_room.ensures

pub returns-in-SetAdd : goal.returns-in-SetAdd
returns-in-SetAdd c = one_operand c.element_room.result c.args.action.now (element_json_of c.in-SetAdd.element) _ (ap operands_of c.in-SetAdd.is) c.element_room.ensures

pub returns-in-SetRemove : goal.returns-in-SetRemove
returns-in-SetRemove c = one_operand c.element_room-in-SetRemove.result c.args.action.now (element_json_of c.in-SetRemove.element) _ (ap operands_of c.in-SetRemove.is) c.element_room-in-SetRemove.ensures

pub returns-in-Increment : goal.returns-in-Increment
returns-in-Increment c =
    let n : ℤ = c.in-Increment.number in
    let same : to_z w64 (of_z w64 n) ≡ n = to_z-of_z {w = w64} (record { sfits = search rules }) in
    one_operand c.integer_room.result c.args.action.now (integer_json_of (to_z w64 (of_z w64 n))) _
    (ap operands_of c.in-Increment.is ∙ ap (λ z. integer_json_of z ∷ []) (sym same)) c.integer_room.ensures

pub returns-in-BagAdd : goal.returns-in-BagAdd
returns-in-BagAdd c =
    two_operands c.counted_room.result c.args.action.now (element_json_of c.in-BagAdd.element) (number_json_of c.get.result) _
    (ap operands_of c.in-BagAdd.is ∙ ap (λ n. element_json_of c.in-BagAdd.element ∷ number_json_of n ∷ []) (sym c.get.ensures.value)) c.counted_room.ensures

pub returns-in-BagRemove : goal.returns-in-BagRemove
returns-in-BagRemove c =
    two_operands c.counted_room-in-BagRemove.result c.args.action.now (element_json_of c.in-BagRemove.element) (number_json_of c.get-in-BagRemove.result) _
    (ap operands_of c.in-BagRemove.is ∙ ap (λ n. element_json_of c.in-BagRemove.element ∷ number_json_of n ∷ []) (sym c.get-in-BagRemove.ensures.value)) c.counted_room-in-BagRemove.ensures
