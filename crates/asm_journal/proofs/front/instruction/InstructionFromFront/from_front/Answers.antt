use Rattle.asm_journal.proofs.FrontObjects.{instruction_begins}
use Rattle.asm_journal.proofs.front.instruction.InstructionFromFront.from_front.Goals as goal

pub returns : goal.returns
returns c =
    instruction_begins c.args.text.now c.in_ok-inside.inside.now c.in_ok-word.left.now c.in_ok-place.place.now c.in_ok-at.end.now
    c.in_ok-operands.operands.now c.in_ok-action.rest.now c.in_ok-word.word.now c.in_ok-at.at c.in_ok-action.action c.in_ok-inside.ensures
    c.in_ok-word.ensures c.in_ok-place.ensures c.in_ok-at.ensures c.in_ok-operands.ensures c.in_ok-action.ensures
