use Rattle.std.proofs.Common.{Ok, ap, ◌∙◌}
use Rattle.asm_journal.specs.Instruction.{IsInstructionForm}
use Rattle.asm_journal.specs.Event.{IsMoveOf}
use Rattle.asm_journal.proofs.FrontObjects.{made_begins, made_of}
use Rattle.asm_journal.proofs.front.call.InstructionsFromFront.from_front.Goals as goal

pub returns : goal.returns
returns c =
    let instrs = c.in-Ok-Some.instrs in
    made_begins IsInstructionForm IsMoveOf c.args.text.now c.in_ok-list.rest.now c.in_ok-list.list instrs c.in_ok-list.ensures
    (made_of IsMoveOf (λ is. is) c.into_vec.result.items c.in_ok-list.list c.instructions_of.result instrs c.into_vec.ensures
    c.instructions_of.ensures (c.in-Ok-Some.is ∙ ap Ok c.in-Ok-Some.field-0-is))
