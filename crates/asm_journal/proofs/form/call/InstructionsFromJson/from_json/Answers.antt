use Rattle.std.proofs.Common.{subst}
use Rattle.serde_json.specs.View.{view}
use Rattle.asm_journal.specs.Shape.{IsParsed}
use Rattle.asm_journal.specs.Instruction.{IsInstructionForm}
use Rattle.asm_journal.specs.Event.{IsMoveOf, IsMoveForm}
use Rattle.asm_journal.proofs.Carried.{refused}
use Rattle.asm_journal.proofs.Elements.{made_read}
use Rattle.asm_journal.proofs.Events.{instruction_once}
use Rattle.asm_journal.proofs.form.call.InstructionsFromJson.from_json.Goals as goal

pub returns-in_err-read : goal.returns-in_err-read
returns-in_err-read c =
    refused IsMoveForm (view c.args.json.now) _ c.in_err-read.field-0.0 c.from_residual.ensures.1
    (λ fault M h. c.in_err-read.ensures fault h.0 h.1)

pub returns-in-Some : goal.returns-in-Some
returns-in-Some c =
    let d = view c.args.json.now in
    let o = c.in_ok-instrs.field-0 in
    let made = subst (λ items. IsParsed IsMoveOf items o) c.into_vec-list.ensures c.in_ok-instrs.ensures in
    subst (IsParsed IsMoveForm d) c.in-Some.is (made_read IsInstructionForm IsMoveOf instruction_once d c.in_ok-read.read o c.in_ok-read.ensures made)

pub returns-in-None : goal.returns-in-None
returns-in-None c =
    let d = view c.args.json.now in
    let o = c.in_ok-instrs.field-0 in
    let made = subst (λ items. IsParsed IsMoveOf items o) c.into_vec-list.ensures c.in_ok-instrs.ensures in
    λ fault. subst (IsParsed IsMoveForm d) c.in-None.is (made_read IsInstructionForm IsMoveOf instruction_once d c.in_ok-read.read o c.in_ok-read.ensures made)
