use Rattle.std.proofs.Common.{◌≡◌, ◌⊎◌, Option, Some, rules, string_bytes, subst, sym}
use Rattle.asm_slots.specs.Answers.{EmptyOr, IsMemory}
use Rattle.asm_slots.specs.Audits.{HasNoState, IsAuditState}
use Rattle.asm_slots.specs.Slots.{Holds, Lacks, an_audit, content_of}
use Rattle.asm_slots.specs.declared.codes.Code.TheVariants as code
use Rattle.asm_slots.specs.declared.content.Content.{Content}
use Rattle.asm_slots.specs.declared.content.Content.TheVariants as content
use Rattle.asm_slots.proofs.WrittenTexts.{written}
use Rattle.asm_slots.proofs.auditing.audit_state.Goals as goal

pub returns-clause-text : goal.returns-clause-text
returns-clause-text c =
    let audit : content_of c.args.slot.now ≡ Some (content.Audit c.in-Audit.audit) = search rules in
    let slot = content_of c.args.slot.now in
    written (λ text. Holds an_audit slot (λ a. IsAuditState a text))
    (EmptyOr (Lacks an_audit slot) (λ k. IsMemory k ⊎ ((k ≡ code.NoPart) × Holds an_audit slot HasNoState)))
    c.as_bytes.result.now (string_bytes c.in_ok-text.text) c.args.out.now c.write.new.out c.write.new.written c.write.result
    c.as_bytes.ensures.value
    (subst (λ (x : Option Content). Holds an_audit x (λ a. IsAuditState a (string_bytes c.in_ok-text.text))) (sym audit) c.in_ok-text.ensures.ok)
    c.write.ensures.written c.write.ensures.copied c.write.ensures.small c.write.ensures.room c.write.ensures.unwritten
