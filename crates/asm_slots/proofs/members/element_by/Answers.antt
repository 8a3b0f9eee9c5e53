use Rattle.std.proofs.Common.{ℤ, subst, w32, w64, to_z, of_z}
use Rattle.std.proofs.Math.Facts.{to_z-of_z}
use Rattle.std.proofs.lemmas.Result.{err_from_is_err_and}
use Rattle.asm_slots.specs.Answers.{IsNoOperandFor}
use Rattle.asm_slots.proofs.MembersOfSteps.{no_element_for}
use Rattle.asm_slots.proofs.members.element_by.Goals as goal

pub returns-in_err-value-clause-err : goal.returns-in_err-value-clause-err
returns-in_err-value-clause-err c =
    let p = err_from_is_err_and c.from_residual.result c.from_residual.ensures.1 in
    let code = c.in_err-value.field-0.0 in let bytes = c.args.bytes.now in
    let none = subst (λ (k : ℤ). IsNoOperandFor k c.args.number bytes code) (to_z-of_z {w = w32} c.ranges.kind)
    (subst (λ (n : ℤ). IsNoOperandFor (to_z w32 (of_z w32 c.args.kind)) n bytes code) (to_z-of_z {w = w64} c.ranges.number) c.in_err-value.ensures.err) in
    rw (p.1, p.2) (no_element_for c.args.kind c.args.number bytes code none)
