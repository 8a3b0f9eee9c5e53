use Rattle.std.proofs.Common.{ℤ, subst, w32, w64, to_z, of_z}
use Rattle.std.proofs.Math.Facts.{to_z-of_z}
use Rattle.std.proofs.lemmas.Result.{err_from_is_err_and}
use Rattle.asm_slots.specs.Answers.{IsNoElementFor}
use Rattle.asm_slots.proofs.Refused.{no_operand}
use Rattle.asm_slots.proofs.Meanings.{not_by}
use Rattle.asm_slots.proofs.operands.value_of.Goals as goal

pub returns-in_err-element_of-clause-err : goal.returns-in_err-element_of-clause-err
returns-in_err-element_of-clause-err c =
    let p = err_from_is_err_and c.from_residual.result c.from_residual.ensures.1 in
    let code = c.in_err-element_of.field-0.0 in let bytes = c.args.bytes.now in
    let none = subst (λ (k : ℤ). IsNoElementFor k c.args.number bytes code) (to_z-of_z {w = w32} c.ranges.kind)
    (subst (λ (n : ℤ). IsNoElementFor (to_z w32 (of_z w32 c.args.kind)) n bytes code) (to_z-of_z {w = w64} c.ranges.number) c.in_err-element_of.ensures.err) in
    rw (p.1, p.2) (no_operand c.args.kind c.args.number bytes code (not_by c.args.kind c.if-kind-eq-LIST.false c.if-kind-eq-SET.false c.if-kind-eq-BAG.false) none)
