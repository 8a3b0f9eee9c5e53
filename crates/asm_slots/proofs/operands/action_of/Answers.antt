use Rattle.std.proofs.Common.{ℤ, subst, w32, w64, to_z, of_z}
use Rattle.std.proofs.Math.Facts.{to_z-of_z}
use Rattle.std.proofs.lemmas.Result.{err_from_is_err_and}
use Rattle.asm_slots.specs.Answers.{IsNoOperandFor}
use Rattle.asm_slots.proofs.Meanings.{acted, not_acted}
use Rattle.asm_slots.proofs.Refused.{no_action}
use Rattle.asm_slots.proofs.operands.action_of.Goals as goal

pub returns-in-Some-action_on-clause-ok : goal.returns-in-Some-action_on-clause-ok
returns-in-Some-action_on-clause-ok c =
    let word = to_z-of_z {w = w32} c.ranges.verb in
    let kind = to_z-of_z {w = w32} c.ranges.kind in
    let number = to_z-of_z {w = w64} c.ranges.number in
    acted c.in-Some.verb c.args.verb (to_z w32 (of_z w32 c.args.verb)) c.args.kind (to_z w32 (of_z w32 c.args.kind)) c.args.number
    (to_z w64 (of_z w64 c.args.number)) c.args.bytes.now c.args.amount c.in_ok-value.value c.in-Some-action_on.action word kind number
    c.in-Some.ensures.some c.in-Some-action_on.ensures.some c.in_ok-value.ensures.ok

pub returns-in-None-clause-err : goal.returns-in-None-clause-err
returns-in-None-clause-err c =
    let word = to_z-of_z {w = w32} c.ranges.verb in
    let kind = to_z-of_z {w = w32} c.ranges.kind in
    let number = to_z-of_z {w = w64} c.ranges.number in
    not_acted c.in-Some.verb c.args.verb (to_z w32 (of_z w32 c.args.verb)) c.args.kind (to_z w32 (of_z w32 c.args.kind)) c.args.number
    (to_z w64 (of_z w64 c.args.number)) c.args.bytes.now c.args.amount c.in_ok-value.value word kind number c.in-Some.ensures.some
    c.in-None.ensures.none c.in_ok-value.ensures.ok

pub returns-in_err-value-clause-err : goal.returns-in_err-value-clause-err
returns-in_err-value-clause-err c =
    let p = err_from_is_err_and c.from_residual.result c.from_residual.ensures.1 in
    let code = c.in_err-value.field-0.0 in let bytes = c.args.bytes.now in
    let none = subst (λ (k : ℤ). IsNoOperandFor k c.args.number bytes code) (to_z-of_z {w = w32} c.ranges.kind)
    (subst (λ (n : ℤ). IsNoOperandFor (to_z w32 (of_z w32 c.args.kind)) n bytes code) (to_z-of_z {w = w64} c.ranges.number) c.in_err-value.ensures.err) in
    rw (p.1, p.2) (no_action c.args.verb c.args.kind c.args.number bytes c.args.amount code none)
