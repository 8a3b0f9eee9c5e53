use Rattle.std.proofs.Common.{refl}
use Rattle.std.proofs.lemmas.Result.{err_from_is_err_and}
use Rattle.asm_slots.specs.Kinds.{bytes_of}
use Rattle.asm_slots.proofs.WrittenTexts.{unread_bytes}
use Rattle.asm_slots.proofs.steps.get_one.Goals as goal

pub returns-clause-ok : goal.returns-clause-ok
returns-clause-ok c = (
  bytes_of c.in_ok-value.value,
  (
    c.in_ok-value.ensures.reached,
    (c.in_ok-value.value, c.in_ok-value.ensures.value, (c.of.ensures.kind, c.of.ensures.number, refl)),
  ),
  c.in_ok-get_value.ensures.copied,
)

pub returns-in_err-get_value-clause-err : goal.returns-in_err-get_value-clause-err
returns-in_err-get_value-clause-err c =
    let p = err_from_is_err_and c.from_residual-in_err-get_value.result c.from_residual-in_err-get_value.ensures.1 in
    rw (p.1, p.2)
    (unread_bytes c.args.at.now c.args.agent.now c.args.step.now c.in_ok-value.value c.args.out.now c.get_value.new.out
    c.get_value.new.written _ c.in_ok-value.ensures.reached c.in_ok-value.ensures.value c.in_err-get_value.ensures.err)
