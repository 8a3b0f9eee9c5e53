use Rattle.std.proofs.Common.{List, ℕ, string_bytes, subst}
use Rattle.std.proofs.lemmas.Result.{err_from_is_err_and}
use Rattle.asm_slots.specs.StepCalls.{IsFoundBy, IsNotScanned}
use Rattle.asm_slots.specs.WrittenText.{IsCopied}
use Rattle.asm_slots.proofs.WrittenTexts.{unfit}
use Rattle.asm_slots.proofs.getting_all.scan_of_name.Goals as goal

pub returns-clause-text : goal.returns-clause-text
returns-clause-text c = (
  string_bytes c.in_ok-text.text,
  (c.in_ok-text.ensures.reached, c.in_ok-text.ensures.text),
  subst (λ (t : List ℕ). IsCopied t c.args.out.now c.copy_into.new.out c.copy_into.new.written) c.as_bytes-2.ensures.value c.copy_into.ensures.copied,
)

pub returns-in_err-fit-clause-text : goal.returns-in_err-fit-clause-text
returns-in_err-fit-clause-text c =
    let p = err_from_is_err_and c.from_residual-in_err-fit.result c.from_residual-in_err-fit.ensures.1 in
    rw (p.1, p.2)
    (unfit (IsFoundBy c.args.name.now c.args.agent.now c.args.step.now) (IsNotScanned c.args.name.now c.args.agent.now c.args.step.now)
    c.as_bytes.result.now (string_bytes c.in_ok-text.text) c.args.out.now c.fit.new.written _ c.as_bytes.ensures.value
    (c.in_ok-text.ensures.reached, c.in_ok-text.ensures.text) c.in_err-fit.ensures.small c.in_err-fit.ensures.long)
