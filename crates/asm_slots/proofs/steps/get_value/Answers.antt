use Rattle.std.proofs.Common.{◌≡◌, [], ◌∷◌, List, ℕ, IfErr, subst}
use Rattle.asm_transaction.specs.Reading.{IsUntracked}
use Rattle.asm_slots.specs.StepCalls.{Errs}
use Rattle.asm_slots.specs.WrittenText.{HasNoText}
use Rattle.asm_slots.proofs.steps.get_value.Goals as goal

pub returns-in-Some-clause-err : goal.returns-in-Some-clause-err
returns-in-Some-clause-err c =
    subst (λ (b : List ℕ). IfErr c.get_bytes.result (HasNoText (λ text. text ≡ b) (Errs (IsUntracked (c.args.at.now ∷ []) c.args.step.now))
    c.args.out.now c.get_bytes.new.out c.get_bytes.new.written)) c.in-Some.ensures.some c.get_bytes.ensures.err
