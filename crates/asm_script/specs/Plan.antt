-- What a script says: the opening state, and each agent's steps.
use Rattle.std.specs.Prelude.{List, refl}
use Rattle.std.specs.Coded.{Coded, code_by, coded×, coded_list}
use Rattle.asm_update.specs.State.{State}
use Rattle.asm_script.specs.declared.block.TermInstruction.{TermInstruction}
use Rattle.asm_script.specs.declared.step.Step.{Step}

-- an opening state, and each agent's steps
pub record Plan : Type 0 where
  pub init : State
  pub agents : List (List Step)

-- a plan is stored as a pair
abbrev pub plan_code : Coded State → Coded TermInstruction → Coded Plan
plan_code s i =
    code_by (State × List (List Step))
    (coded× s (coded_list (coded_list (coded_list (coded_list i))))) (λ p. (p.init, p.agents))
    (λ p. record { init = p.0; agents = p.1 }) (λ _. refl)
