use Rattle.asm_storage.proofs.Legal.{answers_decided, moves_decided}
use Rattle.asm_storage.proofs.laws.calls_decide.Goals as goal

pub returns-clause-answers : goal.returns-clause-answers
returns-clause-answers c = answers_decided

pub returns-clause-moves : goal.returns-clause-moves
returns-clause-moves c = moves_decided
