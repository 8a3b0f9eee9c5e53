use Rattle.asm_driver.proofs.Asking.{refused}
use Rattle.asm_driver.proofs.program.words.read_words.Goals as goal

pub returns-in-Err-clause-refused : goal.returns-in-Err-clause-refused
returns-in-Err-clause-refused c = refused _ _ _ c.in-Err.ensures.kinds c.refusal.ensures
