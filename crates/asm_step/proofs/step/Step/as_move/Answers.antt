use Rattle.asm_step.proofs.Layered.{fires_as}
use Rattle.asm_step.proofs.Insertions.{if_ok_weaker}
use Rattle.asm_step.proofs.OneMove.{one_does, one_each, one_keeps}
use Rattle.asm_step.proofs.Standing.{clash_stands, stands}
use Rattle.asm_step.proofs.step.Step.as_move.Goals as goal

pub returns-clause-all : goal.returns-clause-all
returns-clause-all c part old groups step =
    if_ok_weaker c.one.result (λ one is. one_does part old c.args.self.now groups one step is) c.one.ensures

pub returns-clause-fires : goal.returns-clause-fires
returns-clause-fires c part old groups B step proper has =
    if_ok_weaker c.one.result
    (λ one is. fires_as part old c.args.self.now groups one B step (one_does part old c.args.self.now groups one step is) proper has)
    c.one.ensures

pub returns-clause-stands : goal.returns-clause-stands
returns-clause-stands c a old groups B laws step proper has =
    let s = c.args.self.now in
    if_ok_weaker c.one.result
    (λ one is. stands laws old s groups step one B (one_does a.part old s groups one step is)
    (one_keeps a.part old s groups one step is) proper has)
    c.one.ensures

pub returns-clause-clash : goal.returns-clause-clash
returns-clause-clash c a old groups B clash laws step proper has =
    let s = c.args.self.now in
    if_ok_weaker c.one.result
    (λ one is. clash_stands laws old s groups step one B (one_does a.part old s groups one step is)
    (one_keeps a.part old s groups one step is) proper has (one_each a.part old s groups one step is) clash)
    c.one.ensures
