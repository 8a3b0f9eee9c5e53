use Rattle.asm_step.proofs.OneMove.{one_alone, one_does, one_keeps}
use Rattle.asm_step.proofs.Standing.{stands}
use Rattle.asm_step.proofs.step.Step.as_move_in_place.Goals as goal

pub returns-in-Some-clause-one : goal.returns-in-Some-clause-one
returns-in-Some-clause-one c = one_alone c.args.self.now c.in-Some.one.now c.in-Some.ensures

pub returns-in-Some-clause-stands : goal.returns-in-Some-clause-stands
returns-in-Some-clause-stands c a old groups B laws step proper has =
    let s = c.args.self.now in
    let one = c.in-Some.one.now in
    let is = one_alone s one c.in-Some.ensures in
    stands laws old s groups step one B (one_does a.part old s groups one step is) (one_keeps a.part old s groups one step is) proper has
