use Rattle.std.proofs.Common.{List, All, subst, sym}
use Rattle.std.proofs.lemmas.List.{take_all}
use Rattle.std.proofs.lemmas.List.Elements.{All-cons, All-more}
use Rattle.asm_update.specs.Action.{IsProperInstruction}
use Rattle.asm_update.specs.Move.{Move}
use Rattle.asm_step.proofs.popped.Popped.proper.Goals as goal

pub loop-next-preserved : goal.loop-next-preserved
loop-next-preserved c =
    All-more (All IsProperInstruction) c.moves.result.1.now c.loop-next.next-index c.next-item.result
    c.loop-next-test.true c.loop-next.invariant
    (subst (All IsProperInstruction) c.next-item.is c.proper-in-loop-next.ensures)

pub returns : goal.returns
returns c =
    let items = c.moves.result.1.now in
    subst (λ (Ms : List Move). All (All IsProperInstruction) Ms) (sym c.moves.ensures)
    (All-cons (All IsProperInstruction) c.moves.result.0.now items c.proper.ensures
    (subst (λ (Ms : List Move). All (All IsProperInstruction) Ms)
    (take_all c.loop-next.next-index items c.loop-next-test.false) c.loop-next.invariant))
