use Rattle.asm_step.proofs.Insertions.{IsComing, values_in}
use Rattle.asm_step.proofs.scan.put_each.Given as goal

-- the values of the outcomes so far came in
abbrev pub invariant-loop-at : goal.invariant-loop-at
invariant-loop-at l = IsComing l.name (values_in l.initial.at-iterator) (values_in l.at-iterator) l.initial.plain l.plain
