use Rattle.std.proofs.Common.{map}
use Rattle.asm_trace.proofs.Making.{AreAlike, element_in}
use Rattle.asm_trace.proofs.bags.note_all.Given as goal

-- the set, with what is left to come, is as the first one with all
abbrev pub invariant-loop-element : goal.invariant-loop-element
invariant-loop-element l =
    AreAlike l.old l.new l.set (map element_in l.element-iterator) l.initial.set (map element_in l.initial.element-iterator)
