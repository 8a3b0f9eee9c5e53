use Rattle.asm_explain.proofs.journal.line_of.Given as goal

-- the lines that are left in front
abbrev pub decreases-loop-left : goal.decreases-loop-left
decreases-loop-left l = l.left
