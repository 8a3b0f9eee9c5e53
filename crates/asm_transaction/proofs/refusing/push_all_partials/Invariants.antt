use Rattle.std.proofs.Common.{◌≡◌, ◌++◌, take}
use Rattle.asm_step.specs.Places.{all_partial_places}
use Rattle.asm_transaction.proofs.refusing.push_all_partials.Given as goal

-- those of the moves so far were appended
abbrev pub invariant-loop-instrs : goal.invariant-loop-instrs
invariant-loop-instrs l = l.all.items ≡ l.initial.all.items ++ all_partial_places (take l.instrs-index l.moves)
