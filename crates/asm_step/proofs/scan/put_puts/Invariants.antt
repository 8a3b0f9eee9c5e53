use Rattle.std.proofs.Common.{◌≡◌, ◌∷◌, [], take}
use Rattle.std.specs.FinMap as finite
use Rattle.asm_element.specs.Place.{Place}
use Rattle.asm_update.specs.State.{val}
use Rattle.asm_step.specs.Layers.{scanned}
use Rattle.asm_step.specs.Outcomes.{frame, puts_on}
use Rattle.asm_step.proofs.scan.put_puts.Given as goal

-- the puts so far came in
abbrev pub invariant-loop-put : goal.invariant-loop-put
invariant-loop-put l = (q : Place) → val l.plain q
    ≡ scanned (frame (puts_on finite.empty (take l.put-index l.puts)) ∷ []) (val l.fn.plain) l.name q
