use Rattle.std.proofs.Common.{◌≤◌}
use Rattle.std.specs.Prelude.{All, drop}
use Rattle.asm_slots.specs.LongLines.{spelled}
use Rattle.asm_slots.proofs.short_lines.are_short.Given as goal

abbrev pub invariant-loop-item : goal.invariant-loop-item
invariant-loop-item g l =
    let short = λ (x : g.row.T.Denot). spelled (g.T.ToJson.json_of x) ≤ g.T.Short.most in
    All short (drop l.item-index l.items) → All short l.items
