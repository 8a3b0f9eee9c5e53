use Rattle.std.proofs.Common.{◌≡◌, ◌<◌, List, ℕ, length, sym, ap, ◌∙◌, subst, arith}
use Rattle.std.specs.Arc.{arc_value}
use Rattle.asm_element.specs.Slots.{live}
use Rattle.asm_element.proofs.Slots.{live_none}
use Rattle.asm_element.proofs.chunk.Chunk.is_dead.Goals as goal

pub returns : goal.returns
returns g c dead =
    ap live (sym c.self.view_is)
    ∙ live_none (arc_value c.self.inside.items).items (g.M.Marks.counts c.self.inside.marks) (λ k lt. c.is_none.ensures dead k (omega (arith, lt, c.self.invariant.0.1)))
