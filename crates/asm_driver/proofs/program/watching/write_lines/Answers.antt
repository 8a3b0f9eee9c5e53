use Rattle.std.proofs.Common.{List, ℕ, sym, subst, ◌∙◌}
use Rattle.std.proofs.KnownBytes.{Appends-nil}
use Rattle.std.specs.Io.KnownBytes.{Appends}
use Rattle.asm_driver.proofs.TextPieces.{nothing_left}
use Rattle.asm_driver.proofs.program.watching.write_lines.Goals as goal

pub returns-then-is_empty-clause-ok : goal.returns-then-is_empty-clause-ok
returns-then-is_empty-clause-ok g c =
    subst (λ (t : List ℕ). Appends (g.K.Sink.contents c.args.output.now) (g.K.Sink.contents c.args.output.now) t)
    (sym (nothing_left c.args.lines.now (sym c.if-is_empty.true ∙ c.is_empty.ensures)))
    (Appends-nil (g.K.Sink.contents c.args.output.now))
