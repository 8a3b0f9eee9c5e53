use Rattle.std.proofs.Common.{sym, subst, ℕ, List}
use Rattle.asm_run.specs.Name.{IsName}
use Rattle.asm_run.proofs.Written.{name_written}
use Rattle.asm_run.proofs.name.SegmentName.to_text.Goals as goal

pub returns : goal.returns
returns c = subst (λ (t : List ℕ). IsName t c.args.self.now) (sym c.in_ok-text.ensures)
    (name_written c.args.self.now c.requires.number c.requires.previous c.requires.digest)
