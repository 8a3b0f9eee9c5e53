use Rattle.std.proofs.Common.{sym, ◌∙◌}
use Rattle.asm_storage.proofs.SureFires.{one_agrees}
use Rattle.asm_storage.proofs.part.judging.are_agreed.Goals as goal

pub returns-then-is_some : goal.returns-then-is_some
returns-then-is_some c =
    one_agrees c.args.instrs.now c.only_put.result c.only_put.ensures.some (sym c.is_some.ensures ∙ c.if-is_some.true)
