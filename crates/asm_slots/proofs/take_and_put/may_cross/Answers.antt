use Rattle.asm_slots.proofs.Crossing.{content_is_sent}
use Rattle.asm_slots.proofs.take_and_put.may_cross.Goals as goal

pub returns : goal.returns
returns c = content_is_sent
