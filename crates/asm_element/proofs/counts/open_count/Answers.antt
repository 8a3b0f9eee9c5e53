use Rattle.std.proofs.Common.{◌≡◌, length, arith}
use Rattle.asm_element.proofs.Slots.{rotated}
use Rattle.asm_element.proofs.counts.open_count.Goals as goal

pub returns : goal.returns
returns c = rotated c.args.counts.now c.rotate_right.new.self c.args.at c.args.n (omega arith) c.requires c.rotate_right.ensures.after
