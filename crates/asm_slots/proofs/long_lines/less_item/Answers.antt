use Rattle.asm_slots.proofs.LineRooms.{left_swap}
use Rattle.asm_slots.proofs.long_lines.less_item.Goals as goal

pub returns : goal.returns
returns c = left_swap c.less-2.result c.args.length c.args.left c.in_ok-less.field-0 c.in_ok-less.ensures c.less-2.ensures
