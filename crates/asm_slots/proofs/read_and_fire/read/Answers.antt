use Rattle.asm_slots.specs.Slots.{content_of}
use Rattle.asm_slots.proofs.ShortLines.{not_read}
use Rattle.asm_slots.proofs.read_and_fire.read.Goals as goal

pub returns-in-Err : goal.returns-in-Err
returns-in-Err c =
    not_read c.args.locations.now (content_of c.args.agent.now) (content_of c.put_agent.new.slot) c.in-Some.inner c.in-Err.code
    c.in-Some.ensures.some c.put_agent.ensures c.in-Err.ensures.err
