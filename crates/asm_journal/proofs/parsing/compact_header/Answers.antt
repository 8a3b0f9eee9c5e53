use Rattle.asm_journal.proofs.FrontObjects.{compact_header_line}
use Rattle.asm_journal.proofs.parsing.compact_header.Goals as goal

pub returns : goal.returns
returns c =
    compact_header_line c.args.text.now c.in_ok-first.first.now c.in_ok-second.second.now c.in_ok-third.third.now
    c.in_ok-fourth.fourth.now c.in_ok-agents.left.now c.in_ok-capacity.next.now c.in_ok-events.later.now c.in_ok-init.end.now
    c.in_ok-rest.rest.now c.in_ok-agents.agents c.in_ok-capacity.capacity c.in_ok-events.events c.in_ok-init.init
    c.in_ok-first.ensures c.in_ok-agents.ensures c.in_ok-second.ensures c.in_ok-capacity.ensures c.in_ok-third.ensures
    c.in_ok-events.ensures c.in_ok-fourth.ensures c.in_ok-init.ensures c.in_ok-rest.ensures
    (c.are_supported.ensures.0 c.if-not-are_supported.false)
