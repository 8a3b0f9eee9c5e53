use Rattle.asm_journal.proofs.FrontObjects.{event_begins}
use Rattle.asm_journal.proofs.front.call.EventFromFront.from_front.Goals as goal

pub returns : goal.returns
returns c =
    event_begins c.args.text.now c.in_ok-inside.inside.now c.in_ok-agent.left.now c.in_ok-second.second.now c.in_ok-call.next.now
    c.in_ok-third.third.now c.in_ok-answer.end.now c.in_ok-rest.rest.now c.in_ok-agent.agent c.in_ok-call.call c.in_ok-answer.answer
    c.in_ok-inside.ensures c.in_ok-agent.ensures c.in_ok-second.ensures c.in_ok-call.ensures c.in_ok-third.ensures c.in_ok-answer.ensures
    c.in_ok-rest.ensures
