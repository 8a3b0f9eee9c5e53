use Rattle.std.proofs.Common.{string_bytes}
use Rattle.asm_slots.proofs.OwnStates.{own_peek}
use Rattle.asm_slots.proofs.own_state.peeked.Goals as goal

pub returns : goal.returns
returns c =
    own_peek c.args.agent.now c.state-state.result.now c.number.result (string_bytes c.in_ok-text.text) c.args.locations.now
    c.state-state.ensures.following c.state-state.ensures.number c.number.ensures c.in_ok-text.ensures
