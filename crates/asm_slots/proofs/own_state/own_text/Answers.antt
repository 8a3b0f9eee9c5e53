use Rattle.std.proofs.Common.{string_bytes}
use Rattle.asm_slots.proofs.OwnStates.{own_state}
use Rattle.asm_slots.proofs.own_state.own_text.Goals as goal

pub returns : goal.returns
returns c =
    own_state c.args.agent.now c.state-state.result.now c.in_ok-plain.plain c.number.result (string_bytes c.in_ok-text.text)
    c.state-state.ensures.following c.state-state.ensures.number c.number.ensures c.proper.ensures c.in_ok-plain.ensures c.in_ok-text.ensures
