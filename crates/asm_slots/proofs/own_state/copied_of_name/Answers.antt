use Rattle.std.proofs.Common.{string_bytes}
use Rattle.asm_slots.proofs.OwnStates.{own_of_name}
use Rattle.asm_slots.proofs.own_state.copied_of_name.Goals as goal

pub returns : goal.returns
returns c =
    own_of_name c.args.agent.now c.state-state.result.now c.in_ok-plain.plain c.args.name.now c.number.result
    (string_bytes c.in_ok-text.text)
    c.state-state.ensures.following c.state-state.ensures.number c.number.ensures c.proper.ensures c.in_ok-plain.ensures c.in_ok-text.ensures
