-- What is built from locations and values may cross threads.
use denote.Hole.{as_row}
use denote.Param.Send.{IsSend, IsSync, sendable}
use denote.Param.SendFields.{declared_send, declared_sync, variants_send, variants_sync}
use denote.Struct.Field.{i64-field}
use Rattle.std.proofs.Crossing.{Arc-send, Arc-sync, Vec-send, Vec-sync}
use Rattle.std.proofs.MapsCrossing.{BTreeMap-send, BTreeMap-sync}
use Rattle.asm_element.proofs.Crossing.{element_is_sent, element_is_shared, location_is_sent, location_is_shared}
use Rattle.asm_element.proofs.Crossing.{value_is_sent, value_is_shared}
use Rattle.asm_update.specs.contracts.action.Action as Action
use Rattle.asm_update.specs.contracts.action.Amount as Amount
use Rattle.asm_update.specs.contracts.action.Amount.TheInside as InsideAmount
use Rattle.asm_update.specs.contracts.action.Instruction as Instruction
use Rattle.asm_update.specs.contracts.clash.Clash as Clash
use Rattle.asm_update.specs.contracts.instructions.Instructions as Instructions
use Rattle.asm_update.specs.contracts.instructions.Instructions.TheInside as InsideInstructions
use Rattle.asm_update.specs.contracts.plain_state.PlainState as State
use Rattle.asm_update.specs.contracts.plain_state.PlainState.TheInside as InsideState

number_is_sent : IsSend (as_row i64-field)
number_is_sent = search sendable depth 20

number_is_shared : IsSync (as_row i64-field)
number_is_shared = search sendable depth 20

inside_amount_is_sent : IsSend InsideAmount.the_row
inside_amount_is_sent = search sendable depth 20

inside_amount_is_shared : IsSync InsideAmount.the_row
inside_amount_is_shared = search sendable depth 20

amount_is_sent : IsSend Amount.the_row
amount_is_sent = search (sendable, inside_amount_is_sent) depth 20

amount_is_shared : IsSync Amount.the_row
amount_is_shared = search (sendable, inside_amount_is_shared) depth 20

pub action_is_sent : IsSend Action.the_row
action_is_sent = variants_send Action.enum (
  (value_is_sent, tt),
  (
    (element_is_sent, tt),
    ((element_is_sent, tt), ((element_is_sent, (amount_is_sent, tt)), ((element_is_sent, (amount_is_sent, tt)), ((number_is_sent, tt), tt)))),
  ),
)

pub action_is_shared : IsSync Action.the_row
action_is_shared = variants_sync Action.enum (
  (value_is_shared, tt),
  (
    (element_is_shared, tt),
    ((element_is_shared, tt), ((element_is_shared, (amount_is_shared, tt)), ((element_is_shared, (amount_is_shared, tt)), ((number_is_shared, tt), tt)))),
  ),
)

pub instruction_is_sent : IsSend Instruction.the_row
instruction_is_sent = declared_send Instruction.the_type (location_is_sent, (action_is_sent, tt))

pub instruction_is_shared : IsSync Instruction.the_row
instruction_is_shared = declared_sync Instruction.the_type (location_is_shared, (action_is_shared, tt))

inside_instructions_is_sent : IsSend InsideInstructions.the_row
inside_instructions_is_sent =
    search (sendable, Arc-send, Vec-send, Vec-sync, instruction_is_sent, instruction_is_shared) depth 20

inside_instructions_is_shared : IsSync InsideInstructions.the_row
inside_instructions_is_shared =
    search (sendable, Arc-sync, Vec-send, Vec-sync, instruction_is_sent, instruction_is_shared) depth 20

pub instructions_is_sent : IsSend Instructions.the_row
instructions_is_sent = search (sendable, inside_instructions_is_sent) depth 20

pub instructions_is_shared : IsSync Instructions.the_row
instructions_is_shared = search (sendable, inside_instructions_is_shared) depth 20

inside_state_is_sent : IsSend InsideState.the_row
inside_state_is_sent = search (sendable, BTreeMap-send, location_is_sent, value_is_sent) depth 20

inside_state_is_shared : IsSync InsideState.the_row
inside_state_is_shared = search (sendable, BTreeMap-sync, location_is_shared, value_is_shared) depth 20

pub state_is_sent : IsSend State.the_row
state_is_sent = search (sendable, inside_state_is_sent) depth 20

pub state_is_shared : IsSync State.the_row
state_is_shared = search (sendable, inside_state_is_shared) depth 20

pub clash_is_sent : IsSend Clash.the_row
clash_is_sent = search (sendable, location_is_sent) depth 20
