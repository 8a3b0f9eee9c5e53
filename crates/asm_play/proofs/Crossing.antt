-- Several threads may read the steps of a script. An agent may go to a thread, and come back from it with the ends of
-- its steps.
use denote.Hole.{as_row}
use denote.RattleType.{RattleType}
use denote.Param.Send.{IsSend, sendable}
use denote.Param.SendFields.{declared_send, variants_send}
use denote.Struct.Field.{i64-field, u32-field, usize-field}
use denote.Ref.{NamedLft}
use Rattle.std.specs.contracts.option.Option.{the_row as OptionOf}
use Rattle.std.proofs.Crossing.{Vec-send}
use Rattle.asm_element.specs.contracts.location.Location as Location
use Rattle.asm_element.proofs.Crossing.{location_is_sent, value_is_sent}
pub use Rattle.asm_script.proofs.Crossing.{steps_sync}
pub use Rattle.asm_storage.proofs.Standard.{standard_agent_is_sent}
use Rattle.asm_storage.proofs.Standard.{standard, standard_ghosts}
use Rattle.asm_update.proofs.Crossing.{clash_is_sent}
use Rattle.asm_play.specs.contracts.step_end.StepEnd as StepEnd
use Rattle.asm_script.specs.contracts.fault.FaultyTerm as FaultyTerm
use Rattle.asm_script.specs.contracts.term.Found as Found
use Rattle.asm_script.specs.contracts.term.NoValue as NoValue
use Rattle.asm_play.specs.contracts.player.PlayedAgent as PlayedAgent

option_is_sent : (R : RattleType) → IsSend R → IsSend (OptionOf R)
option_is_sent R s = search sendable depth 12

found_is_sent : IsSend Found.the_row
found_is_sent =
    declared_send Found.the_type (option_is_sent Location.the_row location_is_sent, (value_is_sent, tt))

number_is_sent : IsSend (as_row i64-field)
number_is_sent = search sendable depth 20

place_is_sent : IsSend (as_row usize-field)
place_is_sent = search sendable depth 20

no_value_is_sent : IsSend NoValue.the_row
no_value_is_sent =
    variants_send NoValue.enum ((found_is_sent, tt), ((found_is_sent, tt), ((number_is_sent, (number_is_sent, tt)), tt)))

faulty_term_is_sent : IsSend FaultyTerm.the_row
faulty_term_is_sent = declared_send FaultyTerm.the_type (place_is_sent, (place_is_sent, (no_value_is_sent, tt)))

move_number_is_sent : IsSend (as_row u32-field)
move_number_is_sent = search sendable depth 20

end_is_sent : IsSend StepEnd.the_row
end_is_sent = variants_send StepEnd.enum (
  (move_number_is_sent, tt),
  ((clash_is_sent, tt), (tt, ((faulty_term_is_sent, tt), ((location_is_sent, tt), (tt, (tt, tt)))))),
)

-- what a worker hands back, with the program's aggregator
pub played_agent_is_sent : (κ : NamedLft) → IsSend (PlayedAgent.the_row κ standard standard_ghosts)
played_agent_is_sent κ =
    declared_send (PlayedAgent.the_type κ standard standard_ghosts)
    (standard_agent_is_sent κ, (search (sendable, Vec-send, end_is_sent) depth 20, tt))
