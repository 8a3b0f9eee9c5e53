-- A step may go to another thread, and so may what a pop hands back.
use denote.Param.Send.{IsSend, sendable}
use denote.Param.SendFields.{declared_send, variants_send}
use Rattle.std.proofs.Crossing.{Vec-send}
use Rattle.std.proofs.MapsCrossing.{BTreeMap-send}
use Rattle.asm_element.proofs.Crossing.{bag_is_sent, location_is_sent, set_is_sent, value_is_sent}
use Rattle.asm_update.proofs.Crossing.{instructions_is_sent}
use Rattle.asm_update.proofs.Crossing.{action_is_sent}
use Rattle.asm_step.specs.contracts.amounts.Amounts as Amounts
use Rattle.asm_step.specs.contracts.front.Front as Front
use Rattle.asm_step.specs.contracts.sides.Sides as Sides
use Rattle.asm_step.specs.contracts.layer.OwnLayer as Layer
use Rattle.asm_step.specs.contracts.outcomes.Outcome as Outcome
use Rattle.asm_step.specs.contracts.outcomes.Outcome.TheInside as InsideOutcome
use Rattle.asm_step.specs.contracts.outcomes.Outcomes as Outcomes
use Rattle.asm_step.specs.contracts.outcomes.Outcomes.TheInside as InsideOutcomes
use Rattle.asm_step.specs.contracts.own.Own as Own
use Rattle.asm_step.specs.contracts.own.Own.TheInside as InsideOwn
use Rattle.asm_step.specs.contracts.popped.Popped as Popped
use Rattle.asm_step.specs.contracts.popped.Popped.TheInside as InsidePopped
use Rattle.asm_step.specs.contracts.step.Step as Step
use Rattle.asm_step.specs.contracts.step.Step.TheInside as InsideStep

sides_is_sent : IsSend Sides.the_row
sides_is_sent = declared_send Sides.the_type (set_is_sent, (set_is_sent, tt))

amounts_is_sent : IsSend Amounts.the_row
amounts_is_sent = declared_send Amounts.the_type (bag_is_sent, (bag_is_sent, tt))

front_is_sent : IsSend Front.the_row
front_is_sent = variants_send Front.enum (tt, (tt, ((sides_is_sent, tt), ((amounts_is_sent, tt), tt))))

inside_outcome_is_sent : IsSend InsideOutcome.the_row
inside_outcome_is_sent =
    declared_send InsideOutcome.the_type (
      value_is_sent,
      (
        front_is_sent,
        (search (sendable, Vec-send, action_is_sent) depth 20, (search sendable depth 20, (search sendable depth 20, tt))),
      ),
    )

outcome_is_sent : IsSend Outcome.the_row
outcome_is_sent = search (sendable, inside_outcome_is_sent) depth 20

inside_outcomes_is_sent : IsSend InsideOutcomes.the_row
inside_outcomes_is_sent = search (sendable, BTreeMap-send, location_is_sent, outcome_is_sent) depth 20

outcomes_is_sent : IsSend Outcomes.the_row
outcomes_is_sent = search (sendable, inside_outcomes_is_sent) depth 20

inside_own_is_sent : IsSend InsideOwn.the_row
inside_own_is_sent = search (sendable, outcomes_is_sent, instructions_is_sent) depth 20

own_is_sent : IsSend Own.the_row
own_is_sent = search (sendable, inside_own_is_sent) depth 20

inside_popped_is_sent : IsSend InsidePopped.the_row
inside_popped_is_sent = search (sendable, Vec-send, instructions_is_sent) depth 20

pub popped_is_sent : IsSend Popped.the_row
popped_is_sent = search (sendable, inside_popped_is_sent) depth 20

layer_is_sent : IsSend Layer.the_row
layer_is_sent = search (sendable, own_is_sent, popped_is_sent) depth 20

inside_step_is_sent : IsSend InsideStep.the_row
inside_step_is_sent = search (sendable, Vec-send, layer_is_sent) depth 20

pub step_is_sent : IsSend Step.the_row
step_is_sent = search (sendable, inside_step_is_sent) depth 20
