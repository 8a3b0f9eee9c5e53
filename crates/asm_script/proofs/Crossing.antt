-- Several threads may read the steps of a script: a term's own parts may be read by them, and terms are finite.
use denote.RattleType.{RattleType}
use denote.Hole.{as_row}
use denote.Hole.FixSend.{Sends, Syncs, fix_send, fix_sync}
use denote.Param.Send.{IsSend, IsSync, plain_send, plain_sync, sendable}
use denote.Param.SendFields.{as_row_send, as_row_sync, declared_send, declared_sync, variants_send, variants_sync}
use denote.Struct.Field.{row_field}
use Rattle.std.proofs.Crossing.{Box-send, Box-sync, Vec-send, Vec-sync}
use Rattle.std.specs.contracts.alloc.Global as Global
use Rattle.std.specs.contracts.boxed.Box as Box
use Rattle.std.specs.contracts.impls.GlobalAllocator.TheImpl.{ghosts}
use Rattle.asm_element.proofs.items.Items.TheSendSync as items
use Rattle.asm_element.proofs.Crossing.{location_is_sent, location_is_shared, value_is_sent, value_is_shared}
use Rattle.asm_element.specs.contracts.items.Items as Items
use Rattle.asm_element.specs.contracts.location.Location as Location
use Rattle.asm_element.specs.contracts.value.Value as Value
use Rattle.asm_update.proofs.Crossing.{instructions_is_sent, instructions_is_shared}
use Rattle.asm_update.proofs.action.Amount.TheSendSync as amount
use Rattle.asm_script.specs.contracts.block.Block as Block
use Rattle.asm_script.specs.contracts.block.Block.TheInside as InsideBlock
use Rattle.asm_script.specs.contracts.block.Form as Form
use Rattle.asm_script.specs.contracts.block.TermAction as TermAction
use Rattle.asm_script.specs.contracts.block.TermInstruction as TermInstruction
use Rattle.asm_script.specs.contracts.step.Step as Step
use Rattle.asm_script.specs.contracts.step.Step.TheInside as InsideStep
use Rattle.asm_script.specs.contracts.term.Term as Term
use Rattle.asm_script.specs.contracts.term.Term.TheKnot as Knot

-- a term, where the terms in it may be read
layer_sync : (T : RattleType) → IsSync T → IsSync (Knot.layer-Term T T)
layer_sync T t =
    let value = as_row_sync (row_field (as_row Value.the_field)) value_is_shared in
    let location = as_row_sync (row_field (as_row Location.the_field)) location_is_shared in
    let box = as_row_sync (row_field (Box.the_row T Global.the_row ghosts)) (Box-sync T t) in
    variants_sync (Knot.type-Term T T) ((value, tt), ((location, tt), ((box, (box, tt)), tt)))

-- so each term
hole_sync : IsSync Term.the_hole
hole_sync = fix_sync Term.the_ring (Term.by_members (λ i. Syncs Term.the_ring i) (record {
  sync = λ h each. layer_sync (h Term.the_member) (each Term.the_member);
})) Term.the_member

term_sync : IsSync Term.the_row
term_sync = variants_sync Term.enum (
  (value_is_shared, tt),
  ((location_is_shared, tt), ((Box-sync Term.the_hole hole_sync, (Box-sync Term.the_hole hole_sync, tt)), tt)),
)

action_sync : IsSync TermAction.the_row
action_sync = variants_sync TermAction.enum (
  (term_sync, tt),
  (
    (term_sync, tt),
    (
      (term_sync, tt),
      ((term_sync, (amount.the_sync, tt)), ((term_sync, (amount.the_sync, tt)), ((plain_sync _ _ _ _ _, tt), tt))),
    ),
  ),
)

instruction_sync : IsSync TermInstruction.the_row
instruction_sync = declared_sync TermInstruction.the_type (location_is_shared, (action_sync, tt))

-- a block is kept in either form
form_sync : IsSync Form.the_row
form_sync = variants_sync Form.enum (
  (search (sendable, Vec-sync, instruction_sync) depth 20, tt),
  ((instructions_is_shared, tt), tt),
)

inside_block_sync : IsSync InsideBlock.the_row
inside_block_sync = declared_sync InsideBlock.the_type (form_sync, tt)

block_sync : IsSync Block.the_row
block_sync = search (sendable, inside_block_sync) depth 20

inside_step_sync : IsSync InsideStep.the_row
inside_step_sync = search (sendable, Vec-sync, block_sync, location_is_shared) depth 20

step_sync : IsSync Step.the_row
step_sync = search (sendable, inside_step_sync) depth 20

-- a term, where the terms in it may go to another thread
layer_send : (T : RattleType) → IsSend T → IsSend (Knot.layer-Term T T)
layer_send T t =
    let value = as_row_send (row_field (as_row Value.the_field)) value_is_sent in
    let location = as_row_send (row_field (as_row Location.the_field)) location_is_sent in
    let box = as_row_send (row_field (Box.the_row T Global.the_row ghosts)) (Box-send T t) in
    variants_send (Knot.type-Term T T) ((value, tt), ((location, tt), ((box, (box, tt)), tt)))

-- so each term
hole_send : IsSend Term.the_hole
hole_send = fix_send Term.the_ring (Term.by_members (λ i. Sends Term.the_ring i) (record {
  send = λ h each. layer_send (h Term.the_member) (each Term.the_member);
})) Term.the_member

term_send : IsSend Term.the_row
term_send = variants_send Term.enum (
  (value_is_sent, tt),
  ((location_is_sent, tt), ((Box-send Term.the_hole hole_send, (Box-send Term.the_hole hole_send, tt)), tt)),
)

action_send : IsSend TermAction.the_row
action_send = variants_send TermAction.enum (
  (term_send, tt),
  (
    (term_send, tt),
    (
      (term_send, tt),
      ((term_send, (amount.the_send, tt)), ((term_send, (amount.the_send, tt)), ((plain_send _ _ _ _ _, tt), tt))),
    ),
  ),
)

instruction_send : IsSend TermInstruction.the_row
instruction_send = declared_send TermInstruction.the_type (location_is_sent, (action_send, tt))

form_send : IsSend Form.the_row
form_send = variants_send Form.enum (
  (search (sendable, Vec-send, instruction_send) depth 20, tt),
  ((instructions_is_sent, tt), tt),
)

inside_block_send : IsSend InsideBlock.the_row
inside_block_send = declared_send InsideBlock.the_type (form_send, tt)

block_send : IsSend Block.the_row
block_send = search (sendable, inside_block_send) depth 20

inside_step_send : IsSend InsideStep.the_row
inside_step_send = search (sendable, Vec-send, block_send, location_is_sent) depth 20

step_send : IsSend Step.the_row
step_send = search (sendable, inside_step_send) depth 20

pub steps_sync : IsSync (Items.the_row Step.the_row)
steps_sync = items.the_sync Step.the_row step_send step_sync
