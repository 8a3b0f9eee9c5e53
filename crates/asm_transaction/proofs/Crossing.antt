-- A transaction may be sent to another thread.
use denote.Param.Send.{IsSend, sendable}
use Rattle.std.proofs.Crossing.{Vec-send}
use Rattle.asm_state.proofs.Crossing.{named_is_sent}
use Rattle.asm_state.specs.contracts.scanned.Scanned as Scanned
use Rattle.asm_step.proofs.Crossing.{step_is_sent}
use Rattle.asm_transaction.specs.contracts.transaction.Transaction as Transaction
use Rattle.asm_transaction.specs.contracts.transaction.Transaction.TheInside as Inside

scanned_is_sent : IsSend Scanned.the_row
scanned_is_sent = search (sendable, Vec-send) depth 20

inside_is_sent : IsSend Inside.the_row
inside_is_sent = search (sendable, Vec-send, step_is_sent, named_is_sent, scanned_is_sent) depth 20

pub transaction_is_sent : IsSend Transaction.the_row
transaction_is_sent = search (sendable, inside_is_sent) depth 20
