use Rattle.std.proofs.Common.{refl, subst, sym}
use Rattle.asm_storage.specs.Part.{agent_of}
use Rattle.asm_transaction.specs.Record.{IsUnvalidated}
use Rattle.asm_transaction.proofs.Recorded.{none_declared, some_declared, unvalidated}
use Rattle.asm_transaction.proofs.recording.read_named_in.Goals as goal

pub returns-then-is_empty-clause-read : goal.returns-then-is_empty-clause-read
returns-then-is_empty-clause-read g c =
    (none_declared c.args.reads.now c.is_empty.result c.is_empty.ensures c.if-is_empty.true, refl)

pub returns-in-Ok-clause-read : goal.returns-in-Ok-clause-read
returns-in-Ok-clause-read g c =
    (some_declared c.args.reads.now c.is_empty.result c.is_empty.ensures c.if-is_empty.false, c.in-Ok.ensures.answered, c.in-Ok.ensures.polled)

pub returns-in-Err-clause-refused : goal.returns-in-Err-clause-refused
returns-in-Err-clause-refused g c =
    subst (IsUnvalidated (agent_of c.args.storage.now c.args.part.now) (agent_of c.args.storage.now c.read_named.new.self) c.args.reads.now) (sym c.fire_error.ensures)
    (unvalidated (agent_of c.args.storage.now c.args.part.now) (agent_of c.args.storage.now c.read_named.new.self) c.args.reads.now c.in-Err.error c.in-Err.ensures.many c.in-Err.ensures.unread c.in-Err.ensures.seen
    c.in-Err.ensures.refused)
