use Rattle.asm_aggregate.specs.Standard.{standard_meaning}
use Rattle.std.proofs.Common.{List, inr}
use Rattle.asm_storage.specs.Closed.{IsClosed}
use Rattle.asm_storage.specs.declared.history.History.{History}
use Rattle.asm_storage.specs.Storage.{AgentAt, StorageView}
use Rattle.asm_slots.specs.Standard.{Standard, meaning}
use Rattle.asm_slots.specs.ClosedStore.{IsUnclosed, HasNoJournal}
use Rattle.asm_slots.specs.declared.store_close.Unclosed.{Unclosed}
use Rattle.asm_slots.specs.declared.store_close.Unclosed.TheVariants as unclosed
use Rattle.asm_slots.proofs.store_close.journal_of.Goals as goal

unclosed_by : (s : StorageView Standard) (all : List (AgentAt Standard)) (h : History) (e : Unclosed) →
    IsClosed meaning s all h → HasNoJournal s all h e → IsUnclosed s all e
unclosed_by s all h (unclosed.Missing number) closed why = inr (closed.none_missing, why)
unclosed_by s all h unclosed.Large closed why = (h, closed, why)
unclosed_by s all h unclosed.Memory closed why = tt

pub returns-in-Ok-clause-err : goal.returns-in-Ok-clause-err
unfolding standard_meaning
returns-in-Ok-clause-err c =
    unclosed_by c.args.storage.now c.args.agents.now c.in-Ok.closing _ c.in-Ok.ensures.closed c.in-Err.ensures.err
