use Rattle.asm_trace.specs.Change.{recount}
use Rattle.asm_trace.specs.Text.{recount_json_of}
use Rattle.asm_journal.proofs.Arrays.{AreWritten}
use Rattle.asm_trace.proofs.bags.recounts_json.Given as goal

abbrev pub invariant-loop-element : goal.invariant-loop-element
invariant-loop-element l =
    AreWritten (λ e. recount_json_of (recount l.old l.new e)) l.list.items l.element-iterator l.initial.element-iterator
