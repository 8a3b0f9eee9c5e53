use Rattle.asm_journal.specs.Value.{pair_json_of}
use Rattle.asm_journal.proofs.Arrays.{AreWritten}
use Rattle.asm_journal.proofs.form.state.pairs_json.Given as goal

abbrev pub invariant-loop-at : goal.invariant-loop-at
invariant-loop-at l = AreWritten pair_json_of l.list.items l.at-iterator l.initial.at-iterator
