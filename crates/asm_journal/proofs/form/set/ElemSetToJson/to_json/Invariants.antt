use Rattle.asm_journal.specs.Element.{element_json_of}
use Rattle.asm_journal.proofs.Arrays.{AreWritten}
use Rattle.asm_journal.proofs.form.set.ElemSetToJson.to_json.Given as goal

abbrev pub invariant-loop-element : goal.invariant-loop-element
invariant-loop-element l = AreWritten element_json_of l.list.items l.element-iterator l.initial.element-iterator
