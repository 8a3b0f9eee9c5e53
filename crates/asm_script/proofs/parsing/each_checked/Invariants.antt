use Rattle.std.proofs.Common.{◌≡◌, ◌++◌, [], map}
use Rattle.asm_script.specs.Script.{each}
use Rattle.asm_script.proofs.parsing.each_checked.Given as goal

-- the parts so far and what is left are what is written, and none so far has a fault
abbrev pub invariant-loop-form : goal.invariant-loop-form
invariant-loop-form g l =
    let so_far = map g.T.Checked.written l.done.items in
    (so_far ++ l.form-iterator.rest.items ≡ l.fn.forms.items) × (each g.T.Checked.faults so_far ≡ [])
