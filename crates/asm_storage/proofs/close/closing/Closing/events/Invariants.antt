use Rattle.std.proofs.Common.{◌≡◌, map, take}
use Rattle.asm_storage.specs.ReceiptOrder.{merged_event}
use Rattle.asm_storage.proofs.close.closing.Closing.events.Given as goal

-- the events so far are made
abbrev pub invariant-loop-kept : goal.invariant-loop-kept
invariant-loop-kept l = l.events.items ≡ map merged_event (take l.kept-index l.kept-items)
