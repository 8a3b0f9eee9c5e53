use Rattle.std.proofs.Common.{string_bytes}
use Rattle.std.proofs.lemmas.Result.{err_from_is_err_and}
use Rattle.std_alloc.specs.Arc.{arc_value}
use Rattle.asm_slots.proofs.NextStorages.{has_opened, still_short}
use Rattle.asm_slots.proofs.ShortLines.{left_long}
use Rattle.asm_slots.proofs.closed_journal.ClosedJournal.next.Goals as goal

pub returns-in_err-expect_state-clause-refused : goal.returns-in_err-expect_state-clause-refused
returns-in_err-expect_state-clause-refused c =
    let p = err_from_is_err_and c.from_residual.result c.from_residual.ensures.1 in
    rw (p.1, p.2) (left_long c.args.self.now (string_bytes c.self.inside.text) (arc_value c.self.inside.left) c.deref.result.now c.args.capacity
    c.in_err-expect_state.field-0.0 c.self.view_is c.deref.ensures c.self.invariant c.in_err-expect_state.ensures)

pub returns-clause-opened : goal.returns-clause-opened
returns-clause-opened c = (
  has_opened c.in_ok-over.field-0 c.args.self.now (string_bytes c.self.inside.text) (arc_value c.self.inside.left) (arc_value c.in-Ok.left)
      c.args.capacity c.self.view_is c.in-Ok.ensures c.self.invariant c.in_ok-over.ensures.init c.in_ok-over.ensures.capacity,
  still_short c.in_ok-over.field-0.init (arc_value c.self.inside.left) (arc_value c.in-Ok.left) c.deref.result.now
      c.in_ok-over.ensures.init c.in-Ok.ensures c.deref.ensures c.in_ok-expect_state.ensures,
)
