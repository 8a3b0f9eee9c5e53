use Rattle.std.proofs.lemmas.Result.{err_from_is_err_and}
use Rattle.asm_explain.specs.Bytes.{AreLocations}
use Rattle.asm_slots.proofs.Refused.{unread_as}
use Rattle.asm_slots.proofs.ShortLines.{long_read, no_locations, short_read}
use Rattle.asm_slots.proofs.read_and_fire.locations_to_read.Goals as goal

pub returns-in_err-locations-clause-err : goal.returns-in_err-locations-clause-err
returns-in_err-locations-clause-err c =
    let p = err_from_is_err_and c.from_residual.result c.from_residual.ensures.1 in
    let bytes = c.args.locations.now in
    rw p.1 (no_locations bytes c.args.agent.now p.0 (unread_as AreLocations bytes c.in_err-locations.field-0.0 p.0 p.2 c.in_err-locations.ensures.err))

pub returns-in_err-expect_read-clause-err : goal.returns-in_err-expect_read-clause-err
returns-in_err-expect_read-clause-err c =
    let p = err_from_is_err_and c.from_residual-in_err-expect_read.result c.from_residual-in_err-expect_read.ensures.1 in
    rw (p.1, p.2) (long_read c.args.locations.now c.in_ok-locations.locations.items _ c.args.agent.now c.in_err-expect_read.field-0.0 c.deref.ensures.value
    c.in_ok-locations.ensures.ok c.in_err-expect_read.ensures)

pub returns-clause-short : goal.returns-clause-short
returns-clause-short c = (
  c.in_ok-locations.locations.items,
  c.in_ok-locations.ensures.ok,
  short_read c.in_ok-locations.locations.items _ c.args.agent.now c.deref.ensures.value c.in_ok-expect_read.ensures,
)
