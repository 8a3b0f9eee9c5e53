use Rattle.asm_journal.proofs.Floats.{location_no_float}
use Rattle.asm_driver.proofs.reporting.push_location.Goals as goal

pub push_json-requires : goal.push_json-requires
push_json-requires c = rw c.in_ok-location_json.ensures (location_no_float c.args.location.now)
