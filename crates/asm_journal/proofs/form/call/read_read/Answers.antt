use Rattle.std.proofs.Common.{refl, sym, subst, codes, ◌∙◌}
use Rattle.serde_json.specs.View.{view}
use Rattle.asm_journal.specs.Shape.{IsListForm, one_of}
use Rattle.asm_journal.specs.Element.{IsLocationForm}
use Rattle.asm_journal.specs.Event.{IsCallForm}
use Rattle.asm_journal.proofs.Carried.{carried_ok, carried_err, refused}
use Rattle.asm_journal.proofs.Events.{no_read}
use Rattle.asm_journal.proofs.form.call.read_read.Goals as goal

pub returns-in_err-locations : goal.returns-in_err-locations
returns-in_err-locations c =
    let d = view c.args.locations.now in
    refused IsCallForm (one_of (codes "read") d) _ c.in_err-locations.field-0.0 c.from_residual.ensures.1
    (λ fault. no_read d (carried_err (IsListForm IsLocationForm) d _ _ c.from_json.ensures c.in_err-locations.ensures.carried fault))

pub returns : goal.returns
returns c =
    let d = view c.args.locations.now in
    let read = carried_ok (IsListForm IsLocationForm) d _ c.in_ok-locations.locations c.from_json.ensures c.in_ok-locations.ensures.carried in
    (d, refl, subst (λ l. IsListForm IsLocationForm l d) (sym (c.packed.ensures ∙ c.into_vec.ensures)) read)
