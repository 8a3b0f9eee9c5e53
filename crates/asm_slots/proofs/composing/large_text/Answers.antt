use Rattle.std.proofs.Common.{◌≡◌, false, codes, ap, ◌∙◌, refl}
use Rattle.std.proofs.lemmas.Result.{IfOk-weaker}
use Rattle.serde_json.specs.Written.{compact_text, has_float}
use Rattle.asm_element.specs.Place.{Place}
use Rattle.asm_journal.specs.Element.{location_json_of}
use Rattle.asm_journal.specs.Shape.{one_of}
use Rattle.asm_journal.proofs.Floats.{location_no_float}
use Rattle.asm_slots.proofs.composing.large_text.Goals as goal

large_no_float : (l : Place) → has_float (one_of (codes "large") (location_json_of l)) ≡ false
large_no_float l = rw (location_no_float l) refl

pub returns : goal.returns
returns c =
    let is = c.in_ok-large_json.ensures in
    IfOk-weaker c.to_string.result _ _ (λ s written. written (rw is (large_no_float c.args.at.now)) ∙ ap compact_text is) c.to_string.ensures.text
