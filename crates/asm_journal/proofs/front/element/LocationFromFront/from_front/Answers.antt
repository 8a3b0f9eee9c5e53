use Rattle.std.proofs.Common.{◌++◌, refl, sym, ap, subst, ◌∙◌}
use Rattle.std.specs.Prelude.{string_bytes}
use Rattle.std.specs.Result.{result_ok}
use Rattle.json.specs.Print.{quoted}
use Rattle.serde_json.specs.Data.{array, item, string}
use Rattle.asm_journal.specs.Shape.{IsParsed}
use Rattle.asm_journal.specs.Element.{IsLocationForm}
use Rattle.asm_journal.proofs.Compact.{named_array}
use Rattle.asm_journal.proofs.Elements.{location_read}
use Rattle.asm_journal.proofs.front.element.LocationFromFront.from_front.Goals as goal

pub returns-in-Ok : goal.returns-in-Ok
returns-in-Ok c =
    let b = c.in_ok-args.ensures in
    let args = c.in_ok-args.args in
    let name = string_bytes c.in_ok-owned.owned in
    let left = c.in_ok-name.left.now in
    let d = array (item (string name) b.0) in
    let named = c.in_ok-name.ensures ∙ ap (λ s. quoted s ++ left) (sym c.in_ok-owned.ensures) in
    let read = location_read d name b.0 args.items args.len c.new.result args.ok.0 refl b.2 c.new.ensures.ok c.new.ensures.bad_name c.new.ensures.many_args in (
      d,
      named_array c.args.text.now c.in_ok-inside.inside.now left c.in_ok-args.rest.now name b.0 c.in_ok-inside.ensures named b.1,
      subst (λ r. IsParsed IsLocationForm d (result_ok r)) c.in-Ok.is read,
    )
