use lib.Seq.{set-get_or}
use Rattle.std.proofs.Common.{◌≡◌, sym, ap, ◌∙◌, slice_set, get_or}
use Rattle.std.proofs.lemmas.Option.{same_Some, slice_get-get_or}
use Rattle.std.specs.Prelude.{option_map}
use Rattle.asm_element.specs.Place.{Place}
use Rattle.asm_update.specs.declared.action.Instruction.{Instruction}
use Rattle.asm_update.proofs.instructions.hold_in.Goals as goal

pub returns-then-i-items : goal.returns-then-i-items
returns-then-i-items c =
    let items = c.args.items.now in
    let i = c.args.i in
    let d = c.index-items-i.result in
    let here : (get_or items i d).at ≡ c.args.at =
    same_Some (get_or items i d).at c.args.at (ap (option_map (λ (x : Instruction). x.at)) (sym (slice_get-get_or items i d c.if-i-items.true)) ∙ c.requires) in
    ap (λ (l : Place). slice_set items i record { at = l; action = (get_or items i d).action }) (sym here) ∙ set-get_or items i d
