use Rattle.std.proofs.Common.{◌≤◌, subst}
use Rattle.std.specs.Prelude.{All}
use Rattle.asm_element.specs.declared.element.Element.{Element}
use Rattle.asm_journal.specs.Element.{element_json_of}
use Rattle.asm_slots.specs.LongLines.{short_element, spelled}
use Rattle.asm_slots.proofs.ShortParts.{place_of_short}
use Rattle.asm_slots.proofs.short_lines.LocationShort.is_short.Goals as goal

pub returns : goal.returns
returns c = λ short.
    place_of_short c.args.self.now c.name-name.ensures.valid c.args-behind.ensures.few
    (subst (All (λ (e : Element). spelled (element_json_of e) ≤ short_element)) c.args-behind.ensures.args (c.are_short.ensures short))
