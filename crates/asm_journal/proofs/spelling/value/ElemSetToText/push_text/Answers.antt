use Rattle.std.proofs.Common.{codes, false, map}
use Rattle.asm_element.specs.Set as set
use Rattle.asm_journal.specs.Element.{element_json_of}
use Rattle.asm_journal.specs.Shape.{list_of}
use Rattle.asm_journal.proofs.Spelt.{keyed, one_member}
use Rattle.asm_journal.proofs.spelling.value.ElemSetToText.push_text.Goals as goal

pub returns : goal.returns
returns c =
    let d = list_of (map element_json_of (set.elements c.args.self.now)) in
    one_member _ _ _ _ (codes "set") d c.in_ok-push_sign.ensures
    (keyed _ _ _ false (codes "set") d c.in_ok-push_key.ensures c.in_ok-push_elements.ensures) c.in_ok-push_sign-2.ensures
