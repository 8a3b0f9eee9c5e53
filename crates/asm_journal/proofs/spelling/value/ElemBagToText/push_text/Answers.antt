use Rattle.std.proofs.Common.{codes, false, map}
use Rattle.asm_element.specs.Bag as bag
use Rattle.asm_journal.specs.Set.{count_json_of}
use Rattle.asm_journal.specs.Shape.{list_of}
use Rattle.asm_journal.proofs.Spelt.{keyed, one_member}
use Rattle.asm_journal.proofs.spelling.value.ElemBagToText.push_text.Goals as goal

pub returns : goal.returns
returns c =
    let d = list_of (map count_json_of (bag.entries c.args.self.now)) in
    one_member _ _ _ _ (codes "bag") d c.in_ok-push_sign.ensures
    (keyed _ _ _ false (codes "bag") d c.in_ok-push_key.ensures c.in_ok-push_counts.ensures) c.in_ok-push_sign-2.ensures
