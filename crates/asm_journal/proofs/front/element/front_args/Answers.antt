use Rattle.std.proofs.Common.{true, ◌∷◌, ap, ◌∙◌}
use Rattle.asm_journal.specs.Element.{IsElementForm}
use Rattle.asm_journal.proofs.Compact.{no_items_begin}
use Rattle.asm_journal.proofs.front.element.front_args.Goals as goal

pub returns-in-93 : goal.returns-in-93
returns-in-93 c =
    let left = c.in_ok-byte.left.now in
    no_items_begin IsElementForm true c.args.text.now left c.new.result.items
    (c.in_ok-byte.ensures.cases.0 ∙ ap (λ b. b ∷ left) c.in-93.is) c.new.ensures.items
