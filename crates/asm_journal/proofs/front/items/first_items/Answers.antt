use Rattle.std.proofs.Common.{false}
use Rattle.asm_journal.specs.Shape.{AreForms}
use Rattle.asm_journal.proofs.Compact.{not_later, no_items_begin, some_to}
use Rattle.asm_journal.proofs.front.items.first_items.Goals as goal

pub returns-in-Some : goal.returns-in-Some
returns-in-Some g c =
    no_items_begin g.T.FromJson.is_form false c.args.text.now c.in-Some.rest.now c.new.result.items c.in-Some.ensures c.new.ensures.items

pub returns : goal.returns
returns g c =
    some_to (λ p. not_later (AreForms g.T.FromJson.is_form) c.args.text.now p.1.now p.0.items) c.some_items.result c.some_items.ensures
