use Rattle.std.proofs.Common.{◌≡◌, ◌∷◌, [], subst}
use Rattle.std.specs.Prelude.{OnOk}
use Rattle.asm_element.specs.Place.{Place}
use Rattle.asm_update.specs.State.{val}
use Rattle.asm_step.specs.Layers.{scanned}
use Rattle.asm_step.specs.Outcomes.{Outcomes, frame}
use Rattle.asm_step.proofs.Depending.{as_each_by, as_puts_by}
use Rattle.asm_step.proofs.scan.put_values.Goals as goal

pub returns-then-is_empty : goal.returns-then-is_empty
returns-then-is_empty c =
    subst (λ (os : Outcomes). OnOk c.put_each.result ((l : Place) →
    val c.put_each.new.plain l ≡ scanned (frame os ∷ []) (val c.args.plain.now) c.args.name.now l))
    (as_each_by c.own.inside.puts c.own.inside.each c.args.own.now c.is_empty.result c.own.view_is c.is_empty.ensures c.if-is_empty.true)
    c.put_each.ensures

pub returns : goal.returns
returns c =
    subst (λ (os : Outcomes). OnOk c.put_puts.result ((l : Place) →
    val c.put_puts.new.plain l ≡ scanned (frame os ∷ []) (val c.args.plain.now) c.args.name.now l))
    (as_puts_by c.own.inside.puts c.own.inside.each c.args.own.now c.is_empty.result c.as_slice.result.now c.own.view_is
    c.is_empty.ensures c.if-is_empty.false c.as_slice.ensures)
    c.put_puts.ensures
