use Rattle.std.proofs.Common.{ap, subst, ◌≡◌, ◌∙◌}
use Rattle.std.specs.Prelude.{OnOk}
use Rattle.std.specs.FinMap as finite
use Rattle.std.specs.Option.{option_or}
use Rattle.std.proofs.lemmas.Result.{on_ok_weaker}
use Rattle.asm_element.specs.Place.{Place}
use Rattle.asm_step.specs.Outcomes.{Outcomes}
use Rattle.asm_step.proofs.Depending.{as_each_by, as_puts_by}
use Rattle.asm_step.proofs.HeldPuts.{puts_over}
use Rattle.asm_step.proofs.own.Own.gather.Goals as goal

pub returns-then-is_empty : goal.returns-then-is_empty
returns-then-is_empty c =
    subst (λ (os : Outcomes). OnOk c.take.result ((q : Place) →
    finite.get c.take.new.self q ≡ option_or (finite.get os q) (finite.get c.args.all.now q)))
    (as_each_by c.self.inside.puts c.self.inside.each c.args.self.now c.is_empty.result c.self.view_is c.is_empty.ensures c.if-is_empty.true)
    c.take.ensures

pub returns : goal.returns
returns c =
    on_ok_weaker c.gather_puts.result
    (λ put q. ap (λ (os : Outcomes). finite.get os q) put ∙ puts_over c.args.all.now c.as_slice.result.now q
    ∙ ap (λ (os : Outcomes). option_or (finite.get os q) (finite.get c.args.all.now q))
    (as_puts_by c.self.inside.puts c.self.inside.each c.args.self.now c.is_empty.result c.as_slice.result.now c.self.view_is
    c.is_empty.ensures c.if-is_empty.false c.as_slice.ensures))
    c.gather_puts.ensures
