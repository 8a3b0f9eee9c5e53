use Rattle.std.proofs.Common.{◌≡◌, ap, sym, ◌∙◌, rules}
use Rattle.std.proofs.lemmas.List.{nil_from_length}
use Rattle.std.specs.FinMap as finite
use Rattle.std.specs.Option.{option_or}
use Rattle.asm_update.specs.Move.{Move}
use Rattle.asm_step.specs.Outcomes.{puts_on}
use Rattle.asm_step.proofs.HeldPuts.{none_put, put_last}
use Rattle.asm_step.proofs.puts.held_put.Goals as goal

pub loop-put-init : goal.loop-put-init
loop-put-init c =
    let rest : c.into_iter-put-iterator.result.iter.rest.now ≡ c.args.puts.now = search rules in
    ap (λ (M : Move). finite.get (puts_on finite.empty M) c.args.at.now) rest

pub returns-in-Some-held_by : goal.returns-in-Some-held_by
returns-in-Some-held_by c =
    let at = c.args.at.now in
    let left = c.next.new.self.iter.rest.now in
    let last = ap (λ (M : Move). finite.get (puts_on finite.empty M) at) c.in-Some.ensures.steps
    ∙ put_last left c.in-Some.put.now at
    ∙ ap (λ x. option_or x (finite.get (puts_on finite.empty left) at)) (sym c.in-Some-held_by.ensures) in
    sym last ∙ c.loop-put.invariant

pub loop-put-preserved : goal.loop-put-preserved
loop-put-preserved c =
    let at = c.args.at.now in
    let left = c.next.new.self.iter.rest.now in
    let last = ap (λ (M : Move). finite.get (puts_on finite.empty M) at) c.in-Some.ensures.steps
    ∙ put_last left c.in-Some.put.now at
    ∙ ap (λ x. option_or x (finite.get (puts_on finite.empty left) at)) (sym c.in_default.ensures) in
    sym last ∙ c.loop-put.invariant

pub returns : goal.returns
returns c =
    let at = c.args.at.now in
    none_put at
    ∙ sym (ap (λ (M : Move). finite.get (puts_on finite.empty M) at)
    (nil_from_length c.loop-put.put-iterator.iter.rest.now c.in-None.ensures.steps.0))
    ∙ c.loop-put.invariant
