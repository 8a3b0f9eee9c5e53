use Rattle.std.proofs.Common.{◌≡◌, List, ap, cond, subst, ◌∙◌, rules}
use Rattle.asm_element.specs.Place.{Place}
use Rattle.asm_element.specs.declared.value.Value.{Value}
use Rattle.asm_update.specs.State.{write}
use Rattle.asm_step.specs.Outcomes.{Outcome}
use Rattle.asm_step.proofs.Insertions.{IsComing, none_in, one_in, all_in, has_name, values_in}
use Rattle.std.specs.FinMap as finite
use Rattle.asm_step.proofs.scan.put_each.Goals as goal

pub loop-at-init : goal.loop-at-init
loop-at-init c =
    let start : c.into_iter-at-iterator.result ≡ finite.entries c.args.outcomes.now = search rules in
    none_in c.args.name.now c.args.outcomes.now c.into_iter-at-iterator.result c.args.plain.now start

pub loop-at-preserved : goal.loop-at-preserved
loop-at-preserved c =
    let name = c.args.name.now in
    let all = c.into_iter-at-iterator.result in
    let before = c.args.plain.now in
    let k = c.in-Some.at.now in
    one_in name (values_in all) k c.in-Some.outcome.now.value (values_in c.next.new.self) before c.loop-at.plain c.put_named.new.plain
    (c.in_ok-put_named.ensures ∙ ap (λ (v : Value). cond (has_name name k) (write c.loop-at.plain k v) c.loop-at.plain) c.value.ensures)
    (subst (λ (es : List (Place × Outcome)). IsComing name (values_in all) (values_in es) before c.loop-at.plain) c.in-Some.ensures.steps
    c.loop-at.invariant)

pub returns : goal.returns
returns c =
    let start : c.into_iter-at-iterator.result ≡ finite.entries c.args.outcomes.now = search rules in
    all_in c.args.name.now c.args.outcomes.now c.into_iter-at-iterator.result c.loop-at.at-iterator c.args.plain.now c.loop-at.plain
    start c.in-None.ensures.steps.0 c.loop-at.invariant
