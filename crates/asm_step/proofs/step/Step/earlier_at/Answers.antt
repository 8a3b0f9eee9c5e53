use Rattle.std.proofs.Common.{◌≡◌, ◌++◌, List, length, length-append, append_assoc, append-nil, ap, sym, ◌∙◌, arith, rules}
use Rattle.std.specs.FinMap as finite
use Rattle.asm_aggregate.specs.Compose.{placed}
use Rattle.asm_element.specs.Place.{Place}
use Rattle.asm_element.specs.declared.value.Value.{Value}
use Rattle.asm_step.specs.Layers.{outcomes_of}
use Rattle.asm_step.specs.Outcomes.{actions_in}
use Rattle.asm_step.proofs.Stacked.{kept_at, kept_within, placed_many}
use Rattle.asm_step.proofs.step.Step.earlier_at.Goals as goal

pub loop-at-init : goal.loop-at-init
loop-at-init c =
    let os = outcomes_of c.args.self.now in
    let start : c.into_iter-at-iterator.result ≡ finite.entries c.args.frame.now = search rules in
    (λ i. c.new-list.ensures i ++ kept_at os (start i))

pub append_earlier-requires : goal.append_earlier-requires
append_earlier-requires c =
    let os = outcomes_of c.args.self.now in
    let rest = kept_at os c.next.new.self in
    let k = c.in-Some.at.now in
    let step = ap (λ (es : List (Place × Value)). c.loop-at.list ++ kept_at os es) (sym c.in-Some.ensures.steps) ∙ c.loop-at.invariant in
    let all = ap length (sym step) ∙ length-append c.loop-at.list _ in
    let first = placed_many k (actions_in os k) rest in
    let within = kept_within os c.args.frame.now in
    omega (arith, all, first, within, c.within_limit.ensures.listed, c.within_limit.ensures.few)

pub loop-at-preserved : goal.loop-at-preserved
loop-at-preserved c =
    let os = outcomes_of c.args.self.now in
    let rest = kept_at os c.next.new.self in
    let k = c.in-Some.at.now in
    ap (λ M. M ++ rest) c.in_ok-append_earlier.ensures
    ∙ append_assoc c.loop-at.list (placed k (actions_in os k)) rest
    ∙ ap (λ (es : List (Place × Value)). c.loop-at.list ++ kept_at os es) (sym c.in-Some.ensures.steps) ∙ c.loop-at.invariant

pub returns : goal.returns
returns c =
    let os = outcomes_of c.args.self.now in
    sym (append-nil c.loop-at.list)
    ∙ ap (λ (es : List (Place × Value)). c.loop-at.list ++ kept_at os es) (sym c.in-None.ensures.steps.0) ∙ c.loop-at.invariant
