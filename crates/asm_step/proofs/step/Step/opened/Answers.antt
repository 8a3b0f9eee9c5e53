use Rattle.std.proofs.Common.{T, List, refl, ap, sym, ◌∙◌, subst}
use Rattle.std.specs.Option.{option_map, option_or}
use Rattle.asm_element.specs.Ascending.{rising_rest}
use Rattle.asm_element.specs.Place.{Place, location_cmp}
use Rattle.asm_element.specs.declared.value.Value.{Value}
use Rattle.asm_step.specs.Layers.{outcomes_of}
use Rattle.asm_step.proofs.Insertions.{insert_step, over_start, rising_start}
use Rattle.asm_step.specs.Next.{opened_at}
use Rattle.asm_step.proofs.Filled.{over_nothing}
use Rattle.std.specs.FinMap as finite
use Rattle.asm_step.proofs.step.Step.opened.Goals as goal

pub loop-at-init : goal.loop-at-init
loop-at-init c =
    let all = c.into_iter-at-iterator.ensures.into_iter_gives.0 in
    let f = opened_at (outcomes_of c.args.self.now) in
    record {
      rising = rising_start c.args.frame _ all;
      done = λ q. over_start f c.args.frame _ c.new-opened.result all q
          ∙ over_nothing (option_map (f q) (finite.get c.args.frame q)) q c.new-opened.result c.new-opened.ensures;
    }

pub loop-at-preserved : goal.loop-at-preserved
loop-at-preserved c =
    let before = c.loop-at.invariant in
    let f = opened_at (outcomes_of c.args.self.now) in
    let k = c.in-Some.at in
    let v = c.in-Some.value in
    let rest = c.next.new.self in
    let step = c.in-Some.ensures.steps in
    let sorted = subst (λ (es : List (Place × Value)). T (finite.is_sorted location_cmp es)) step before.rising in
    record {
      rising = rising_rest location_cmp k v rest sorted;
      done = λ q.
          insert_step f k v rest c.loop-at.opened c.put.new.self _ _ c.in_ok-put.ensures.ok refl c.opened_at-outcome.ensures sorted q
          ∙ ap (λ (es : List (Place × Value)). option_or (option_map (f q) (finite.find location_cmp q es)) (finite.get c.loop-at.opened q)) (sym step)
          ∙ before.done q;
    }

pub returns : goal.returns
returns c q =
    let f = opened_at (outcomes_of c.args.self.now) in
    ap (λ (es : List (Place × Value)). option_or (option_map (f q) (finite.find location_cmp q es)) (finite.get c.loop-at.opened q)) (sym c.in-None.ensures.steps.0)
    ∙ c.loop-at.invariant.done q
