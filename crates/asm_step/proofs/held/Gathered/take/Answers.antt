use Rattle.std.proofs.Common.{◌≡◌, T, List, refl, ap, sym, ◌∙◌, subst, rules}
use Rattle.std.specs.FinMap as finite
use Rattle.std.specs.Option.{option_map, option_or}
use Rattle.asm_element.specs.Ascending.{rising_rest}
use Rattle.asm_element.specs.Place.{Place, location_cmp}
use Rattle.asm_step.specs.Outcomes.{Outcome}
use Rattle.asm_step.proofs.Insertions.{insert_step, or_itself, over_start, rising_start}
use Rattle.asm_step.proofs.held.Gathered.take.Goals as goal

pub loop-at-init : goal.loop-at-init
loop-at-init c =
    let start : c.into_iter-at-iterator.result ≡ finite.entries c.args.above.now = search rules in
    record {
      rising = rising_start c.args.above.now c.into_iter-at-iterator.result start;
      done = over_start (λ p v. v) c.args.above.now _ c.args.self.now start;
    }

pub loop-at-preserved : goal.loop-at-preserved
loop-at-preserved c =
    let before = c.loop-at.invariant in
    let k = c.in-Some.at.now in
    let v = c.in-Some.outcome.now in
    let rest = c.next.new.self in
    let step = c.in-Some.ensures.steps in
    let sorted = subst (λ (es : List (Place × Outcome)). T (finite.is_sorted location_cmp es)) step before.rising in
    record {
      rising = rising_rest location_cmp k v rest sorted;
      done = λ q.
          insert_step (λ p w. w) k v rest c.loop-at.self c.put.new.self _ _ c.in_ok-put.ensures refl c.of.ensures sorted q
          ∙ ap (λ (es : List (Place × Outcome)). option_or (option_map (λ w. w) (finite.find location_cmp q es)) (finite.get c.loop-at.self q)) (sym step)
          ∙ before.done q;
    }

pub returns : goal.returns
returns c q =
    ap (λ (es : List (Place × Outcome)). option_or (option_map (λ w. w) (finite.find location_cmp q es)) (finite.get c.loop-at.self q)) (sym c.in-None.ensures.steps.0)
    ∙ c.loop-at.invariant.done q ∙ or_itself (finite.get c.args.above.now q) (finite.get c.args.self.now q)
