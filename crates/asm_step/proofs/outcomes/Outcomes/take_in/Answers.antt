use Rattle.std.proofs.Common.{T, List, Option, length, refl, ap, sym, ◌∙◌, subst, arith}
use Rattle.std.specs.FinMap as finite
use Rattle.std.specs.Option.{option_map, option_or}
use Rattle.asm_element.specs.Ascending.{rising_rest}
use Rattle.asm_element.specs.Place.{Place, location_cmp}
use Rattle.asm_step.specs.Outcomes.{Outcome, AreReplaced}
use Rattle.asm_step.proofs.Insertions.{insert_step, or_itself, over_start, rising_start}
use Rattle.asm_step.proofs.Insertions.{replaced_more}
use Rattle.asm_step.proofs.outcomes.Outcomes.take_in.Goals as goal

pub loop-at-init : goal.loop-at-init
loop-at-init c =
    let all = c.into_iter-at-iterator.ensures.into_iter_gives ∙ c.into_entries-at-items.ensures in
    let many = ap length all ∙ sym (finite.len-entries c.args.above) in
    record {
      rising = rising_start c.args.above _ all;
      done = over_start (λ p v. v) c.args.above _ c.args.self.now all;
      replaced = subst (λ (us : List (Place × Option Outcome)). AreReplaced us c.args.self.now c.args.self.now) (sym c.in_ok-replaced.ensures.items) refl;
      room = omega (arith, many, c.len.ensures, c.in_ok-replaced.ensures.len, c.in_ok-replaced.ensures.capacity);
    }

pub push_reserved-requires : goal.push_reserved-requires
push_reserved-requires c =
    let step = ap length c.in-Some.ensures.steps in
    omega (arith, step, c.loop-at.invariant.room)

pub loop-at-preserved : goal.loop-at-preserved
loop-at-preserved c =
    let before = c.loop-at.invariant in
    let k = c.in-Some.at in
    let v = c.in-Some.outcome in
    let rest = c.next.new.self in
    let old = c.loop-at.self in
    let step = c.in-Some.ensures.steps in
    let count = ap length step in
    let sorted = subst (λ (es : List (Place × Outcome)). T (finite.is_sorted location_cmp es)) step before.rising in
    let inserted = c.in-Ok.ensures.ok in
    record {
      rising = rising_rest location_cmp k v rest sorted;
      done = λ q.
          insert_step (λ p w. w) k v rest old c.write_at.new.self k v inserted refl refl sorted q
          ∙ ap (λ (es : List (Place × Outcome)). option_or (option_map (λ w. w) (finite.find location_cmp q es)) (finite.get old q)) (sym step)
          ∙ before.done q;
      replaced = subst (λ (us : List (Place × Option Outcome)). AreReplaced us c.args.self.now c.write_at.new.self) (sym c.push_reserved.ensures.items)
          (subst (AreReplaced _ c.args.self.now) (sym inserted) (replaced_more c.loop-at.replaced.items c.args.self.now old k c.in-Ok.before v before.replaced c.in-Ok.ensures.before));
      room = omega (arith, count, before.room, c.push_reserved.ensures.len, c.push_reserved.ensures.capacity);
    }

pub returns-in-Err-clause-err : goal.returns-in-Err-clause-err
returns-in-Err-clause-err c =
    c.take_all_back.ensures c.args.self.now
    (subst (AreReplaced c.loop-at.replaced.items c.args.self.now) (sym c.in-Err.ensures.err) c.loop-at.invariant.replaced)

pub returns-clause-ok : goal.returns-clause-ok
returns-clause-ok c q =
    ap (λ (es : List (Place × Outcome)). option_or (option_map (λ w. w) (finite.find location_cmp q es)) (finite.get c.loop-at.self q)) (sym c.in-None.ensures.steps.0)
    ∙ c.loop-at.invariant.done q ∙ or_itself (finite.get c.args.above q) (finite.get c.args.self.now q)
