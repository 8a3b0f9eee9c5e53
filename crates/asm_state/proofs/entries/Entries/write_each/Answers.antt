use Rattle.std.proofs.Common.{◌≡◌, T, List, Option, Bor, length, refl, ap, sym, ◌∙◌, subst, arith, rules}
use Rattle.std.specs.FinMap as finite
use Rattle.std.proofs.lemmas.List.{nil_from_length}
use Rattle.asm_element.specs.Place.{Place, location_cmp}
use Rattle.asm_element.specs.declared.value.Value.{Value}
use Rattle.asm_aggregate.specs.Bundle.{by_place}
use Rattle.asm_state.specs.declared.entries.WrittenValue.{WrittenValue}
use Rattle.asm_state.specs.Follow.{written_by, entry_after}
use Rattle.asm_state.specs.Replaced.{AreReplaced}
use Rattle.asm_element.specs.Ascending.{rising_rest}
use Rattle.asm_state.proofs.Insertions.{rising_start, insert_step}
use Rattle.asm_state.proofs.TakenBack.{places_more, replaced_more}
use Rattle.asm_state.proofs.entries.Entries.write_each.Goals as goal

pub loop-at-init : goal.loop-at-init
loop-at-init c =
    let start : c.into_iter-at-iterator.result.rest.items ≡ c.into_vec-at-items.result.items = search rules in
    let all = ap by_place start ∙ c.into_vec-at-items.ensures in
    let many = ap length all ∙ sym (finite.len-entries c.args.results) in
    record {
      rising = rising_start c.args.results (by_place c.into_iter-at-iterator.result.rest.items) all;
      done = λ q. ap (λ o. entry_after c.args.writer o (finite.get c.args.self.now q)) (ap (λ (es : List (Place × Value)). finite.find location_cmp q es) all ∙ sym (finite.get-entries c.args.results q));
      replaced = subst (λ (us : List (Bor Place × Option WrittenValue)). AreReplaced (by_place us) c.args.self.now c.args.self.now) (sym c.in_ok-replaced.ensures.items) refl;
      room = omega (arith, many, c.len.ensures, c.in_ok-replaced.ensures.len, c.in_ok-replaced.ensures.capacity);
    }

pub push_reserved-requires : goal.push_reserved-requires
push_reserved-requires c =
    let step = ap (λ (es : List (Bor Place × Value)). length (by_place es)) c.in-Some.ensures.steps.0 in
    omega (arith, step, c.loop-at.invariant.room)

pub loop-at-preserved : goal.loop-at-preserved
loop-at-preserved c =
    let before = c.loop-at.invariant in
    let k = c.in-Some.at.now in
    let v = c.in-Some.value in
    let n = c.args.writer in
    let rest = by_place c.next.new.self.rest.items in
    let old = c.loop-at.self in
    let step = ap by_place c.in-Some.ensures.steps.0 in
    let count = ap length step in
    let sorted = subst (λ (es : List (Place × Value)). T (finite.is_sorted location_cmp es)) step before.rising in
    let inserted = c.in-Ok.ensures.ok ∙ ap (λ w. finite.insert old k w) c.by.ensures in
    record {
      rising = rising_rest location_cmp k v rest sorted;
      done = λ q.
          insert_step (written_by n) k v rest old c.write_at.new.self k (written_by n v) inserted (λ _. k) (λ _. written_by n v) sorted q
          ∙ ap (λ (es : List (Place × Value)). entry_after n (finite.find location_cmp q es) (finite.get old q)) (sym step) ∙ before.done q;
      replaced = subst (λ (us : List (Place × Option WrittenValue)). AreReplaced us c.args.self.now c.write_at.new.self)
          (sym (ap by_place c.push_reserved.ensures.items ∙ places_more c.loop-at.replaced.items c.in-Some.at c.in-Ok.before))
          (subst (AreReplaced _ c.args.self.now) (sym inserted) (replaced_more (by_place c.loop-at.replaced.items) c.args.self.now old k c.in-Ok.before (written_by n v) before.replaced c.in-Ok.ensures.before));
      room = omega (arith, count, before.room, c.push_reserved.ensures.len, c.push_reserved.ensures.capacity);
    }

pub returns-in-Err-clause-err : goal.returns-in-Err-clause-err
returns-in-Err-clause-err c =
    c.take_all_back.ensures c.args.self.now
    (subst (AreReplaced (by_place c.loop-at.replaced.items) c.args.self.now) (sym c.in-Err.ensures.err) c.loop-at.invariant.replaced)

pub returns-clause-ok : goal.returns-clause-ok
returns-clause-ok c = λ q.
    let left = c.loop-at.at-iterator.rest in
    let none = nil_from_length left.items (sym left.ok.0 ∙ c.in-None.ensures.steps.0) in
    ap (λ (es : List (Bor Place × Value)). entry_after c.args.writer (finite.find location_cmp q (by_place es)) (finite.get c.loop-at.self q)) (sym none)
    ∙ c.loop-at.invariant.done q
