use Rattle.std.proofs.Common.{◌≡◌, T, List, ap, sym, ◌∙◌, subst, rules}
use Rattle.std.specs.FinMap as finite
use Rattle.std.specs.Option.{option_map}
use Rattle.asm_element.specs.Place.{Place, location_cmp}
use Rattle.asm_state.specs.declared.entries.WrittenValue.{WrittenValue}
use Rattle.asm_state.specs.Follow.{over}
use Rattle.asm_element.specs.Ascending.{rising_rest}
use Rattle.asm_state.proofs.Insertions.{rising_start, over_start, insert_step, all_copied}
use Rattle.asm_state.proofs.entries.Entries.copy.Goals as goal

pub loop-at-init : goal.loop-at-init
loop-at-init c =
    let start : c.into_iter-at-iterator.result ≡ finite.entries c.args.self.now = search rules in
    record {
      rising = rising_start c.args.self.now c.into_iter-at-iterator.result start;
      done = over_start (λ w. w) c.args.self.now c.into_iter-at-iterator.result c.new-copy.result start c.new-copy.ensures;
    }

pub loop-at-preserved : goal.loop-at-preserved
loop-at-preserved c =
    let before = c.loop-at.invariant in
    let k = c.in-Some.at.now in
    let v = c.in-Some.written.now in
    let rest = c.next.new.self in
    let step = c.in-Some.ensures.steps in
    let sorted = subst (λ (es : List (Place × WrittenValue)). T (finite.is_sorted location_cmp es)) step before.rising in
    record {
      rising = rising_rest location_cmp k v rest sorted;
      done = λ q.
          insert_step (λ w. w) k v rest c.loop-at.copy c.put.new.self _ _ c.in_ok-put.ensures.ok c.in_ok-copy.ensures c.in_ok-copy-2.ensures sorted q
          ∙ ap (λ (es : List (Place × WrittenValue)). over (option_map (λ w. w) (finite.find location_cmp q es)) (finite.get c.loop-at.copy q)) (sym step) ∙ before.done q;
    }

pub returns : goal.returns
returns c =
    all_copied c.args.self.now c.loop-at.copy (λ q. ap (λ (es : List (Place × WrittenValue)). over (option_map (λ w. w) (finite.find location_cmp q es)) (finite.get c.loop-at.copy q)) (sym c.in-None.ensures.steps.0) ∙ c.loop-at.invariant.done q)
