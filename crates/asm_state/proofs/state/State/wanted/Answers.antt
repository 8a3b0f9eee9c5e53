use Rattle.std.proofs.Common.{◌≡◌, List, Option, subst, ap, ◌∙◌, cond, rules}
use Rattle.std.specs.FinMap as finite
use Rattle.std.specs.Prelude.{unwrap_or}
use Rattle.asm_element.specs.Place.{Place}
use Rattle.asm_element.specs.Value.{undef}
use Rattle.asm_element.specs.declared.value.Value.{Value}
use Rattle.asm_update.specs.State.{State, val, write}
use Rattle.asm_state.specs.declared.entries.WrittenValue.{WrittenValue}
use Rattle.asm_state.specs.Plain.{is_wanted}
use Rattle.asm_state.specs.View.{StateView, value_at}
use Rattle.asm_state.proofs.Insertions.{rising_start}
use Rattle.asm_state.proofs.Wanted.{IsFilled, all_has, held_value, entries_start, filled_step, filled_end}
use Rattle.asm_state.proofs.state.State.wanted.Goals as goal

pub loop-at-init : goal.loop-at-init
loop-at-init c =
    let s = c.args.self.now in
    let left = c.into_iter-at-iterator.result in
    let start : left ≡ finite.entries s.entries = search rules in
    let base : c.deref.result.now ≡ c.args.self.now.base =
    c.deref.ensures ∙ ap (λ (s : StateView). s.base) c.self.view_is in
    entries_start (is_wanted c.args.name) s c.in_ok-plain.plain left (rising_start s.entries left start)
    (λ q named. all_has s.entries left start q)
    (λ q. c.in_ok-plain.ensures q ∙ ap (λ (A : State). cond (is_wanted c.args.name q) (val A q) undef) base)

pub loop-at-preserved : goal.loop-at-preserved
loop-at-preserved c =
    let s = c.args.self.now in
    let k = c.in-Some.at.now in
    let old = c.loop-at.plain in
    filled_step held_value (is_wanted c.args.name) (value_at s) k c.in-Some.written.now c.next.new.self old
    c.put_wanted.new.plain
    (c.in_ok-put_wanted.ensures
    ∙ ap (λ (o : Option Value). cond (is_wanted c.args.name k) (write old k (unwrap_or o undef)) old) c.as_ref.ensures.value)
    (subst (λ (es : List (Place × WrittenValue)). IsFilled held_value (is_wanted c.args.name) (value_at s) es old)
    c.in-Some.ensures.steps c.loop-at.invariant)

pub returns : goal.returns
returns c =
    let s = c.args.self.now in
    filled_end {X = WrittenValue} held_value (is_wanted c.args.name) (value_at s) c.loop-at.plain
    (subst (λ (es : List (Place × WrittenValue)). IsFilled held_value (is_wanted c.args.name) (value_at s) es c.loop-at.plain)
    c.in-None.ensures.steps.0 c.loop-at.invariant)
