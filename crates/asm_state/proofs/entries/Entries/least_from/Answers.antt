use Rattle.std.proofs.Common.{◌≡◌, ◌<◌, ◌≤◌, ℕ, true, false, nat_lt, List, ap, sym, ◌∙◌, subst, arith}
use Rattle.std.proofs.lemmas.Bool.Decides.{nat_tests}
use Rattle.std.specs.FinMap as finite
use Rattle.asm_element.specs.Place.{Place}
use Rattle.asm_state.specs.declared.entries.WrittenValue.{WrittenValue}
use Rattle.asm_state.specs.Scans.{has_name}
use Rattle.asm_state.specs.View.{writer_of}
use Rattle.asm_state.proofs.WrittenAbove.{IsLeft, left_start, left_step, left_other, left_end, left_found, other_name}
use Rattle.asm_state.proofs.entries.Entries.least_from.Goals as goal

not_above : (n w : ℕ) → w ≤ n → nat_lt n w ≡ false
not_above n w le = grind (arith, nat_tests)

above : (n w : ℕ) → n < w → nat_lt n w ≡ true
above n w lt = grind (arith, nat_tests)

pub loop-at-init : goal.loop-at-init
loop-at-init c =
    left_start c.args.first.now c.args.number c.requires c.args.self.now c.into_iter-at-iterator.result
    (c.into_iter-at-iterator.ensures.into_iter_gives ∙ c.onward-at-items.ensures)

pub loop-at-preserved : goal.loop-at-preserved
loop-at-preserved c =
    let first = c.args.first.now in
    let k = c.in-Some.at.now in
    let w = c.in-Some.written.now in
    let rest = c.next.new.self in
    let left = subst (λ (es : List (Place × WrittenValue)). IsLeft first c.args.number c.args.self.now es) c.in-Some.ensures.steps c.loop-at.invariant in
    left_step first c.args.number c.requires c.args.self.now k w rest left (not_above c.args.number w.writer c.if-number-written.false)

pub returns-then-number-written : goal.returns-then-number-written
returns-then-number-written c =
    let first = c.args.first.now in
    let k = c.in-Some.at.now in
    let w = c.in-Some.written.now in
    let rest = c.next.new.self in
    let left = subst (λ (es : List (Place × WrittenValue)). IsLeft first c.args.number c.args.self.now es) c.in-Some.ensures.steps c.loop-at.invariant in
    let named = ap (λ n. has_name n k) (sym c.name.ensures.name) ∙ sym c.has_name.ensures ∙ c.if-not-has_name.false in
    left_found first c.args.number c.requires c.args.self.now k w rest left named (above c.args.number w.writer c.if-number-written.true)

pub returns-then-not-has_name : goal.returns-then-not-has_name
returns-then-not-has_name c = λ q.
    let first = c.args.first.now in
    let k = c.in-Some.at.now in
    let w = c.in-Some.written.now in
    let rest = c.next.new.self in
    let left = subst (λ (es : List (Place × WrittenValue)). IsLeft first c.args.number c.args.self.now es) c.in-Some.ensures.steps c.loop-at.invariant in
    let other = ap (λ n. has_name n k) (sym c.name.ensures.name) ∙ sym c.has_name.ensures ∙ c.if-not-has_name.true in
    other_name first.name c.args.number q (writer_of (finite.get c.args.self.now q))
    (left_other first c.args.number c.requires c.args.self.now k w rest left other q)

pub returns : goal.returns
returns c = λ q.
    let first = c.args.first.now in
    let left = subst (λ (es : List (Place × WrittenValue)). IsLeft first c.args.number c.args.self.now es) c.in-None.ensures.steps.0 c.loop-at.invariant in
    other_name first.name c.args.number q (writer_of (finite.get c.args.self.now q))
    (left_end first c.args.number c.requires c.args.self.now left q)
