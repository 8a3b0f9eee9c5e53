use Rattle.std.proofs.Common.{◌≡◌, List, false, true, ap, sym, ◌∙◌, subst}
use Rattle.asm_element.specs.Place.{Place}
use Rattle.asm_state.specs.declared.entries.WrittenValue.{WrittenValue}
use Rattle.asm_state.specs.Scans.{has_name}
use Rattle.asm_state.proofs.Counted.{IsPassing, is_hidden, is_seen, passing_end, passing_past, passing_start, passing_step}
use Rattle.asm_state.proofs.Onward.{onward_has, onward_start}
use Rattle.asm_state.proofs.entries.Entries.show_one.Goals as goal

pub loop-at-init : goal.loop-at-init
loop-at-init g c =
    let first = c.args.first.now in
    let left = c.into_iter-at-iterator.result in
    let is = c.into_iter-at-iterator.ensures.into_iter_gives ∙ c.onward-at-items.ensures in
    passing_start first (g.L.Lookup.value_at c.args.shown.now) c.args.self.now c.requires left (onward_start first c.args.self.now left is)
    (onward_has first c.args.self.now left is c.requires)

pub loop-at-preserved : goal.loop-at-preserved
loop-at-preserved g c =
    let first = c.args.first.now in
    let shown = g.L.Lookup.value_at c.args.shown.now in
    let k = c.in-Some.at.now in
    passing_step first shown c.args.self.now k c.in-Some._written.now c.next.new.self (is_hidden (shown k) (sym c.shows.ensures ∙ c.if-shows.false))
    (subst (λ (es : List (Place × WrittenValue)). IsPassing first shown c.args.self.now es) c.in-Some.ensures.steps c.loop-at.invariant)

pub returns-then-shows-clause-some : goal.returns-then-shows-clause-some
returns-then-shows-clause-some g c =
    let first = c.args.first.now in
    let k = c.in-Some.at.now in
    let named : has_name first.name k ≡ true = ap (λ n. has_name n k) (sym c.name.ensures.name) ∙ sym c.has_name.ensures ∙ c.if-not-has_name.false in
    (k, named, is_seen (g.L.Lookup.value_at c.args.shown.now k) (sym c.shows.ensures ∙ c.if-shows.true))

pub returns-then-not-has_name-clause-none : goal.returns-then-not-has_name-clause-none
returns-then-not-has_name-clause-none g c =
    let first = c.args.first.now in
    let shown = g.L.Lookup.value_at c.args.shown.now in
    let k = c.in-Some.at.now in
    let other : has_name first.name k ≡ false = ap (λ n. has_name n k) (sym c.name.ensures.name) ∙ sym c.has_name.ensures ∙ c.if-not-has_name.true in
    passing_past first shown c.args.self.now k c.in-Some._written.now c.next.new.self other
    (subst (λ (es : List (Place × WrittenValue)). IsPassing first shown c.args.self.now es) c.in-Some.ensures.steps c.loop-at.invariant)

pub returns-clause-none : goal.returns-clause-none
returns-clause-none g c =
    let first = c.args.first.now in
    let shown = g.L.Lookup.value_at c.args.shown.now in
    passing_end first shown c.args.self.now
    (subst (λ (es : List (Place × WrittenValue)). IsPassing first shown c.args.self.now es) c.in-None.ensures.steps.0 c.loop-at.invariant)
