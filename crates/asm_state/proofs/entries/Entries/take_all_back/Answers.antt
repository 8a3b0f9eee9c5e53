use Rattle.std.proofs.Common.{◌≡◌, [], List, Option, sym, ap, ◌∙◌, subst, rules}
use Rattle.asm_element.specs.Place.{Place}
use Rattle.asm_aggregate.specs.Bundle.{by_place}
use Rattle.asm_state.specs.declared.entries.WrittenValue.{WrittenValue}
use Rattle.asm_state.specs.Replaced.{AreReplaced}
use Rattle.asm_state.proofs.TakenBack.{places_more, replaced_last, all_back}
use Rattle.asm_state.proofs.entries.Entries.take_all_back.Goals as goal

pub loop-at-init : goal.loop-at-init
loop-at-init c = λ old h. h

pub loop-at-preserved : goal.loop-at-preserved
loop-at-preserved c = λ old h.
    let last = replaced_last (by_place c.pop.new.self.items) c.in-Some.at.now c.in-Some.before old c.loop-at.self
    (subst (λ (us : List (Place × Option WrittenValue)). AreReplaced us old c.loop-at.self)
    (ap by_place c.in-Some.ensures.items ∙ places_more c.pop.new.self.items c.in-Some.at c.in-Some.before) (c.loop-at.invariant old h)) in
    subst (AreReplaced (by_place c.pop.new.self.items) old) (sym (c.take_back.ensures last.now last.write last.held last.wrote)) last.before

pub returns : goal.returns
returns c = λ old h.
    let none : c.loop-at.replaced.items ≡ [] = search rules in
    all_back (by_place c.loop-at.replaced.items) old c.loop-at.self (ap by_place none) (c.loop-at.invariant old h)
