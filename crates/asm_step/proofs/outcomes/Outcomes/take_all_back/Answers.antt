use Rattle.std.proofs.Common.{List, Option, sym, subst, rules}
use Rattle.asm_element.specs.Place.{Place}
use Rattle.asm_step.specs.Outcomes.{Outcome, AreReplaced}
use Rattle.asm_step.proofs.Insertions.{replaced_last, all_back}
use Rattle.asm_step.proofs.outcomes.Outcomes.take_all_back.Goals as goal

pub loop-at-init : goal.loop-at-init
loop-at-init c = λ old h. h

pub loop-at-preserved : goal.loop-at-preserved
loop-at-preserved c = λ old h.
    let last = replaced_last c.pop.new.self.items c.in-Some.at c.in-Some.before old c.loop-at.self
    (subst (λ (us : List (Place × Option Outcome)). AreReplaced us old c.loop-at.self) c.in-Some.ensures.items (c.loop-at.invariant old h)) in
    subst (AreReplaced c.pop.new.self.items old) (sym (c.take_back.ensures last.now last.write last.held last.wrote)) last.before

pub returns : goal.returns
returns c = λ old h. all_back c.loop-at.replaced.items old c.loop-at.self (search rules) (c.loop-at.invariant old h)
