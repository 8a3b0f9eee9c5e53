use Rattle.std.proofs.Common.{List, sym, ap, ◌∙◌, subst}
use Rattle.asm_element.specs.Place.{Place}
use Rattle.asm_step.specs.Layers.{all_moves}
use Rattle.asm_step.specs.Outcomes.{Outcomes, dependencies_in}
use Rattle.asm_step.specs.Dependencies.{depends, AreThose}
use Rattle.asm_step.proofs.Built.{dependencies_those}
use Rattle.asm_step.proofs.Insertions.{if_ok_weaker}
use Rattle.asm_step.proofs.OneMove.{dependencies_are}
use Rattle.asm_step.proofs.step.Step.dependency_locations.Goals as goal

pub returns-clause-kept : goal.returns-clause-kept
returns-clause-kept c =
    if_ok_weaker c.dependency_places.result
    (λ ls is. is ∙ ap (λ (os : Outcomes). dependencies_in os) c.in_ok-gathered.ensures ∙ dependencies_are c.args.self.now)
    c.dependency_places.ensures

pub returns-clause-those : goal.returns-clause-those
returns-clause-those c part old groups step =
    if_ok_weaker c.dependency_places.result
    (λ ls is. subst (λ (ls : List Place). AreThose (depends (all_moves groups)) ls)
    (sym (is ∙ ap (λ (os : Outcomes). dependencies_in os) c.in_ok-gathered.ensures ∙ dependencies_are c.args.self.now))
    (dependencies_those part old c.args.self.now groups step))
    c.dependency_places.ensures

pub returns-then-not-depends_somewhere-clause-those : goal.returns-then-not-depends_somewhere-clause-those
returns-then-not-depends_somewhere-clause-those c part old groups step =
    subst (λ (ls : List Place). AreThose (depends (all_moves groups)) ls)
    (c.if-not-depends_somewhere.ensures ∙ sym c.new.ensures.items)
    (dependencies_those part old c.args.self.now groups step)
