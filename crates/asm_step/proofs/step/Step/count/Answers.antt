use Rattle.std.proofs.Common.{List, All, Some, None, subst}
use Rattle.asm_step.specs.Layers.{Layer, IsSound}
use Rattle.asm_step.proofs.Prefixes.{count_by, counted}
use Rattle.asm_step.proofs.step.Step.count.Goals as goal

pub returns-in-Some-clause-count : goal.returns-in-Some-clause-count
returns-in-Some-clause-count c = count_by c.args.self.now (Some c.in-Some.top.now.count) c.in-Some.ensures.count

pub returns-in-None-clause-count : goal.returns-in-None-clause-count
returns-in-None-clause-count c = count_by c.args.self.now None c.in-None.ensures.count

pub returns-in-Some-clause-listed : goal.returns-in-Some-clause-listed
returns-in-Some-clause-listed c = (counted c.args.self.now (subst (λ (s : List Layer). All IsSound s) c.self.view_is c.self.invariant.1)).0

pub returns-in-None-clause-listed : goal.returns-in-None-clause-listed
returns-in-None-clause-listed c = (counted c.args.self.now (subst (λ (s : List Layer). All IsSound s) c.self.view_is c.self.invariant.1)).0

pub returns-in-Some-clause-few : goal.returns-in-Some-clause-few
returns-in-Some-clause-few c = (counted c.args.self.now (subst (λ (s : List Layer). All IsSound s) c.self.view_is c.self.invariant.1)).1

pub returns-in-None-clause-few : goal.returns-in-None-clause-few
returns-in-None-clause-few c = (counted c.args.self.now (subst (λ (s : List Layer). All IsSound s) c.self.view_is c.self.invariant.1)).1
