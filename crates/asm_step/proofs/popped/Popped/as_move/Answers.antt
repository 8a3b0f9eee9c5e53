use Rattle.std.proofs.Common.{◌≡◌, ◌∷◌, ◌∙◌, [], List, Option, ap, length, subst, sym, unwrap_or}
use borrow.Author.Tests.{eqb-true}
use Rattle.std.proofs.lemmas.List.{nil_from_length}
use Rattle.asm_update.specs.Move.{Move}
use Rattle.asm_step.specs.Popped.{IsOneMove}
use Rattle.asm_step.proofs.Again.{pushed_again}
use Rattle.asm_step.proofs.AsOne.{one_of_one}
use Rattle.asm_step.proofs.popped.Popped.as_move.Goals as goal

pub returns-then-is_empty-clause-again : goal.returns-then-is_empty-clause-again
returns-then-is_empty-clause-again g c old s groups step proper =
    let a = g.A.Aggregator.meaning c.args.aggregator.now in
    let C = c.in_ok-copy.field-0 in
    let more = c.moves.result.1.now in
    let none : more ≡ [] = nil_from_length more (eqb-true (length more) 0 (sym c.is_empty.ensures ∙ c.if-is_empty.true)) in
    let alone : c.args.self.now ≡ C ∷ [] = c.moves.ensures ∙ (λ i. sym c.in_ok-copy.ensures i ∷ none i) in
    pushed_again (g.met.A.Aggregator.laws c.args.aggregator.now) old s groups c.args.self.now C step proper
    (subst (λ (Ms : List Move). IsOneMove a.part Ms C) (sym alone) (one_of_one a.part C))

pub returns-clause-again : goal.returns-clause-again
returns-clause-again g c old s groups step proper =
    let a = g.A.Aggregator.meaning c.args.aggregator.now in
    let (C, there, is, one) = c.in_ok-step.ensures in
    let same = c.in_ok-as_move.ensures.one ∙ ap (λ (o : Option Move). unwrap_or o []) there in
    pushed_again (g.met.A.Aggregator.laws c.args.aggregator.now) old s groups c.args.self.now c.in_ok-as_move.field-0 step proper
    (subst (λ (M : Move). IsOneMove a.part c.args.self.now M) (sym same) one)
