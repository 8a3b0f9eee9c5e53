use Rattle.std.proofs.Common.{◌≡◌, ◌∷◌, ◌+◌, ◌∙◌, List, Err, Ok, ap, drop, refl, subst, sym, take}
use Rattle.std.proofs.lemmas.List.{drop_all, take_all}
use Rattle.std.proofs.lemmas.Result.{err_from_is_err_and}
use Rattle.asm_aggregate.proofs.Exits.{handed_on}
use Rattle.asm_update.specs.Move.{Move}
use Rattle.asm_step.specs.Layers.{Layer, one_move}
use Rattle.asm_step.specs.Popped.{ExtendsMove, HasExtendedMove, IsAsOne, IsContinuedOf, IsOneMove, IsOneOf, KeepsTurns}
use Rattle.asm_step.proofs.AsOne.{one_of_one}
use Rattle.asm_step.proofs.ExtendedMoves.{first_extended, first_refused, more_continued, next_extended, next_refused}
use Rattle.asm_step.proofs.Layered.{is_at}
use Rattle.asm_step.proofs.popped.Popped.as_one.Goals as goal

pub returns-in_err-join : goal.returns-in_err-join
returns-in_err-join g c =
    let a = g.A.Aggregator.meaning c.args.aggregator.now in
    let e = c.in_err-join.field-0.0 in
    let first = c.self.inside.first in
    let p = err_from_is_err_and c.from_residual.result c.from_residual.ensures.1 in
    handed_on (λ r. IsAsOne a c.args.self.now r) c.from_residual.result p.0 e p.1 p.2
    (subst (λ (Ms : List Move). IsAsOne a Ms (Err e)) c.self.view_is
    (first_refused a first c.self.inside.more.items e
    (subst (λ (s : List Layer). ExtendsMove a (one_move s) first (Err e)) c.new-step.ensures.empty c.in_err-join.ensures.err)))

pub loop-next-init : goal.loop-next-init
loop-next-init g c =
    let a = g.A.Aggregator.meaning c.args.aggregator.now in
    let first = c.self.inside.first in
    let all : c.args.self.now ≡ first ∷ c.deref-next-items.result.now =
    sym c.self.view_is ∙ ap (λ (Ms : List Move). first ∷ Ms) (sym c.deref-next-items.ensures.value) in (
      first,
      first,
      all,
      first_extended a c.join.new.self first
          (subst (λ (s : List Layer). HasExtendedMove a s c.join.new.self first) c.new-step.ensures.empty c.in_ok-join.ensures.ok),
      (λ r rest. subst (λ (Ms : List Move). IsOneOf a Ms r) (sym all) rest),
      one_of_one a.part first,
    )

pub returns-in_err-join-2 : goal.returns-in_err-join-2
returns-in_err-join-2 g c =
    let a = g.A.Aggregator.meaning c.args.aggregator.now in
    let items = c.deref-next-items.result.now in
    let i = c.loop-next.next-index in
    let e = c.in_err-join-2.field-0.0 in
    let (first, D, all, there, fold, one) = c.loop-next.invariant in
    let N = c.next-item.result in
    let at = is_at items i N c.loop-next-test.true c.next-item.is in
    let p = err_from_is_err_and c.from_residual-in_err-join-2.result c.from_residual-in_err-join-2.ensures.1 in
    let refused = next_refused a c.loop-next.step D N there (first ∷ take i items) (drop (i + 1) items) e c.in_err-join-2.ensures.err one in
    handed_on (λ r. IsAsOne a c.args.self.now r) c.from_residual-in_err-join-2.result p.0 e p.1 p.2 (
      fold (Err e) (subst (λ (Ms : List Move). IsContinuedOf a D Ms (Err e)) (sym at.left) refused.0),
      subst (λ (Ms : List Move). KeepsTurns a.part Ms (Err e)) (sym (all ∙ ap (λ Ms. first ∷ Ms) at.all)) refused.1,
    )

pub loop-next-preserved : goal.loop-next-preserved
loop-next-preserved g c =
    let a = g.A.Aggregator.meaning c.args.aggregator.now in
    let items = c.deref-next-items.result.now in
    let i = c.loop-next.next-index in
    let (first, D, all, there, fold, one) = c.loop-next.invariant in
    let N = c.next-item.result in
    let at = is_at items i N c.loop-next-test.true c.next-item.is in
    let (C, is, goes, more) = next_extended a c.loop-next.step D N there (first ∷ take i items) c.join-in-loop-next.new.self c.in_ok-join-2.ensures.ok one in (
      first,
      C,
      all,
      is,
      (λ r rest.
          fold r (subst (λ (Ms : List Move). IsContinuedOf a D Ms r) (sym at.left)
          (more_continued a D N C (drop (i + 1) items) r goes rest))),
      subst (λ (Ms : List Move). IsOneMove a.part (first ∷ Ms) C) (sym at.more) more,
    )

pub returns : goal.returns
returns g c =
    let a = g.A.Aggregator.meaning c.args.aggregator.now in
    let items = c.deref-next-items.result.now in
    let i = c.loop-next.next-index in
    let (first, D, all, there, fold, one) = c.loop-next.invariant in (
      D,
      there,
      fold (Ok D) (subst (λ (Ms : List Move). IsContinuedOf a D Ms (Ok D)) (sym (drop_all i items c.loop-next-test.false)) refl),
      subst (λ (Ms : List Move). IsOneMove a.part Ms D)
          (sym (all ∙ ap (λ Ms. first ∷ Ms) (sym (take_all i items c.loop-next-test.false)))) one,
    )
