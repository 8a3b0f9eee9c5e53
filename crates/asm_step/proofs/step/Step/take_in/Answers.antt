use Rattle.std.proofs.Common.{◌≡◌, List, [], ◌∷◌, ◌++◌, Option, Some, None, Err, inl, sym, ap, subst, ◌∙◌}
use Rattle.std.proofs.lemmas.Result.{err_from_is_err_and}
use Rattle.std.specs.Option.{option_map_or}
use Rattle.asm_aggregate.proofs.Exits.{handed_on}
use Rattle.asm_update.specs.Move.{Move}
use Rattle.asm_step.specs.Next.{IsStepExtendedInPlace, IsExtensionAnswer, IsNext, IsNextLayer}
use Rattle.asm_step.specs.InTurn.{all_but_last}
use Rattle.asm_step.specs.Layers.{Layer, behind, stacked_on, moves_of, outcomes_of, top_of}
use Rattle.asm_step.proofs.Prefixes.{some_layers}
use Rattle.asm_step.specs.declared.error.StepError.TheVariants as step_error
use Rattle.asm_step.proofs.step.Step.take_in.Goals as goal

pub extend_in_place-requires : goal.extend_in_place-requires
extend_in_place-requires g c = some_layers c.args.self.now c.requires.0 c.requires.1

pub returns-then-done : goal.returns-then-done
returns-then-done g c =
    let a = g.A.Aggregator.meaning c.args.aggregator.now in
    let old = g.L.Lookup.value_at c.args.below.now in
    subst (λ b. IsStepExtendedInPlace a old c.args.self.now c.extend_in_place.new.self c.args.instructions.now b) c.if-done.true
    (c.in_ok-done.ensures.ok old)

pub returns-in_err-next : goal.returns-in_err-next
returns-in_err-next g c =
    let a = g.A.Aggregator.meaning c.args.aggregator.now in
    let old = g.L.Lookup.value_at c.args.below.now in
    let s = c.args.self.now in
    let M = c.args.instructions.now in
    let same : c.extend_in_place.new.self ≡ s =
    subst (λ b. IsStepExtendedInPlace a old s c.extend_in_place.new.self M b) c.if-done.false (c.in_ok-done.ensures.ok old) in
    let r = c.from_residual-in_err-next in
    let p = err_from_is_err_and r.result r.ensures.1 in
    handed_on (λ r. IsExtensionAnswer a old s c.extend_in_place.new.self M r) r.result p.0 c.in_err-next.field-0.0 p.1 p.2
    (subst (λ (t : List Layer). IsNext a old t M (Err c.in_err-next.field-0.0)) same c.in_err-next.ensures, same)

pub extend_top-requires-clause-some : goal.extend_top-requires-clause-some
extend_top-requires-clause-some g c none =
    let a = g.A.Aggregator.meaning c.args.aggregator.now in
    let old = g.L.Lookup.value_at c.args.below.now in
    let s = c.args.self.now in
    let same : c.extend_in_place.new.self ≡ s =
    subst (λ b. IsStepExtendedInPlace a old s c.extend_in_place.new.self c.args.instructions.now b) c.if-done.false (c.in_ok-done.ensures.ok old) in
    some_layers s c.requires.0 c.requires.1 (sym same ∙ none)

pub extend_top-requires-clause-later : goal.extend_top-requires-clause-later
extend_top-requires-clause-later g c =
    let a = g.A.Aggregator.meaning c.args.aggregator.now in
    let old = g.L.Lookup.value_at c.args.below.now in
    let s = c.args.self.now in
    let M = c.args.instructions.now in
    let same : c.extend_in_place.new.self ≡ s =
    subst (λ b. IsStepExtendedInPlace a old s c.extend_in_place.new.self M b) c.if-done.false (c.in_ok-done.ensures.ok old) in
    let none : Option Move = None in
    c.in_ok-next.ensures.over.alone
    ∙ ap (λ (t : Option Layer). option_map_or (λ (y : Layer). none) t (Some M)) (ap top_of same ∙ c.requires.1)

pub returns-in_err-extend_top : goal.returns-in_err-extend_top
returns-in_err-extend_top g c =
    let a = g.A.Aggregator.meaning c.args.aggregator.now in
    let old = g.L.Lookup.value_at c.args.below.now in
    let s = c.args.self.now in
    let M = c.args.instructions.now in
    let same : c.extend_in_place.new.self ≡ s =
    subst (λ b. IsStepExtendedInPlace a old s c.extend_in_place.new.self M b) c.if-done.false (c.in_ok-done.ensures.ok old) in
    let r = c.from_residual-in_err-extend_top in
    let p = err_from_is_err_and r.result r.ensures.1 in
    handed_on (λ r. IsExtensionAnswer a old s c.extend_top.new.self M r) r.result p.0 step_error.Memory p.1 p.2
    (inl tt, c.in_err-extend_top.ensures.err ∙ same)

pub returns : goal.returns
returns g c =
    let a = g.A.Aggregator.meaning c.args.aggregator.now in
    let old = g.L.Lookup.value_at c.args.below.now in
    let s = c.args.self.now in
    let M = c.args.instructions.now in
    let same : c.extend_in_place.new.self ≡ s =
    subst (λ b. IsStepExtendedInPlace a old s c.extend_in_place.new.self M b) c.if-done.false (c.in_ok-done.ensures.ok old) in
    subst (λ (t : List Layer). (x : Layer) × IsNextLayer a old t M x
    × (c.extend_top.new.self ≡ all_but_last t ++ behind (moves_of t) x ∷ [])) same
    (stacked_on (outcomes_of c.extend_in_place.new.self) c.in_ok-next.next, c.in_ok-next.ensures, c.in_ok-extend_top.ensures.ok)
