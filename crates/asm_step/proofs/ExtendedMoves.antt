-- The one move of a step, extended by a move, and what is answered where it isn't.
use Rattle.std.proofs.Common.{◌≡◌, ◌∙◌, ◌||◌, List, [], ◌∷◌, ◌++◌, Option, Some, None, Result, Ok, Err, inl, inr, refl, ap, subst, sym, is_some}
use Rattle.std.specs.FinMap as finite
use Rattle.std.specs.Option.{option_map, option_map_or}
use Rattle.std.specs.Ordering.{eq_by_cmp}
use Rattle.std.proofs.lemmas.List.Folds.{list_any-append}
use Rattle.asm_element.specs.Place.{Place, location_cmp, location_cmp_total}
use Rattle.asm_element.specs.Tests.{flipped, is_some-cond, ok_is, or_comm, or_false}
use Rattle.asm_element.specs.declared.value.Value.{Value}
use Rattle.asm_update.specs.Aggregator.{Meaning}
use Rattle.asm_update.specs.Move.{Move, writes}
use Rattle.asm_update.specs.declared.action.Instruction.{Instruction}
use Rattle.asm_update.specs.State.{Updates}
use Rattle.asm_aggregate.specs.declared.composition.ComposeError.{ComposeError}
use Rattle.asm_aggregate.specs.declared.composition.ComposeError.TheVariants as compose_error
use Rattle.asm_step.specs.Layers.{Layer, behind, one_move, one_move_of}
use Rattle.asm_step.specs.Next.{AreWhere, IsContinued, IsLayerOver, KeepsEach, first_alone}
use Rattle.asm_step.specs.Popped.{ExtendsMove, HasExtendedMove, IsContinuation, IsContinuedOf, IsOneMove, IsOneOf, KeepsTurns, as_compose_error}
use Rattle.asm_step.specs.declared.error.StepError.{StepError}
use Rattle.asm_step.specs.declared.error.StepError.TheVariants as step_error
use Rattle.asm_step.proofs.AsOne.{one_next}
use Rattle.asm_step.proofs.Layered.{keeps_err, top_of-push}
use Rattle.asm_step.proofs.Prefixes.{has_top}

-- ---- of one step

pub refusal_extends : (a : Meaning) (o : Option Move) (M : Move) (e : StepError) → IsContinued a o M (Err e) →
    ExtendsMove a o M (Err (as_compose_error e))
refusal_extends a None M (step_error.Clash c) h = absurd h.1
refusal_extends a None M (step_error.Large l) h = absurd h.1
refusal_extends a None M step_error.Many h = absurd h.0
refusal_extends a None M step_error.Deep h = absurd h.0
refusal_extends a None M step_error.Memory h = tt
refusal_extends a (Some D) M (step_error.Clash c) h = h
refusal_extends a (Some D) M (step_error.Large l) h = h
refusal_extends a (Some D) M step_error.Many h = h
refusal_extends a (Some D) M step_error.Deep h = absurd h.0
refusal_extends a (Some D) M step_error.Memory h = h

continued_extends : (a : Meaning) (o : Option Move) (M C : Move) → IsContinued a o M (Ok C) → ExtendsMove a o M (Ok C)
continued_extends a None M C h = sym (ok_is M C h.0.0)
continued_extends a (Some D) M C h = h

-- the layer of the move is on top, or the topmost one has taken it in
pub move_extended : (a : Meaning) (s new t : List Layer) (Ms : List Move) (M : Move) (U : Updates) (y : Layer) → IsLayerOver a s M U y →
    new ≡ t ++ behind Ms y ∷ [] → HasExtendedMove a s new M
move_extended a s new t Ms M U y over is = record {
  one = one_move_of y;
  is = ap one_move is ∙ ap (option_map one_move_of) (top_of-push t (behind Ms y));
  extends = continued_extends a (one_move s) M (one_move_of y) over.extends;
  each = over.each;
}

-- ---- of several

-- the first one
pub first_extended : (a : Meaning) (new : List Layer) (M : Move) → HasExtendedMove a [] new M → one_move new ≡ Some M
first_extended a new M gone = gone.is ∙ ap Some gone.extends

-- a refusal of memory tells nothing
pub none_told : (a : Meaning) (M : Move) (Ms : List Move) → IsContinuedOf a M Ms (Err compose_error.Memory)
none_told a M [] = tt
none_told a M (N ∷ Ns) = inl tt

-- so the first one is refused for memory alone
pub first_refused : (a : Meaning) (M : Move) (Ms : List Move) (e : ComposeError) → ExtendsMove a None M (Err e) →
    IsOneOf a (M ∷ Ms) (Err e) × KeepsTurns a.part (M ∷ Ms) (Err e)
first_refused a M Ms compose_error.Memory h = (none_told a M Ms, tt)
first_refused a M Ms (compose_error.Clash c) h = absurd h
first_refused a M Ms (compose_error.Large l) h = absurd h
first_refused a M Ms compose_error.ManyInstructions h = absurd h

-- a next one that is taken in, and then the others
pub more_continued : (a : Meaning) (M N D : Move) (Ns : List Move) (r : Result Move ComposeError) →
    IsContinuation a M N (Ok D) → IsContinuedOf a D Ns r → IsContinuedOf a M (N ∷ Ns) r
more_continued a M N D Ns (Ok C) first rest = (D, first, rest)
more_continued a M N D Ns (Err e) first rest = inr (D, first, rest)

module _ (a : Meaning) (s : List Layer) (D N : Move) (there : one_move s ≡ Some D) where
  -- one more
  pub next_extended : (Ms : List Move) (new : List Layer) → HasExtendedMove a s new N → IsOneMove a.part Ms D →
      (C : Move) × (one_move new ≡ Some C) × IsContinuation a D N (Ok C) × IsOneMove a.part (Ms ++ N ∷ []) C
  next_extended Ms new gone one =
      let after = subst (λ (o : Option Move). ExtendsMove a o N (Ok gone.one)) there gone.extends in
      let each = subst (λ (o : Option Move). KeepsEach a.part o N gone.one) there gone.each in
      (gone.one, gone.is, after.0, one_next a Ms D N gone.one one after.0.0 after.1 each)

  -- or it is refused
  pub next_refused : (Ms Ns : List Move) (e : ComposeError) → ExtendsMove a (one_move s) N (Err e) → IsOneMove a.part Ms D →
      IsContinuedOf a D (N ∷ Ns) (Err e) × KeepsTurns a.part (Ms ++ N ∷ Ns) (Err e)
  next_refused Ms Ns e refused one =
      let after = subst (λ (o : Option Move). ExtendsMove a o N (Err e)) there refused in
      (inl after.0, keeps_err a.part Ms Ns D N e one.does after.1)

-- ---- undef where a move writes

pub nothing_written : (U : Updates) → U ≡ finite.empty → AreWhere [] U
nothing_written U is l = ap (λ (m : Updates). is_some (finite.get m l)) is ∙ ap is_some (finite.get-empty location_cmp l)

pub one_written : (M : Move) (x : Instruction) (k : Place) (v : Value) (old new : Updates) → k ≡ x.at → AreWhere M old →
    new ≡ finite.insert old k v → AreWhere (M ++ x ∷ []) new
one_written M x k v old new same had is l =
    ap (λ (m : Updates). is_some (finite.get m l)) is ∙ ap is_some (finite.get-insert location_cmp_total old k v l)
    ∙ is_some-cond (eq_by_cmp location_cmp l k) v (finite.get old l)
    ∙ (λ i. (flipped location_cmp_total l k ∙ ap (λ q. eq_by_cmp location_cmp q l) same) i || had l i)
    ∙ or_comm (eq_by_cmp location_cmp x.at l) (writes M l)
    ∙ sym (list_any-append (λ (i : Instruction). eq_by_cmp location_cmp i.at l) M (x ∷ [])
    ∙ ap (λ b. writes M l || b) (or_false (eq_by_cmp location_cmp x.at l)))

-- ---- a step with layers

pub later_alone : (s : List Layer) (M : Move) (o : Option Move) → (s ≡ [] → ⊥) → o ≡ first_alone s M → o ≡ None
later_alone [] M o some is = absurd (some refl)
later_alone (x ∷ s) M o some is =
    let top = has_top x s in
    let none : Option Move = None in
    is ∙ ap (λ (t : Option Layer). option_map_or (λ (y : Layer). none) t (Some M)) top.1
