-- A walk of an arranged move, which aggregates one location more at a time.
use Rattle.std.proofs.Common.{◌≡◌, Bool, true, false, cond, ◌||◌, [], map, Some, None, refl, sym, ap, subst}
use Rattle.std.proofs.Common.{◌∙◌}
use Rattle.std.specs.Prelude.{Option, Ok, Err, IsOk, IsSomeAnd, is_some}
use Rattle.std.specs.declared.cmp.Ordering.{Ordering}
use Rattle.std.specs.declared.cmp.Ordering.TheVariants.{Less, Equal, Greater}
use Rattle.std.specs.Ordering.{eq_by_cmp, ordering_reverse}
use Rattle.std.proofs.lemmas.List.Folds.{list_any-append}
use Rattle.std.specs.FinMap as finite
use Rattle.std.proofs.lemmas.Bool.{false≢true}
use Rattle.asm_element.specs.Place.{Place, location_cmp, location_cmp_total, location_cmp-IsAntisymmetric, same_location}
use Rattle.asm_element.specs.Tests.{or_true}
use Rattle.asm_element.specs.declared.value.Value.{Value}
use Rattle.asm_update.specs.Move.{Move, actions_at, writes}
use Rattle.asm_update.specs.State.{Updates}
use Rattle.asm_update.specs.Fire.{Part, Old, GroupResult, result_at, IsUpdateSet, IsLeastClash}
use Rattle.asm_update.specs.Aggregator.{IsAdmitted, IsOutcome}
use Rattle.asm_update.specs.declared.action.Instruction.{Instruction}
use Rattle.asm_update.specs.declared.clash.AggError.{AggError}
use Rattle.asm_update.specs.declared.clash.AggError.TheVariants.{Clash as Clashes, Memory}
use Rattle.asm_update.specs.declared.clash.Cause.{Cause}
use Rattle.asm_update.specs.declared.clash.Clash.{Clash}
use Rattle.asm_update.specs.declared.error.ResultError.{ResultError}
use Rattle.asm_update.specs.declared.error.ResultError.TheVariants.{Cause as Refused}
use Rattle.asm_aggregate.specs.Bundle.{Bundle, bundle_of, bundle_result, IsWritten, IsAdmission, IsAggregate}
use Rattle.asm_aggregate.specs.Stretch.{IsAscending, IsArranged, IsParted}
use Rattle.asm_aggregate.proofs.Bundles.{written_bundle}
use Rattle.asm_aggregate.proofs.Parted.{same_writes, none_lower, floor, later_up, later_apart, later_actions, stretch_actions}
use Rattle.asm_aggregate.proofs.Parted.{starts_written}

-- what is left ascends and does what the move does at its locations, and the others have their results, which are
-- below all that is left
pub record IsWalked (part : Part) (old : Old) (M left : Move) (updates : Updates) : Type 0 where
  pub rising : IsAscending left
  pub left_has : (l : Place) → writes left l ≡ true → actions_at left l ≡ actions_at M l
  pub done : (l : Place) → writes left l ≡ false → writes M l ≡ true →
      IsSomeAnd (finite.get updates l) (λ v. result_at part old M l ≡ Ok v)
  pub others : (l : Place) → writes M l ≡ false → finite.get updates l ≡ None
  pub below : (q l : Place) → is_some (finite.get updates q) ≡ true → writes left l ≡ true → location_cmp q l ≡ Less

module _ (part : Part) (old : Old) (M : Move) where
  pub walk_starts : (left : Move) (updates : Updates) → IsArranged M left → updates ≡ finite.empty →
      IsWalked part old M left updates
  walk_starts left updates arranged none = record {
    rising = arranged.ascending;
    left_has = λ l w. arranged.same l;
    done = λ l gone w. absurd (false≢true (sym gone ∙ same_writes left M l (arranged.same l) ∙ w));
    others = λ l w. nothing l;
    below = λ q l some w. absurd (false≢true (sym (ap is_some (nothing q)) ∙ some));
  } where
    nothing : (l : Place) → finite.get updates l ≡ None
    nothing l = ap (λ (u : Updates). finite.get u l) none ∙ finite.get-empty location_cmp l

  module _ (left stretch later : Move) (k : Place) (updates : Updates) (b : Bundle) (parted : IsParted left stretch later k)
      (is : b ≡ bundle_of (map (λ (i : Instruction). i.action) stretch)) (had : IsWalked part old M left updates) where
    same_first : actions_at left k ≡ actions_at M k
    same_first = had.left_has k (starts_written left stretch later k had.rising parted)

    first_written_by : writes M k ≡ true
    first_written_by =
        sym (same_writes left M k same_first) ∙ starts_written left stretch later k had.rising parted

    first_has : b ≡ bundle_of (actions_at M k)
    first_has = is ∙ ap bundle_of (sym (stretch_actions left stretch later k had.rising parted) ∙ same_first)

    pub first_written : IsWritten b
    first_written = subst IsWritten (sym first_has) (written_bundle M k first_written_by)

    gives : (o : GroupResult) → bundle_result part (old k) b ≡ o → result_at part old M k ≡ o
    gives o h = ap (bundle_result part (old k)) (sym first_has) ∙ h

    -- what has a result is below the first location that is left
    pub first_above : (q : Place) → is_some (finite.get updates q) ≡ true → location_cmp q k ≡ Less
    first_above q some = had.below q k some (starts_written left stretch later k had.rising parted)

    later_in : (l : Place) → writes later l ≡ true → writes left l ≡ true
    later_in l w =
        ap (λ (xs : Move). writes xs l) parted.whole
        ∙ list_any-append (λ (j : Instruction). eq_by_cmp location_cmp j.at l) stretch later
        ∙ ap (λ b. writes stretch l || b) w ∙ or_true (writes stretch l)

    -- and this one below the later ones
    first_below : (l : Place) → writes later l ≡ true → location_cmp k l ≡ Less
    first_below l w = by_order (location_cmp l k) refl where
      by_order : (o : Ordering) → location_cmp l k ≡ o → location_cmp k l ≡ Less
      by_order Less e =
          absurd (false≢true (sym (none_lower l k left e (floor left stretch later k had.rising parted)) ∙ later_in l w))
      by_order Equal e =
          absurd (false≢true (sym (later_apart left stretch later k had.rising parted)
          ∙ ap (writes later) (sym (location_cmp-IsAntisymmetric l k e)) ∙ w))
      by_order Greater e = location_cmp_total.antisymm k l ∙ ap ordering_reverse e

    -- the first location that is left has a result
    pub walk_goes_on : (v : Value) (next : Updates) → bundle_result part (old k) b ≡ Ok v →
        next ≡ finite.insert updates k v → IsWalked part old M later next
    walk_goes_on v next gave put = record {
      rising = later_up left stretch later k had.rising parted;
      left_has = λ l w. still l w (eq_by_cmp location_cmp l k) refl;
      done = λ l gone w. by_test l gone w (eq_by_cmp location_cmp l k) refl;
      others = λ l w. got l
          ∙ ap (λ t. cond t (Some v) (finite.get updates l)) (elsewhere l w (eq_by_cmp location_cmp l k) refl)
          ∙ had.others l w;
      below = λ q l some w. by_key q l some w (eq_by_cmp location_cmp q k) refl;
    } where
      got : (l : Place) → finite.get next l ≡ cond (eq_by_cmp location_cmp l k) (Some v) (finite.get updates l)
      got l = ap (λ (u : Updates). finite.get u l) put ∙ finite.get-insert location_cmp_total updates k v l

      later_writes : (l : Place) → eq_by_cmp location_cmp l k ≡ false → writes left l ≡ writes later l
      later_writes l e = sym (same_writes later left l (later_actions left stretch later k had.rising parted l e))

      still : (l : Place) → writes later l ≡ true → (t : Bool) → eq_by_cmp location_cmp l k ≡ t →
          actions_at later l ≡ actions_at M l
      still l w true e =
          absurd (false≢true (sym (later_apart left stretch later k had.rising parted)
          ∙ ap (writes later) (sym (same_location l k e)) ∙ w))
      still l w false e = later_actions left stretch later k had.rising parted l e ∙ had.left_has l (later_writes l e ∙ w)

      by_test : (l : Place) → writes later l ≡ false → writes M l ≡ true → (t : Bool) → eq_by_cmp location_cmp l k ≡ t →
          IsSomeAnd (finite.get next l) (λ v. result_at part old M l ≡ Ok v)
      by_test l gone w true e =
          subst (λ (o : Option Value). IsSomeAnd o (λ v. result_at part old M l ≡ Ok v))
          (sym (got l ∙ ap (λ t. cond t (Some v) (finite.get updates l)) e))
          (ap (result_at part old M) (same_location l k e) ∙ gives (Ok v) gave)
      by_test l gone w false e =
          subst (λ (o : Option Value). IsSomeAnd o (λ v. result_at part old M l ≡ Ok v))
          (sym (got l ∙ ap (λ t. cond t (Some v) (finite.get updates l)) e))
          (had.done l (later_writes l e ∙ gone) w)

      by_key : (q l : Place) → is_some (finite.get next q) ≡ true → writes later l ≡ true → (t : Bool) →
          eq_by_cmp location_cmp q k ≡ t → location_cmp q l ≡ Less
      by_key q l some w true e = ap (λ p. location_cmp p l) (same_location q k e) ∙ first_below l w
      by_key q l some w false e =
          had.below q l
          (sym (ap is_some (got q ∙ ap (λ t. cond t (Some v) (finite.get updates q)) e)) ∙ some)
          (later_in l w)

      elsewhere : (l : Place) → writes M l ≡ false → (t : Bool) → eq_by_cmp location_cmp l k ≡ t → t ≡ false
      elsewhere l w true e = absurd (false≢true (sym w ∙ ap (writes M) (same_location l k e) ∙ first_written_by))
      elsewhere l w false e = refl

    -- or it has none
    pub walk_clashes : (cause : Cause) (clash : Clash) → bundle_result part (old k) b ≡ Err cause → clash.at ≡ k →
        clash.cause ≡ cause → IsLeastClash part old M clash
    walk_clashes cause clash gave at caused = record {
      written = ap (writes M) at ∙ first_written_by;
      cause = ap (result_at part old M) at ∙ gives (Err cause) gave ∙ ap (λ c. Err c) (sym caused);
      least = λ l lt w. has_ok l (finite.get updates l)
          (had.done l
          (none_lower l k left (ap (location_cmp l) (sym at) ∙ lt) (floor left stretch later k had.rising parted)) w);
    } where
      has_ok : (l : Place) (o : Option Value) → IsSomeAnd o (λ v. result_at part old M l ≡ Ok v) →
          IsOk (result_at part old M l)
      has_ok l (Some v) h = subst IsOk (sym h) refl
      has_ok l None h = absurd h

    -- the answer of that clash, where memory wasn't refused for it
    pub walk_refuses : (error : ResultError) (answer : AggError) →
        IsOutcome (Err error) (bundle_result part (old k) b) →
        ((c : Clash) → answer ≡ Clashes c → (c.at ≡ k) × (error ≡ Refused c.cause)) →
        IsAggregate part old M (Err answer)
    walk_refuses error (Clashes c) refused at =
        walk_clashes c.cause c
        (subst (λ (e : ResultError). IsOutcome (Err e) (bundle_result part (old k) b)) (at c refl).1 refused)
        (at c refl).0 refl
    walk_refuses error Memory refused at = tt

    -- a result that isn't made goes on as well
    pub walk_admits : IsOk (bundle_result part (old k) b) → (U : Updates) × IsWalked part old M later U
    walk_admits ok = with_value (bundle_result part (old k) b) refl ok where
      with_value : (o : GroupResult) → bundle_result part (old k) b ≡ o → IsOk o → (U : Updates) × IsWalked part old M later U
      with_value (Ok v) gave h = (finite.insert updates k v, walk_goes_on v (finite.insert updates k v) gave refl)
      with_value (Err cause) gave h = absurd (false≢true h)

    -- and so does the answer of a clash
    pub walk_rejects : (error : ResultError) (answer : AggError) →
        IsAdmitted (Err error) (bundle_result part (old k) b) →
        ((c : Clash) → answer ≡ Clashes c → (c.at ≡ k) × (error ≡ Refused c.cause)) →
        IsAdmission part old M (Err answer)
    walk_rejects error (Clashes c) refused at =
        walk_clashes c.cause c
        (subst (λ (e : ResultError). IsAdmitted (Err e) (bundle_result part (old k) b)) (at c refl).1 refused)
        (at c refl).0 refl
    walk_rejects error Memory refused at = tt

  -- nothing is left
  pub walk_ends : (left : Move) (updates : Updates) → left ≡ [] → IsWalked part old M left updates →
      IsUpdateSet part old M updates
  walk_ends left updates none had = record {
    written = λ l w. had.done l (ap (λ (xs : Move). writes xs l) none) w;
    others = had.others;
  }
