use Rattle.std.proofs.Common.{◌≡◌, false, cond, Option, Some, IsSome, unwrap_or, ap, sym, subst, refl, ◌∙◌}
use Rattle.std.specs.Prelude.{Result, Ok, Err, IfErr, OnOk}
use Rattle.std.specs.FinMap as map
use Rattle.std.specs.BTreeMap.{BTreeMap, get_by}
use Rattle.std.proofs.lemmas.Map.Views.{All-values-set_value}
use Rattle.std.proofs.lemmas.Result.{on_err_weaker}
use Rattle.asm_element.specs.Place.{Place, location_cmp, location_cmp_total, location_cmp-IsAntisymmetric}
use Rattle.asm_element.specs.Value as held
use Rattle.asm_element.specs.declared.value.Value.{Value}
use Rattle.asm_element.proofs.Ordered.{get-from_tree, insert-from_tree, insert_same}
use Rattle.asm_update.specs.Aggregator.{IsOutcome, IsLeft}
use Rattle.asm_update.specs.Fire.{GroupResult}
use Rattle.asm_update.specs.declared.error.ResultError.{ResultError}
use Rattle.asm_update.specs.declared.error.ResultError.TheVariants as result_error
use Rattle.asm_update.specs.State.{State, write}
use Rattle.asm_update.proofs.plain_state.PlainState.change.Goals as goal

-- a value other than undef is written in
written_in : (m : State) (l : Place) (v : Value) → held.is_undef v ≡ false → map.insert m l v ≡ write m l v
written_in m l v h = ap (λ b. cond b (map.remove m l) (map.insert m l v)) (sym h)

-- what a call that leaves a value says where it succeeds
left_ok : {P : Type 0} {v : Value} {o : GroupResult} (r : Result (Unit {0}) ResultError) → (o ≡ Ok v → P) → IsLeft r v o → OnOk r P
left_ok (Ok _) f h = f h
left_ok (Err _) f h = tt

-- and where it answers a cause
left_cause : {o p : GroupResult} (v : Value) (r : Result (Unit {0}) ResultError) → p ≡ o → IsLeft r v o → IfErr r (λ e. IsOutcome (Err e) p)
left_cause v (Ok _) is h = tt
left_cause v (Err (result_error.Cause cause)) is h = is ∙ h
left_cause v (Err result_error.Memory) is h = tt

-- the value that the tree of a state has at a location is the state's
held_there : (t : BTreeMap Place Value) (m : State) (l : Place) (v : Value) → map.from_entries {R = location_cmp} t.entries ≡ m → Some v ≡ get_by (location_cmp l) t → map.get m l ≡ Some v
held_there t m l v is there = ap (λ (m : State). map.get m l) (sym is) ∙ get-from_tree location_cmp_total t.entries l ∙ sym there

pub change_undef-requires : goal.change_undef-requires
change_undef-requires g c =
    ap (λ (m : BTreeMap Place Value). map.get (map.from_entries {R = location_cmp} m.entries) c.args.at.now) c.get_mut.follows.holds-at-none
    ∙ get-from_tree location_cmp_total c.self.inside.values.entries c.args.at.now ∙ sym c.in-None.ensures.value

pub change_value-requires : goal.change_value-requires
change_value-requires g c =
    let among = c.in-Some.ensures.member in
    subst (λ v. held.is_undef v ≡ false) (sym among.1.1) (c.self.invariant.no_undef among.0 c.in-Some.value.now among.1.0)

pub invariant_of-self : goal.invariant_of-self
invariant_of-self g c =
    let wrote = c.get_mut.follows.holds c.change_value.new.value in record {
      ordered = wrote.4;
      no_undef = rw wrote.0 (All-values-set_value _ (λ v. held.is_undef v ≡ false) c.self.inside.values.entries c.change_value.new.value c.self.invariant.no_undef c.change_value.ensures.held);
      locations = rw wrote.1 c.self.invariant.locations;
      values = rw wrote.0 (All-values-set_value _ held.IsProper c.self.inside.values.entries c.change_value.new.value c.self.invariant.values c.change_value.ensures.proper);
    }

pub returns-in-Some-clause-ok : goal.returns-in-Some-clause-ok
returns-in-Some-clause-ok g c =
    let v = c.change_value.new.value in
    let old = held_there c.self.inside.values c.args.self.now c.args.at.now c.in-Some.value.now c.self.view_is c.in-Some.ensures.value in
    let there : IsSome (get_by (location_cmp c.args.at.now) c.self.inside.values) = subst IsSome c.in-Some.ensures.value refl in
    let is =
    insert-from_tree location_cmp_total location_cmp-IsAntisymmetric c.self.inside.values (c.get_mut.follows.lender v) c.args.at.now v ((c.get_mut.follows.holds v).3 there).0
    ∙ ap (λ (s : State). map.insert s c.args.at.now v) c.self.view_is in
    left_ok c.change_value.result
    (λ gave. (v, ap (λ (o : Option Value). (g.A.Aggregator.meaning c.args.aggregator.now).part (unwrap_or o held.undef) c.args.group.now.regular c.args.group.now.partials) old ∙ gave, is ∙ written_in c.args.self.now c.args.at.now v c.change_value.ensures.held))
    c.change_value.ensures.left

pub returns-in-Some-clause-cause : goal.returns-in-Some-clause-cause
returns-in-Some-clause-cause g c =
    let old = held_there c.self.inside.values c.args.self.now c.args.at.now c.in-Some.value.now c.self.view_is c.in-Some.ensures.value in
    left_cause c.change_value.new.value c.change_value.result
    (ap (λ (o : Option Value). (g.A.Aggregator.meaning c.args.aggregator.now).part (unwrap_or o held.undef) c.args.group.now.regular c.args.group.now.partials) old)
    c.change_value.ensures.left

pub returns-in-Some-clause-err : goal.returns-in-Some-clause-err
returns-in-Some-clause-err g c =
    let v = c.change_value.new.value in
    let old = held_there c.self.inside.values c.args.self.now c.args.at.now c.in-Some.value.now c.self.view_is c.in-Some.ensures.value in
    let there : IsSome (get_by (location_cmp c.args.at.now) c.self.inside.values) = subst IsSome c.in-Some.ensures.value refl in
    let is =
    insert-from_tree location_cmp_total location_cmp-IsAntisymmetric c.self.inside.values (c.get_mut.follows.lender v) c.args.at.now v ((c.get_mut.follows.holds v).3 there).0
    ∙ ap (λ (s : State). map.insert s c.args.at.now v) c.self.view_is in
    on_err_weaker c.change_value.result
    (λ same. is ∙ ap (map.insert c.args.self.now c.args.at.now) same ∙ insert_same location_cmp_total location_cmp-IsAntisymmetric c.args.self.now c.args.at.now c.in-Some.value.now old)
    c.change_value.ensures.err
