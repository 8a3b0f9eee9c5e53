-- A move of one partial update: its update set, or its clash, and what it comes to.
use Rattle.std.proofs.Common.{◌≡◌, Bool, true, false, cond, ◌||◌, [], ◌∷◌, length, map, Option, Some, None, Ok, Err, refl, sym, ap, subst, ◌∙◌, arith}
use Rattle.std.specs.Prelude.{IsSomeAnd}
use Rattle.std.specs.Cmp.{Equal-is}
use Rattle.std.specs.FinMap as finite
use Rattle.std.specs.Option.{option_map_or}
use Rattle.std.specs.Ordering.{eq_by_cmp}
use Rattle.std.specs.declared.cmp.Ordering.TheVariants.{Less, Equal}
use Rattle.std.proofs.lemmas.Bool.{false≢true}
use Rattle.asm_element.specs.Place.{Place, location_cmp, location_cmp_total, same_location}
use Rattle.asm_element.specs.Tests.{flipped, itself}
use Rattle.asm_element.specs.declared.value.Value.{Value}
use Rattle.asm_update.specs.Action.{is_partial, is_regular}
use Rattle.asm_update.specs.Fire.{Part, Old, res, result_at, IsLeastClash, IsUpdateSet}
use Rattle.asm_update.specs.Move.{actions_at, writes}
use Rattle.asm_update.specs.State.{Updates}
use Rattle.asm_update.specs.declared.action.Action.{Action}
use Rattle.asm_update.specs.declared.action.Action.TheVariants.{Regular, SetAdd, SetRemove, BagAdd, BagRemove, Increment}
use Rattle.asm_update.specs.declared.action.Instruction.{Instruction}
use Rattle.asm_update.specs.declared.clash.Clash.{Clash}
use Rattle.asm_step.specs.Outcomes.{Outcome, Outcomes, change_alone, listed}
use Rattle.asm_step.proofs.Prefixes.{none_of_empty}
use Rattle.asm_step.proofs.Stacked.{insert_many}

abbrev none_yet : Updates
none_yet = finite.empty

-- the update set of one location
abbrev pub alone : Place → Value → Updates
alone l v = finite.insert none_yet l v

pub get-alone : (k l : Place) (v : Value) → finite.get (alone k v) l ≡ cond (eq_by_cmp location_cmp k l) (Some v) None
get-alone k l v =
    finite.get-insert location_cmp_total none_yet k v l
    ∙ ap (λ b. cond b (Some v) (finite.get none_yet l)) (flipped location_cmp_total l k)
    ∙ ap (cond (eq_by_cmp location_cmp k l) (Some v)) (finite.get-empty location_cmp l)

-- a partial update alone has its group's result
res_of : (part : Part) (old : Value) (x : Action) → is_partial x ≡ true → res part old (x ∷ []) ≡ part old None (x ∷ [])
res_of part old (Regular v) h = absurd (false≢true h)
res_of part old (SetAdd e) h = refl
res_of part old (SetRemove e) h = refl
res_of part old (BagAdd e n) h = refl
res_of part old (BagRemove e n) h = refl
res_of part old (Increment n) h = refl

pub unregular : (x : Action) → is_partial x ≡ true → is_regular x ≡ false
unregular (Regular v) h = absurd (false≢true h)
unregular (SetAdd e) h = refl
unregular (SetRemove e) h = refl
unregular (BagAdd e n) h = refl
unregular (BagRemove e n) h = refl
unregular (Increment n) h = refl

pub actions_there : (i : Instruction) (l : Place) → eq_by_cmp location_cmp i.at l ≡ true → actions_at (i ∷ []) l ≡ i.action ∷ []
actions_there i l e = ap (λ b. map (λ (j : Instruction). j.action) (cond b (i ∷ []) [])) e

written_there : (i : Instruction) → writes (i ∷ []) i.at ≡ true
written_there i = ap (λ b. b || false) (itself location_cmp_total i.at)

written_alone : (i : Instruction) (q : Place) → writes (i ∷ []) q ≡ true → q ≡ i.at
written_alone i q w = by_test (eq_by_cmp location_cmp i.at q) refl where
  by_test : (b : Bool) → eq_by_cmp location_cmp i.at q ≡ b → q ≡ i.at
  by_test true is = sym (same_location i.at q is)
  by_test false is = absurd (false≢true (sym (ap (λ b. b || false) is) ∙ w))

module _ (part : Part) (old : Old) (i : Instruction) (partial : is_partial i.action ≡ true) where
  outcome_here : result_at part old (i ∷ []) i.at ≡ part (old i.at) None (i.action ∷ [])
  outcome_here =
      ap (res part (old i.at)) (actions_there i i.at (itself location_cmp_total i.at)) ∙ res_of part (old i.at) i.action partial

  pub change_updates : (v : Value) → part (old i.at) None (i.action ∷ []) ≡ Ok v → IsUpdateSet part old (i ∷ []) (alone i.at v)
  change_updates v gave = record {
    written = λ q w. subst (λ (k : Place). IsSomeAnd (finite.get (alone i.at v) k) (λ u. result_at part old (i ∷ []) k ≡ Ok u))
        (sym (written_alone i q w))
        (subst (λ (o : Option Value). IsSomeAnd o (λ u. result_at part old (i ∷ []) i.at ≡ Ok u))
        (sym (get-alone i.at i.at v ∙ ap (λ b. cond b (Some v) None) (itself location_cmp_total i.at)))
        (outcome_here ∙ gave));
    others = λ q w. get-alone i.at q v ∙ ap (λ b. cond b (Some v) None) (elsewhere q w (eq_by_cmp location_cmp i.at q) refl);
  } where
    elsewhere : (q : Place) → writes (i ∷ []) q ≡ false → (b : Bool) → eq_by_cmp location_cmp i.at q ≡ b → b ≡ false
    elsewhere q w true e = absurd (false≢true (sym w ∙ ap (λ b. b || false) e))
    elsewhere q w false e = refl

  pub change_clash : (clash : Clash) → clash.at ≡ i.at → part (old i.at) None (i.action ∷ []) ≡ Err clash.cause →
      IsLeastClash part old (i ∷ []) clash
  change_clash clash at gave = record {
    written = ap (writes (i ∷ [])) at ∙ written_there i;
    cause = ap (result_at part old (i ∷ [])) at ∙ outcome_here ∙ gave;
    least = λ q lt w. absurd (not_below q lt (written_alone i q w ∙ sym at));
  } where
    not_below : (q : Place) → location_cmp q clash.at ≡ Less → q ≡ clash.at → ⊥
    not_below q lt same =
        let no : Less ≡ Equal = sym lt ∙ ap (λ (k : Place). location_cmp k clash.at) same
        ∙ (Equal-is (location_cmp clash.at clash.at)).0 (itself location_cmp_total clash.at) in cc

abbrev no_outcomes : Outcomes
no_outcomes = finite.empty

-- what it comes to
abbrev pub changed : Instruction → Value → Outcome
changed i v = record { value = v; actions = i.action ∷ []; builds = true; depends = false }

pub get-change : (i : Instruction) (v : Value) (l : Place) →
    finite.get (change_alone i v) l ≡ cond (eq_by_cmp location_cmp i.at l) (Some (changed i v)) None
get-change i v l =
    finite.get-insert location_cmp_total no_outcomes i.at (changed i v) l
    ∙ ap (λ b. cond b (Some (changed i v)) (finite.get no_outcomes l)) (flipped location_cmp_total l i.at)
    ∙ ap (cond (eq_by_cmp location_cmp i.at l) (Some (changed i v))) (finite.get-empty location_cmp l)

pub one_listed : (i : Instruction) (v : Value) → 1 ≡ length (listed (change_alone i v))
one_listed i v =
    let came = insert_many no_outcomes i.at (changed i v) in
    let none : length (listed no_outcomes) ≡ 0 = ap length none_of_empty in
    let here = ap (λ (o : Option Outcome). length (option_map_or (λ (o : Outcome). o.actions) o [])) (finite.get-empty location_cmp i.at) in
    omega (arith, came, none, here)
