-- The update set of a move of one regular update.
use Rattle.std.proofs.Common.{◌≡◌, Bool, true, false, cond, ◌||◌, [], ◌∷◌, map, refl, sym, ap, ◌∙◌, subst}
use Rattle.std.specs.Prelude.{Option, Some, None, Ok, IfSome, IsSomeAnd, is_some, unwrap_or}
use Rattle.std.specs.Borrow.{Bor}
use Rattle.std.specs.FinMap as finite
use Rattle.std.specs.Ordering.{eq_by_cmp}
use Rattle.std.proofs.lemmas.Bool.{false≢true}
use Rattle.asm_element.specs.Place.{Place, location_cmp, location_cmp_total, same_location}
use Rattle.asm_element.specs.Tests.{itself}
use Rattle.asm_element.specs.declared.value.Value.{Value}
use Rattle.asm_update.specs.Fire.{Part, Old, result_at, res, IsUpdateSet}
use Rattle.asm_update.specs.Move.{Move, writes}
use Rattle.asm_update.specs.State.{Updates}
use Rattle.asm_update.specs.declared.action.Action.{Action}
use Rattle.asm_update.specs.declared.action.Action.TheVariants.{Regular, SetAdd, SetRemove, BagAdd, BagRemove, Increment}
use Rattle.asm_update.specs.declared.action.Instruction.{Instruction}
use Rattle.asm_aggregate.specs.OnlyPut.{only_put}

abbrev nothing : Updates
nothing = finite.empty

-- the update set of one location
abbrev pub alone : Place → Value → Updates
alone l v = finite.insert nothing l v

-- the move puts the value at the location, and does nothing else
abbrev pub put : Place → Value → Move
put l v = record { at = l; action = Regular v } ∷ []

none_is_not_some : {p : Place × Value} → None ≡ Some p → ⊥
none_is_not_some e = cc

pub is_put : (M : Move) (l : Place) (v : Value) → only_put M ≡ Some (l, v) → M ≡ put l v
is_put [] l v e = absurd (none_is_not_some e)
is_put (i ∷ j ∷ M) l v e = absurd (none_is_not_some e)
is_put (i ∷ []) l v e = by_action i.at i.action e where
  by_action : (k : Place) (a : Action) → only_put (record { at = k; action = a } ∷ []) ≡ Some (l, v) → record { at = k; action = a } ∷ [] ≡ put l v
  by_action k (Regular w) e =
      let at : k ≡ l = ap (λ (o : Option (Place × Value)). (unwrap_or o (k, w)).0) e in
      let value : w ≡ v = ap (λ (o : Option (Place × Value)). (unwrap_or o (k, w)).1) e in
      λ i. record { at = at i; action = Regular (value i) } ∷ []
  by_action k (SetAdd _) e = absurd (none_is_not_some e)
  by_action k (SetRemove _) e = absurd (none_is_not_some e)
  by_action k (BagAdd _ _) e = absurd (none_is_not_some e)
  by_action k (BagRemove _ _) e = absurd (none_is_not_some e)
  by_action k (Increment _) e = absurd (none_is_not_some e)

module _ (part : Part) (old : Old) (l : Place) (v : Value) where
  written_alone : (q : Place) → writes (put l v) q ≡ true → q ≡ l
  written_alone q w = by_test (eq_by_cmp location_cmp l q) refl where
    by_test : (b : Bool) → eq_by_cmp location_cmp l q ≡ b → q ≡ l
    by_test true is = sym (same_location l q is)
    by_test false is = absurd (false≢true (sym (ap (λ b. b || false) is) ∙ w))

  outcome_here : result_at part old (put l v) l ≡ Ok v
  outcome_here = ap (λ b. res part (old l) (map {A = Instruction} (λ i. i.action) (cond b (put l v) []))) (itself location_cmp_total l)

  put_updates : IsUpdateSet part old (put l v) (alone l v)
  put_updates = record {
    written = λ q w. subst (λ (k : Place). IsSomeAnd (finite.get (alone l v) k) (λ u. result_at part old (put l v) k ≡ Ok u))
        (sym (written_alone q w))
        (subst (λ (o : Option Value). IsSomeAnd o (λ u. result_at part old (put l v) l ≡ Ok u))
        (sym (finite.get-insert location_cmp_total nothing l v l ∙ ap (λ b. cond b (Some v) (finite.get nothing l)) (itself location_cmp_total l)))
        outcome_here);
    others = λ q w. finite.get-insert location_cmp_total nothing l v q
        ∙ ap (λ b. cond b (Some v) (finite.get nothing q)) (elsewhere q w (eq_by_cmp location_cmp q l) refl)
        ∙ finite.get-empty location_cmp q;
  } where
    elsewhere : (q : Place) → writes (put l v) q ≡ false → (b : Bool) → eq_by_cmp location_cmp q l ≡ b → b ≡ false
    elsewhere q w true e = absurd (false≢true (sym w ∙ ap (writes (put l v)) (same_location q l e) ∙ ap (λ b. b || false) (itself location_cmp_total l)))
    elsewhere q w false e = refl

-- on every state the update set has the one value
pub only_put_updates : (part : Part) (old : Old) (M : Move) (l : Place) (v : Value) → only_put M ≡ Some (l, v) → IsUpdateSet part old M (alone l v)
only_put_updates part old M l v e =
    subst (λ (N : Move). IsUpdateSet part old N (alone l v)) (sym (is_put M l v e)) (put_updates part old l v)

pub has_updates : (part : Part) (old : Old) (M : Move) (o : Option (Bor Place × Bor Value)) → IfSome o (λ p. only_put M ≡ Some (p.0.now, p.1.now)) → is_some o ≡ true → (U : Updates) × IsUpdateSet part old M U
has_updates part old M (Some p) is some = (alone p.0.now p.1.now, only_put_updates part old M p.0.now p.1.now is)
has_updates part old M None is some = absurd (false≢true some)
