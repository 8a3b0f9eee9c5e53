-- Firing moves, and writing updates.
use Rattle.std.proofs.Common.{◌≡◌, Bool, true, false, cond, List, [], ◌∷◌, Some, refl, sym, ap, ◌∙◌}
use Rattle.std.specs.Prelude.{T, Err}
use Rattle.std.specs.Ordering.{eq_by_cmp}
use Rattle.std.specs.FinMap as finite
use Rattle.asm_element.specs.declared.value.Value.{Value}
use Rattle.asm_element.specs.Place.{Place, location_cmp, location_cmp_total, same_location}
use Rattle.asm_update.specs.Change.{IsChangedAt}
use Rattle.asm_update.specs.Group.{Parts}
use Rattle.asm_update.specs.Move.{Move}
use Rattle.asm_update.specs.State.{State, Updates, val, write, overwrite}
use Rattle.asm_update.specs.Fire.{Part, state_or, IsUpdateSet, IsLeastClash}
use Rattle.asm_update.specs.declared.clash.Cause.{Cause}
use Rattle.asm_update.specs.declared.clash.Clash.{Clash}
use Rattle.asm_update.proofs.FireLemmas.{fire_updates, fire_clash, stored, stored_or, get-write, get-overwrite, same_state}
use Rattle.asm_element.specs.Ascending.{rising_rest, first_gone}
use Rattle.asm_state.specs.Change.{IsOneChange}
use Rattle.asm_state.specs.FollowsFrom.{after_move}
use Rattle.asm_state.proofs.InPlace.{nothing, alone, updates_here, clash_here}

-- ---- the state after a move, from what aggregation answers

pub after_updates : (part : Part) (A : State) (M : Move) (U : Updates) → IsUpdateSet part (val A) M U → overwrite A U ≡ after_move part A M
after_updates part A M U h = sym (ap (state_or A) (fire_updates part A M U h))

pub after_clash : (part : Part) (A : State) (M : Move) (c : Clash) → IsLeastClash part (val A) M c → A ≡ after_move part A M
after_clash part A M c h = sym (ap (state_or A) (fire_clash part A M c h))

-- ---- or from what a change of one location leaves

write_alone : (A : State) (l : Place) (v : Value) → write A l v ≡ overwrite A (alone l v)
write_alone A l v = same_state _ _ (λ q.
    get-write A l v q ∙ at q (eq_by_cmp location_cmp q l) refl
    ∙ ap (λ o. stored_or o (finite.get A q)) (sym (finite.get-insert location_cmp_total nothing l v q))
    ∙ sym (get-overwrite A (alone l v) q)) where
      at : (q : Place) (b : Bool) → eq_by_cmp location_cmp q l ≡ b →
          cond b (stored v) (finite.get A q) ≡ stored_or (cond b (Some v) (finite.get nothing q)) (finite.get A q)
      at q true is = refl
      at q false is = ap (λ o. stored_or o (finite.get A q)) (sym (finite.get-empty location_cmp q))

pub after_change : (part : Part) (A B : State) (M : Move) (l : Place) (group : Parts) → IsOneChange M l group →
    IsChangedAt part A l group B → B ≡ after_move part A M
after_change part A B M l group (some, only, is) (v, gave, wrote) =
    wrote ∙ write_alone A l v
    ∙ after_updates part A M (alone l v) (updates_here part (val A) l M some only v
    (ap (λ (g : Parts). part (val A l) g.regular g.partials) (sym is) ∙ gave))

pub after_cause : (part : Part) (A : State) (M : Move) (l : Place) (group : Parts) (cause : Cause) → IsOneChange M l group →
    part (val A l) group.regular group.partials ≡ Err cause → A ≡ after_move part A M
after_cause part A M l group cause (some, only, is) gave =
    after_clash part A M (record { at = l; cause = cause }) (clash_here part (val A) l M some only cause
    (ap (λ (g : Parts). part (val A l) g.regular g.partials) (sym is) ∙ gave))

-- ---- writing updates one after the other is writing them all

-- the state with the values written, one after the other
abbrev pub written_with : State → List (Place × Value) → State
written_with A [] = A
written_with A (e ∷ es) = written_with (write A e.0 e.1) es

get-written : (A : State) (es : List (Place × Value)) (q : Place) → T (finite.is_sorted location_cmp es) → finite.get (written_with A es) q ≡ stored_or (finite.find location_cmp q es) (finite.get A q)
get-written A [] q sorted = refl
get-written A (e ∷ es) q sorted =
    get-written (write A e.0 e.1) es q (rising_rest location_cmp e.0 e.1 es sorted)
    ∙ ap (stored_or (finite.find location_cmp q es)) (get-write A e.0 e.1 q)
    ∙ by_test (eq_by_cmp location_cmp q e.0) refl where
      by_test : (b : Bool) → eq_by_cmp location_cmp q e.0 ≡ b → stored_or (finite.find location_cmp q es) (cond b (stored e.1) (finite.get A q)) ≡ stored_or (cond b (Some e.1) (finite.find location_cmp q es)) (finite.get A q)
      by_test true is = ap (λ o. stored_or o (stored e.1)) (ap (λ l. finite.find location_cmp l es) (same_location q e.0 is) ∙ first_gone location_cmp e.0 e.1 es sorted)
      by_test false is = refl

pub written_updates : (A : State) (U : Updates) → written_with A (finite.entries U) ≡ overwrite A U
written_updates A U = same_state _ _ by_place where
  by_place : (q : Place) → finite.get (written_with A (finite.entries U)) q ≡ finite.get (overwrite A U) q
  by_place q =
      get-written A (finite.entries U) q (finite.entries_sorted U) ∙ ap (λ o. stored_or o (finite.get A q)) (sym (finite.get-entries U q)) ∙ sym (get-overwrite A U q)
