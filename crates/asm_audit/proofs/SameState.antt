-- States that hold no undef: what moves leave of them, and when two are the same.
use Rattle.std.proofs.Common.{◌≡◌, Bool, true, false, cond, List, [], ◌∷◌, map, All, Option, Some, None, Result, Ok, Err, unwrap_or, refl, sym, ap, subst, ◌∙◌, true≢false}
use Rattle.std.specs.Ordering.{eq_by_cmp}
use Rattle.std.specs.FinMap as finite
use Rattle.std.proofs.lemmas.List.Elements.{All-head, All-tail}
use Rattle.std.proofs.lemmas.Option.{same_Some}
use Rattle.asm_element.specs.Place.{Place, location_cmp}
use Rattle.asm_element.specs.Value as value
use Rattle.asm_element.specs.declared.value.Value.{Value}
use Rattle.asm_update.specs.Fire.{Part, aggregated, overwritten, fire, state_or, state_of}
use Rattle.asm_update.specs.Move.{Move}
use Rattle.asm_update.specs.State as state
use Rattle.asm_update.specs.State.{State, Updates, val, write, write_all, overwrite}
use Rattle.asm_update.specs.declared.clash.Clash.{Clash}
use Rattle.asm_update.proofs.FireLemmas.{stored, stored_or, get-write, get-overwrite, same_state}

-- no location holds undef
abbrev pub IsHeld : State → Type 0
IsHeld A = (q : Place) (v : Value) → finite.get A q ≡ Some v → value.is_undef v ≡ false

found_held : (es : List (Place × Value)) → All (λ v. value.is_undef v ≡ false) (map (λ (e : Place × Value). e.1) es) →
    (q : Place) (v : Value) → finite.find location_cmp q es ≡ Some v → value.is_undef v ≡ false
found_held [] each q v is = absurd cc
found_held (e ∷ es) each q v is =
    by_test (eq_by_cmp location_cmp q e.0) is
    (found_held es (All-tail (λ w. value.is_undef w ≡ false) e.1 _ each) q v) where
      by_test : (b : Bool) → cond b (Some e.1) (finite.find location_cmp q es) ≡ Some v →
          (finite.find location_cmp q es ≡ Some v → value.is_undef v ≡ false) → value.is_undef v ≡ false
      by_test true is later =
          subst (λ w. value.is_undef w ≡ false) (same_Some _ _ is)
          (All-head (λ w. value.is_undef w ≡ false) e.1 _ each)
      by_test false is later = later is

pub proper_held : (A : State) → state.IsProper A → IsHeld A
proper_held A proper q v is = found_held (finite.entries A) proper.no_undef q v (sym (finite.get-entries A q) ∙ is)

stored_held : (w v : Value) → stored w ≡ Some v → value.is_undef v ≡ false
stored_held w v is = by_test (value.is_undef w) refl is where
  by_test : (b : Bool) → value.is_undef w ≡ b → cond b None (Some w) ≡ Some v → value.is_undef v ≡ false
  by_test true e is = absurd cc
  by_test false e is = subst (λ x. value.is_undef x ≡ false) (same_Some _ _ is) e

write_held : (A : State) (l : Place) (w : Value) → IsHeld A → IsHeld (write A l w)
write_held A l w held q v is = by_test (eq_by_cmp location_cmp q l) (sym (get-write A l w q) ∙ is) where
  by_test : (b : Bool) → cond b (stored w) (finite.get A q) ≡ Some v → value.is_undef v ≡ false
  by_test true is = stored_held w v is
  by_test false is = held q v is

empty_held : IsHeld state.empty
empty_held q v is = absurd (let bad : ◌≡◌ {A = Option Value} None (Some v) = sym (finite.get-empty location_cmp q) ∙ is in cc)

pub written_held : (es : List (Place × Value)) → IsHeld (write_all state.empty es)
written_held [] = empty_held
written_held (e ∷ es) = write_held (write_all state.empty es) e.0 e.1 (written_held es)

overwrite_held : (A : State) (U : Updates) → IsHeld A → IsHeld (overwrite A U)
overwrite_held A U held q v is = by_update (finite.get U q) (sym (get-overwrite A U q) ∙ is) where
  by_update : (o : Option Value) → stored_or o (finite.get A q) ≡ Some v → value.is_undef v ≡ false
  by_update (Some w) is = stored_held w v is
  by_update None is = held q v is

module _ (part : Part) where
  fired_held : (A : State) (M : Move) → IsHeld A → IsHeld (state_or A (fire part A M))
  fired_held A M held = by_answer (aggregated part (val A) M) where
    by_answer : (r : Result Updates Clash) → IsHeld (state_or A (overwritten A r))
    by_answer (Ok U) = overwrite_held A U held
    by_answer (Err c) = held

  -- moves leave no undef either
  pub left_held : (A : State) (q : List Move) → IsHeld A → IsHeld (state_of part A q)
  left_held A [] held = held
  left_held A (M ∷ q) held = left_held (state_or A (fire part A M)) q (fired_held A M held)

same_held : (x y : Option Value) → ((v : Value) → x ≡ Some v → value.is_undef v ≡ false) →
    ((v : Value) → y ≡ Some v → value.is_undef v ≡ false) → unwrap_or x value.undef ≡ unwrap_or y value.undef → x ≡ y
same_held None None h k e = refl
same_held (Some v) (Some w) h k e = ap Some e
same_held (Some v) None h k e = absurd (true≢false (sym (ap value.is_undef e) ∙ h v refl))
same_held None (Some w) h k e = absurd (true≢false (ap value.is_undef e ∙ k w refl))

-- two that have the same values are the same
pub same_values : (A B : State) → IsHeld A → IsHeld B → ((l : Place) → val A l ≡ val B l) → A ≡ B
same_values A B held other same =
    same_state A B (λ q. same_held (finite.get A q) (finite.get B q) (held q) (other q) (same q))
