-- The test of staleness finds just the moves that overwrite a location.
use Rattle.std.proofs.Common.{◌≡◌, ℕ, zero, suc, ◌+◌, ◌<◌, true, List, [], ◌∷◌, is_ok, arith, refl, ap, sym, ◌∙◌, ◌⊎◌, inl, inr}
use Rattle.std.proofs.lemmas.Bool.{or_cases, or_left, or_right, and_parts, and_from, lt-ltb, ltb-true}
use Rattle.asm_element.specs.Place.{Place}
use Rattle.asm_update.specs.Move.{Move, writes}
use Rattle.asm_update.specs.State.{State}
use Rattle.asm_update.specs.Fire.{Part, fire}
use Rattle.asm_state.specs.FollowsFrom.{overwrites, after_move, writer, is_stale, IsOverwrittenBy, IsStale, IsLastWriter}
use Rattle.asm_state.proofs.Writers.{stale_is}

-- a move more in front
later : (part : Part) (A : State) (N : Move) (q : List Move) (l : Place) (number number' k : ℕ) (M : Move) → number' < suc k + 1 → IsOverwrittenBy part (after_move part A N) q l number k M → IsOverwrittenBy part A (N ∷ q) l number' (suc k) M
later part A N q l number number' k M above o = record { above = above; move = o.move; fires = o.fires; writes_it = o.writes_it }

found : (part : Part) (A : State) (q : List Move) (l : Place) (number : ℕ) → is_stale part A q l number ≡ true → IsStale part A q l number
found part A [] l number stale = absurd cc
found part A (N ∷ q) l (suc number) stale =
    let f = found part (after_move part A N) q l number stale in
    (suc f.0, f.1, later part A N q l number (suc number) f.0 f.1 (omega (arith, f.2.above)) f.2)
found part A (N ∷ q) l zero stale = here (or_cases (overwrites part A N l) (is_stale part (after_move part A N) q l zero) stale) (found part (after_move part A N) q l zero) where
  here : (overwrites part A N l ≡ true) ⊎ (is_stale part (after_move part A N) q l zero ≡ true) → (is_stale part (after_move part A N) q l zero ≡ true → IsStale part (after_move part A N) q l zero) → IsStale part A (N ∷ q) l zero
  here (inl e) rest =
      let parts = and_parts (is_ok (fire part A N)) (writes N l) e in
      (0, N, record { above = omega arith; move = refl; fires = parts.0; writes_it = parts.1 })
  here (inr e) rest = let f = rest e in (suc f.0, f.1, later part A N q l zero zero f.0 f.1 (omega arith) f.2)

tested : (part : Part) (A : State) (q : List Move) (l : Place) (number k : ℕ) (M : Move) → IsOverwrittenBy part A q l number k M → is_stale part A q l number ≡ true
tested part A [] l number k M o = absurd (cc o.move)
tested part A (N ∷ q) l zero zero M o =
    let same : N ≡ M = cc o.move in
    or_left (overwrites part A N l) (is_stale part (after_move part A N) q l zero)
    (and_from (is_ok (fire part A N)) (writes N l) (ap (λ K. is_ok (fire part A K)) same ∙ o.fires) (ap (λ K. writes K l) same ∙ o.writes_it))
tested part A (N ∷ q) l zero (suc k) M o =
    or_right (overwrites part A N l) (is_stale part (after_move part A N) q l zero)
    (tested part (after_move part A N) q l zero k M (record { above = omega arith; move = o.move; fires = o.fires; writes_it = o.writes_it }))
tested part A (N ∷ q) l (suc number) zero M o = absurd (omega (arith, o.above))
tested part A (N ∷ q) l (suc number) (suc k) M o =
    tested part (after_move part A N) q l number k M (record { above = omega (arith, o.above); move = o.move; fires = o.fires; writes_it = o.writes_it })

pub last_writer : (part : Part) (A : State) (q : List Move) (l : Place) → IsLastWriter part A q l (writer part A q l)
last_writer part A q l = record {
  tested = λ number. stale_is part A q l number;
  stated = λ number. (
    λ lt. found part A q l number (stale_is part A q l number ∙ lt-ltb number (writer part A q l) lt),
    λ s. ltb-true number (writer part A q l) (sym (stale_is part A q l number) ∙ tested part A q l number s.0 s.1 s.2),
  );
}
