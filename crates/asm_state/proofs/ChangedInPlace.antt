-- A state of which one entry was changed in place or put, as it follows a move that changes that location alone.
use Rattle.std.proofs.Common.{◌≡◌, ℕ, ◌+◌, Bool, true, false, cond, refl, sym, ap, ◌∙◌, arith}
use Rattle.std.specs.Prelude.{Some, None, Err}
use Rattle.std.specs.FinMap as map
use Rattle.std.specs.Ordering.{eq_by_cmp}
use Rattle.asm_element.specs.Place.{Place, location_cmp, location_cmp_total}
use Rattle.asm_element.specs.declared.value.Value.{Value}
use Rattle.asm_update.specs.Fire.{Part}
use Rattle.asm_update.specs.Group.{Parts}
use Rattle.asm_update.specs.Move.{Move}
use Rattle.asm_update.specs.declared.clash.Cause.{Cause}
use Rattle.asm_state.specs.declared.entries.WrittenValue.{WrittenValue}
use Rattle.asm_state.specs.Change.{IsChanged, IsOneChange}
use Rattle.asm_state.specs.Follow.{written_by, entry_after, IsFollowed}
use Rattle.asm_state.specs.View.{Entries, StateView, AreSettled, value_at}
use Rattle.asm_state.proofs.Followed.{followed_fired, followed_clashed}
use Rattle.asm_aggregate.specs.OnlyPut.{only_put}
use Rattle.asm_aggregate.proofs.OnlyPut.{only_put_updates}
use Rattle.asm_state.proofs.InPlace.{actions, nothing, alone, updates_here, clash_here}
use Rattle.asm_state.proofs.Settled.{settled_after}

entry_here : (n : ℕ) (v : Value) (l q : Place) (old : Entries) →
    map.get (map.insert old l (written_by n v)) q ≡ entry_after n (map.get (alone l v) q) (map.get old q)
entry_here n v l q old =
    map.get-insert location_cmp_total old l (written_by n v) q ∙ by_test (eq_by_cmp location_cmp q l) refl where
      by_test : (b : Bool) → eq_by_cmp location_cmp q l ≡ b →
          cond (eq_by_cmp location_cmp q l) (Some (written_by n v)) (map.get old q) ≡ entry_after n (map.get (alone l v) q) (map.get old q)
      by_test true is =
          ap (λ b. cond b (Some (written_by n v)) (map.get old q)) is
          ∙ ap (λ u. entry_after n u (map.get old q)) (sym (map.get-insert location_cmp_total nothing l v q ∙ ap (λ b. cond b (Some v) (map.get nothing q)) is))
      by_test false is =
          ap (λ b. cond b (Some (written_by n v)) (map.get old q)) is
          ∙ ap (λ u. entry_after n u (map.get old q)) (sym (map.get-insert location_cmp_total nothing l v q ∙ ap (λ b. cond b (Some v) (map.get nothing q)) is ∙ map.get-empty location_cmp q))

module _ (part : Part) (old : StateView) (l : Place) (group : Parts) where
  -- what the group of a move gives on the location
  given : (M : Move) → IsOneChange M l group → part (value_at old l) None (actions M) ≡ part (value_at old l) group.regular group.partials
  given M one = let (_, _, is) = one in ap (λ (p : Parts). part (value_at old l) p.regular p.partials) (sym is)

  -- a changed entry has the move's one update
  module _ (entries : Entries) (w : WrittenValue) (is : entries ≡ map.insert old.entries l w)
      (changed : IsChanged part (value_at old l) group (old.number + 1) w) where
    each : (q : Place) → map.get entries q ≡ entry_after (old.number + 1) (map.get (alone l changed.0) q) (map.get old.entries q)
    each q =
        ap (λ (es : Entries). map.get es q) (is ∙ ap (map.insert old.entries l) changed.2)
        ∙ entry_here (old.number + 1) changed.0 l q old.entries

    pub changed_settled : AreSettled old.entries → AreSettled entries
    changed_settled settled =
        settled_after (old.number + 1) (alone l changed.0) old.entries entries (omega arith) settled each

    pub changed_followed : (M : Move) → IsOneChange M l group →
        IsFollowed part old M (record { number = old.number + 1; base = old.base; entries = entries })
    changed_followed M one =
        let (some, only, _) = one in
        followed_fired part old (record { number = old.number + 1; base = old.base; entries = entries }) M
        (alone l changed.0) (updates_here part (value_at old) l M some only changed.0 (given M one ∙ changed.1)) refl refl each

  -- a cause leaves the entries
  pub unchanged_followed : (cause : Cause) (new : StateView) →
      part (value_at old l) group.regular group.partials ≡ Err cause →
      new ≡ record { number = old.number + 1; base = old.base; entries = old.entries } →
      (M : Move) → IsOneChange M l group → IsFollowed part old M new
  unchanged_followed cause new gave is M one =
      let (some, only, _) = one in
      followed_clashed part old new M (record { at = l; cause = cause })
      (clash_here part (value_at old) l M some only cause (given M one ∙ gave))
      (ap (λ (s : StateView). s.number) is) (ap (λ (s : StateView). s.base) is) (ap (λ (s : StateView). s.entries) is)

-- a put leaves its value, whatever was there
module _ (old : StateView) (l : Place) (v : Value) (entries : Entries)
    (is : entries ≡ map.insert old.entries l (written_by (old.number + 1) v)) where
  put_each : (q : Place) → map.get entries q ≡ entry_after (old.number + 1) (map.get (alone l v) q) (map.get old.entries q)
  put_each q = ap (λ (es : Entries). map.get es q) is ∙ entry_here (old.number + 1) v l q old.entries

  pub put_settled : AreSettled old.entries → AreSettled entries
  put_settled settled = settled_after (old.number + 1) (alone l v) old.entries entries (omega arith) settled put_each

  pub put_followed : (part : Part) (M : Move) → only_put M ≡ Some (l, v) →
      IsFollowed part old M (record { number = old.number + 1; base = old.base; entries = entries })
  put_followed part M put =
      followed_fired part old (record { number = old.number + 1; base = old.base; entries = entries }) M
      (alone l v) (only_put_updates part (value_at old) M l v put) refl refl put_each
