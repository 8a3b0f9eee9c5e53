-- Whether a scan has a value at a location, and how many it lists, from what is shown and what the moves themselves write.
use Rattle.std.proofs.Common.{◌≡◌, ◌≢◌, ◌↔◌, ◌&&◌, ◌≤◌, ◌∙◌, ℕ, Bool, IsTrue, true, false, cond, not, is_some, length, min, List, [], ◌∷◌, Option, Some, None, Ok, Result, unwrap_or, arith, refl, ap, sym, subst}
use Rattle.std.specs.Bool.{OnFalse, OnTrue}
use Rattle.std.proofs.lemmas.Bool.{false≢true}
use Rattle.std.specs.FinMap as finite
use Rattle.std.specs.Option.{option_map_or}
use Rattle.asm_aggregate.proofs.Sequence.{proper_stored}
use Rattle.asm_element.specs.Place.{Place, location_cmp, location_cmp_total}
use Rattle.asm_element.specs.Tests.{itself}
use Rattle.asm_element.specs.Value.{is_undef, undef, undef_is}
use Rattle.asm_element.specs.declared.value.Value.{Value}
use Rattle.asm_overlay.specs.Frames.{Frames, seen_through, topmost}
use Rattle.asm_state.specs.Scans.{has_name}
use Rattle.asm_state.specs.Shown.{IsCountOf, IsNoneShown, IsOneShown, count_limit, shown_there, with_own}
use Rattle.asm_state.specs.View.{StateView, value_at}
use Rattle.asm_step.specs.Layers.{scanned}
use Rattle.asm_storage.specs.Storage.{AgentAt}
use Rattle.asm_transaction.specs.Counting.{IsAnyOf, IsCountIn, ListsNoUndef}
use Rattle.asm_transaction.specs.Reading.{Shows}
use Rattle.asm_transaction.specs.Scanning.{IsScan}
use Rattle.asm_transaction.specs.View.{TransactionView}
use Rattle.asm_update.proofs.FireLemmas.{stored}
use Rattle.asm_update.specs.Aggregator.{Meaning}
use Rattle.asm_update.specs.Fire.{Old, state_or}
use Rattle.asm_update.specs.State.{IsProper, State, empty, val}
use Rattle.asm_update.specs.declared.clash.Clash.{Clash}

same_ok : (S T : State) (r : Result State Clash) → r ≡ Ok S → r ≡ Ok T → S ≡ T
same_ok S T r s t = ap (state_or S) (sym s ∙ t)

is_some_value : (v : Value) → v ≢ undef → is_undef v ≡ false
is_some_value v ne = by_test (is_undef v) refl where
  by_test : (b : Bool) → is_undef v ≡ b → b ≡ false
  by_test false e = refl
  by_test true e = absurd (ne (undef_is v e))

isnt_undef : (v : Value) → is_undef v ≡ false → v ≢ undef
isnt_undef v e none = false≢true (sym e ∙ ap is_undef none)

module _ {A : Type 0} (meaning : A → Meaning) (a : AgentAt A) (t : TransactionView) (name : List ℕ) (seen : Old) (shows : Shows meaning a t seen) where
  -- a scan has what is shown
  scan_shows : (P : State) → IsScan meaning a t name P → (l : Place) → val P l ≡ cond (has_name name l) (seen l) undef
  scan_shows P scan l =
      scan.2 l
      ∙ ap (λ (v : Value). cond (has_name name l) v undef)
      (ap (λ (S : State). val S l) (same_ok scan.0 (shows l).0 _ scan.1 (shows l).1) ∙ sym (shows l).2)

  -- and what has all that is shown is a scan
  pub is_scan_by : (first : Place) (P : State) → ((l : Place) → val P l ≡ cond (has_name name l) (seen l) undef) → IsScan meaning a t name P
  is_scan_by first P at = (
    (shows first).0,
    (shows first).1,
    (λ l. at l ∙ ap (λ (v : Value). cond (has_name name l) v undef)
        ((shows l).2 ∙ ap (λ (S : State). val S l) (same_ok (shows l).0 (shows first).0 _ (shows l).1 (shows first).1))),
  )

  pub any_here : IsOneShown name seen → IsAnyOf meaning a t name true
  any_here one P scan = ((λ e. (one.0, there)), (λ some. refl)) where
    there : val P one.0 ≢ undef
    there none =
        isnt_undef (seen one.0) one.2
        (sym (scan_shows P scan one.0 ∙ ap (λ b. cond b (seen one.0) undef) one.1) ∙ none)

  pub any_nowhere : ((l : Place) → has_name name l ≡ true → is_undef (seen l) ≡ true) → IsAnyOf meaning a t name false
  any_nowhere none P scan = ((λ e. absurd (false≢true e)), (λ some. absurd (some.1 (scan_shows P scan some.0 ∙ by_name some.0 (has_name name some.0) refl)))) where
    by_name : (l : Place) (b : Bool) → has_name name l ≡ b → cond b (seen l) undef ≡ undef
    by_name l true named = undef_is (seen l) (none l named)
    by_name l false other = refl

  -- what is shown at the locations of the function
  abbrev listed : Place → Option Value
  listed l = cond (has_name name l && not (is_undef (seen l))) (Some (seen l)) None

  -- a state that lists these and no others is the scan
  pub count_in : (first : Place) (n : ℕ) → IsCountOf listed n → IsCountIn meaning a t name n
  count_in first n counted = (counted.0, is_scan_by first counted.0 values, no_undef, counted.2) where
    values : (l : Place) → val counted.0 l ≡ cond (has_name name l) (seen l) undef
    values l = ap (λ (o : Option Value). unwrap_or o undef) (counted.1 l) ∙ by_tests (has_name name l) (is_undef (seen l)) refl where
      by_tests : (b u : Bool) → is_undef (seen l) ≡ u →
          unwrap_or (cond (b && not u) (Some (seen l)) None) undef ≡ cond b (seen l) undef
      by_tests true true e = sym (undef_is (seen l) e)
      by_tests true false e = refl
      by_tests false u e = refl

    no_undef : ListsNoUndef counted.0
    no_undef l = ap (λ (o : Option Value). option_map_or is_undef o false) (counted.1 l) ∙ by_tests (has_name name l) (is_undef (seen l)) refl where
      by_tests : (b u : Bool) → is_undef (seen l) ≡ u →
          option_map_or is_undef (cond (b && not u) (Some (seen l)) None) false ≡ false
      by_tests true true e = refl
      by_tests true false e = e
      by_tests false u e = refl

-- what a state without undef has
pub no_undef_in : (P : State) → IsProper P → ListsNoUndef P
no_undef_in P proper l = ap (λ (o : Option Value). option_map_or is_undef o false) (proper_stored P proper l) ∙ by_test (is_undef (val P l)) refl where
  by_test : (b : Bool) → is_undef (val P l) ≡ b → option_map_or is_undef (cond b None (Some (val P l))) false ≡ false
  by_test true e = refl
  by_test false e = e

-- THE MOVES' OWN VALUES

module _ (frames : Frames) (below : Old) (name : List ℕ) (own : State)
    (is : (l : Place) → val own l ≡ scanned frames (val empty) name l) where
  nothing : (l : Place) → val empty l ≡ undef
  nothing l = ap (λ (o : Option Value). unwrap_or o undef) (finite.get-empty location_cmp l)

  own_at : (l : Place) → has_name name l ≡ true → val own l ≡ unwrap_or (topmost frames l) undef
  own_at l named =
      is l ∙ ap (λ b. cond b (seen_through frames (val empty) l) (val empty l)) named
      ∙ ap (unwrap_or (topmost frames l)) (nothing l)

  own_named : (l : Place) → val own l ≢ undef → has_name name l ≡ true
  own_named l some = by_name (has_name name l) refl where
    by_name : (b : Bool) → has_name name l ≡ b → b ≡ true
    by_name true named = refl
    by_name false other = absurd (some (is l ∙ ap (λ b. cond b (seen_through frames (val empty) l) (val empty l)) other ∙ nothing l))

  -- a value of their own is shown
  own_seen : (l : Place) → val own l ≢ undef → seen_through frames below l ≡ val own l
  own_seen l some = by_top (topmost frames l) (own_at l (own_named l some)) ∙ sym (own_at l (own_named l some)) where
    by_top : (o : Option Value) → val own l ≡ unwrap_or o undef → unwrap_or o (below l) ≡ unwrap_or o undef
    by_top (Some v) e = refl
    by_top None e = absurd (some e)

  -- where they have none, what is below is shown, or nothing
  own_unseen : (l : Place) → has_name name l ≡ true → val own l ≡ undef → is_undef (seen_through frames below l) ≡ false →
      seen_through frames below l ≡ below l
  own_unseen l named none some = by_top (topmost frames l) (own_at l named) some where
    by_top : (o : Option Value) → val own l ≡ unwrap_or o undef → is_undef (unwrap_or o (below l)) ≡ false → unwrap_or o (below l) ≡ below l
    by_top (Some v) e some = absurd (isnt_undef v some (sym e ∙ none))
    by_top None e some = refl

  pub own_one : ((l : Place) × (val own l ≢ undef)) → IsOneShown name (seen_through frames below)
  own_one one =
      (one.0, own_named one.0 one.1, ap is_undef (own_seen one.0 one.1) ∙ is_some_value (val own one.0) one.1)

module _ (frames : Frames) (s : StateView) (name : List ℕ) (own : State)
    (is : (l : Place) → val own l ≡ scanned frames (val empty) name l) where
  pub own_none : ((l : Place) → val own l ≡ undef) → IsNoneShown s name (seen_through frames (value_at s)) →
      (l : Place) → has_name name l ≡ true → is_undef (seen_through frames (value_at s) l) ≡ true
  own_none none hidden l named = by_test (is_undef (seen_through frames (value_at s) l)) refl where
    by_test : (b : Bool) → is_undef (seen_through frames (value_at s) l) ≡ b → b ≡ true
    by_test true e = refl
    by_test false e =
        sym (sym (hidden l named (sym (ap is_undef (own_unseen frames (value_at s) name own is l named (none l) e)) ∙ e)) ∙ e)

  -- what was found below comes before their own
  pub none_below : (l : Place) → is_undef (value_at s l) ≡ true → shown_there s name (seen_through frames (value_at s)) l ≡ None
  none_below l none =
      ap (λ b. cond (has_name name l && (not b && not (is_undef (seen_through frames (value_at s) l)))) (Some (seen_through frames (value_at s) l)) None) none
      ∙ by_name (has_name name l) where
        by_name : (b : Bool) → cond (b && false) (Some (seen_through frames (value_at s) l)) None ≡ None
        by_name true = refl
        by_name false = refl

  -- all that is shown was found below or is their own
  pub with_own_all : IsProper own → (l : Place) →
      with_own (value_at s) own (shown_there s name (seen_through frames (value_at s))) l
      ≡ cond (has_name name l && not (is_undef (seen_through frames (value_at s) l))) (Some (seen_through frames (value_at s) l)) None
  with_own_all proper l = by_own (finite.get own l) refl where
    seen : Value
    seen = seen_through frames (value_at s) l

    by_own : (o : Option Value) → finite.get own l ≡ o →
        cond (is_some o && is_undef (value_at s l)) o (shown_there s name (seen_through frames (value_at s)) l)
        ≡ cond (has_name name l && not (is_undef (seen_through frames (value_at s) l))) (Some (seen_through frames (value_at s) l)) None
    by_own (Some v) e = by_below (is_undef (value_at s l)) refl where
      there : val own l ≡ v
      there = ap (λ (o : Option Value). unwrap_or o undef) e

      held : is_undef v ≡ false
      held = sym (ap (λ (o : Option Value). option_map_or is_undef o false) e) ∙ no_undef_in own proper l

      some : val own l ≢ undef
      some = isnt_undef (val own l) (ap is_undef there ∙ held)

      shown : seen_through frames (value_at s) l ≡ v
      shown = own_seen frames (value_at s) name own is l some ∙ there

      named : has_name name l ≡ true
      named = own_named frames (value_at s) name own is l some

      all : cond (has_name name l && not (is_undef (seen_through frames (value_at s) l))) (Some (seen_through frames (value_at s) l)) None ≡ Some v
      all =
          ap (λ b. cond (b && not (is_undef (seen_through frames (value_at s) l))) (Some (seen_through frames (value_at s) l)) None) named
          ∙ ap (λ (w : Value). cond (not (is_undef w)) (Some w) None) shown ∙ ap (λ b. cond (not b) (Some v) None) held

      by_below : (b : Bool) → is_undef (value_at s l) ≡ b →
          cond b (Some v) (shown_there s name (seen_through frames (value_at s)) l)
          ≡ cond (has_name name l && not (is_undef (seen_through frames (value_at s) l))) (Some (seen_through frames (value_at s) l)) None
      by_below true none = sym all
      by_below false some_below =
          ap (λ b. cond (has_name name l && (not b && not (is_undef (seen_through frames (value_at s) l)))) (Some (seen_through frames (value_at s) l)) None) some_below
    by_own None e = by_tests (has_name name l) (is_undef (value_at s l)) (is_undef (seen_through frames (value_at s) l)) refl refl refl where
      absent : val own l ≡ undef
      absent = ap (λ (o : Option Value). unwrap_or o undef) e

      by_tests : (b u w : Bool) → has_name name l ≡ b → is_undef (value_at s l) ≡ u → is_undef (seen_through frames (value_at s) l) ≡ w →
          cond (b && (not u && not w)) (Some (seen_through frames (value_at s) l)) None
          ≡ cond (b && not w) (Some (seen_through frames (value_at s) l)) None
      by_tests false u w h i j = refl
      by_tests true false w h i j = refl
      by_tests true true true h i j = refl
      by_tests true true false h i j =
          absurd (false≢true (sym j ∙ ap is_undef (own_unseen frames (value_at s) name own is l h absent j) ∙ i))

-- whether a state lists anything
pub lists_some : (P : State) (b : Bool) → IsProper P → (IsTrue b ↔ (finite.len P ≡ 0)) → OnTrue (not b) ((l : Place) × (val P l ≢ undef))
lists_some P true proper decides = cc
lists_some P false proper decides = by_entries (finite.entries P) refl where
  by_entries : (es : List (Place × Value)) → finite.entries P ≡ es → (l : Place) × (val P l ≢ undef)
  by_entries [] e = absurd (false≢true (decides.1 (finite.len-entries P ∙ ap length e)))
  by_entries (x ∷ es) e = (x.0, isnt_undef (val P x.0) (ap (λ (o : Option Value). is_undef (unwrap_or o undef)) there ∙ held)) where
    there : finite.get P x.0 ≡ Some x.1
    there =
        finite.get-entries P x.0 ∙ ap (λ (xs : List (Place × Value)). finite.find location_cmp x.0 xs) e
        ∙ ap (λ b. cond b (Some x.1) (finite.find location_cmp x.0 es)) (itself location_cmp_total x.0)

    held : is_undef x.1 ≡ false
    held = sym (ap (λ (o : Option Value). option_map_or is_undef o false) there) ∙ no_undef_in P proper x.0

pub lists_none : (P : State) (b : Bool) → (IsTrue b ↔ (finite.len P ≡ 0)) → OnFalse (not b) ((l : Place) → val P l ≡ undef)
lists_none P false decides = cc
lists_none P true decides =
    λ l. ap (λ (Q : State). val Q l) (finite.empty_of_len P (decides.0 refl)) ∙ ap (λ (o : Option Value). unwrap_or o undef) (finite.get-empty location_cmp l)

-- THE ANSWERS

module _ {A : Type 0} (meaning : A → Meaning) (a : AgentAt A) (t : TransactionView) (name : List ℕ) where
  -- by what the state and the moves themselves show
  pub any_by_own : (frames : Frames) (s : StateView) (own : State) (b : Bool) → Shows meaning a t (seen_through frames (value_at s)) →
      ((l : Place) → val own l ≡ scanned frames (val empty) name l) → IsNoneShown s name (seen_through frames (value_at s)) →
      OnTrue b ((l : Place) × (val own l ≢ undef)) → OnFalse b ((l : Place) → val own l ≡ undef) → IsAnyOf meaning a t name b
  any_by_own frames s own true shows is hidden some none =
      any_here meaning a t name (seen_through frames (value_at s)) shows (own_one frames (value_at s) name own is some)
  any_by_own frames s own false shows is hidden some none =
      any_nowhere meaning a t name (seen_through frames (value_at s)) shows (own_none frames s name own is none hidden)

  -- by a scan
  pub any_by_scan : (found : State) (b : Bool) → IsScan meaning a t name found →
      OnTrue b ((l : Place) × (val found l ≢ undef)) → OnFalse b ((l : Place) → val found l ≡ undef) → IsAnyOf meaning a t name b
  any_by_scan found b scan some none P other = by_test b some none where
    same : (l : Place) → val P l ≡ val found l
    same l =
        other.2 l ∙ ap (λ (S : State). cond (has_name name l) (val S l) undef) (same_ok other.0 scan.0 _ other.1 scan.1) ∙ sym (scan.2 l)

    by_test : (b : Bool) → OnTrue b ((l : Place) × (val found l ≢ undef)) → OnFalse b ((l : Place) → val found l ≡ undef) →
        (b ≡ true) ↔ ((l : Place) × (val P l ≢ undef))
    by_test true some none = ((λ e. (some.0, (λ u. some.1 (sym (same some.0) ∙ u)))), (λ x. refl))
    by_test false some none = ((λ e. absurd (false≢true e)), (λ x. absurd (x.1 (same x.0 ∙ none x.0))))

  pub count_by_own : (first : Place) (frames : Frames) (s : StateView) (own : State) (n : ℕ) → Shows meaning a t (seen_through frames (value_at s)) →
      ((l : Place) → val own l ≡ scanned frames (val empty) name l) → IsProper own →
      IsCountOf (with_own (value_at s) own (shown_there s name (seen_through frames (value_at s)))) n → IsCountIn meaning a t name n
  count_by_own first frames s own n shows is proper counted =
      count_in meaning a t name (seen_through frames (value_at s)) shows first n
      (counted.0, (λ l. counted.1 l ∙ with_own_all frames s name own is proper l), counted.2)

  pub count_by_scan : (found : State) (n : ℕ) → IsScan meaning a t name found → IsProper found → n ≡ finite.len found → n ≤ count_limit →
      IsCountIn meaning a t name n
  count_by_scan found n scan proper is few = (found, scan, no_undef_in found proper, omega (arith, is, few))
