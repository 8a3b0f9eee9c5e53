-- The walk along the reads finds the least location that is named and stale.
use Rattle.std.proofs.Common.{◌≡◌, ℕ, Bool, true, false, cond, ◌&&◌, ◌||◌, List, [], ◌∷◌, map, Option, Some, None, ◌⊎◌, inl, inr, refl, sym, ap, ◌∙◌, subst}
use Rattle.std.specs.Prelude.{fold, filter, MatchOption}
use Rattle.std.specs.Ordering.{eq_by_cmp, is_lt, is_gt, ordering_reverse}
use Rattle.std.specs.declared.cmp.Ordering.{Ordering}
use Rattle.std.specs.declared.cmp.Ordering.TheVariants.{Less, Equal, Greater}
use Rattle.std.proofs.lemmas.Bool.{false≢true, or_cases, or_right}
use Rattle.std.proofs.lemmas.Cmp.{upto, tied_itself}
use Rattle.asm_element.specs.Place.{Place, location_cmp, location_cmp_total, same_location}
use Rattle.asm_element.specs.Tests.{itself}
use Rattle.asm_update.specs.Move.{IsLeast}
use Rattle.asm_state.specs.declared.named.Named.{Named}
use Rattle.asm_state.specs.LeastNamed.{names_stale, FindsLeast}
use Rattle.asm_state.specs.Verdict.{lesser}

lt_not_gt : (o : Ordering) → is_lt o ≡ true → is_gt o ≡ false
lt_not_gt Less h = refl
lt_not_gt Equal h = refl
lt_not_gt Greater h = absurd (false≢true h)

flipped_not_gt : (o : Ordering) → is_lt o ≡ false → is_gt (ordering_reverse o) ≡ false
flipped_not_gt Less h = absurd (false≢true (sym h))
flipped_not_gt Equal h = refl
flipped_not_gt Greater h = refl

none_more : (t : Bool) → (t || false) ≡ t
none_more true = refl
none_more false = refl

one_more : (t e n : Bool) → (t || ((e && true) || n)) ≡ ((e || t) || n)
one_more true true n = refl
one_more true false n = refl
one_more false true n = refl
one_more false false n = refl

passed_by : (t e n : Bool) → (t || ((e && false) || n)) ≡ (t || n)
passed_by true e n = refl
passed_by false true n = refl
passed_by false false n = refl

-- the least location that passes the test; where there is none, no location passes
abbrev Least : (Place → Bool) → Option Place → Type 0
Least test best = MatchOption best ((l : Place) → test l ≡ false) (IsLeast test)

-- a test that answers the same
same_test : (test all : Place → Bool) (best : Option Place) → ((k : Place) → all k ≡ test k) → Least test best → Least all best
same_test test all None e h = λ l. e l ∙ h l
same_test test all (Some l) e h = record { passes = e l ∙ h.passes; least = λ k is. h.least k (sym (e k) ∙ is) }

-- one location more
module _ (test all : Place → Bool) (m : Place) (e : (k : Place) → all k ≡ (eq_by_cmp location_cmp m k || test k)) where
  here : all m ≡ true
  here = e m ∙ ap (λ b. b || test m) (itself location_cmp_total m)

  above : (l k : Place) → is_gt (location_cmp l m) ≡ false → (test k ≡ true → is_gt (location_cmp l k) ≡ false) → all k ≡ true → is_gt (location_cmp l k) ≡ false
  above l k at_m at_k is = by_cases (or_cases (eq_by_cmp location_cmp m k) (test k) (sym (e k) ∙ is)) where
    by_cases : (eq_by_cmp location_cmp m k ≡ true) ⊎ (test k ≡ true) → is_gt (location_cmp l k) ≡ false
    by_cases (inl same) = subst (λ (j : Place). is_gt (location_cmp l j) ≡ false) (same_location m k same) at_m
    by_cases (inr passes) = at_k passes

  not_above_itself : is_gt (location_cmp m m) ≡ false
  not_above_itself = ap is_gt (tied_itself location_cmp_total m)

  with_one : (best : Option Place) → Least test best → Least all (lesser best m)
  with_one None h = record {
    passes = here;
    least = λ k is. above m k not_above_itself (λ passes. absurd (false≢true (sym (h k) ∙ passes))) is;
  }
  with_one (Some l) h = by_test (is_lt (location_cmp m l)) refl where
    by_test : (b : Bool) → is_lt (location_cmp m l) ≡ b → Least all (cond b (Some m) (Some l))
    by_test true is = record {
      passes = here;
      least = λ k passes.
          above m k not_above_itself (λ t. upto location_cmp_total m l k (lt_not_gt (location_cmp m l) is) (h.least k t)) passes;
    }
    by_test false is = record {
      passes = e l ∙ or_right (eq_by_cmp location_cmp m l) (test l) h.passes;
      least = λ k passes.
          above l k (ap is_gt (location_cmp_total.antisymm l m) ∙ flipped_not_gt (location_cmp m l) is) (h.least k) passes;
    }

module _ (stale : Place → ℕ → Bool) where
  abbrev found : Option Place → List Named → Option Place
  found best reads = fold lesser best (map (λ r. r.at) (filter (λ r. stale r.at r.number) reads))

  walked : (reads : List Named) (test all : Place → Bool) (best : Option Place) → Least test best →
      ((k : Place) → all k ≡ (test k || names_stale stale reads k)) → Least all (found best reads)
  walked [] test all best h e = same_test test all best (λ k. e k ∙ none_more (test k)) h
  walked (r ∷ reads) test all best h e =
      by_test (stale r.at r.number) refl
      (walked reads (λ k. eq_by_cmp location_cmp r.at k || test k) all (lesser best r.at) (with_one test (λ k. eq_by_cmp location_cmp r.at k || test k) r.at (λ k. refl) best h))
      (walked reads test all best h) where
        by_test : (b : Bool) → stale r.at r.number ≡ b →
            (((k : Place) → all k ≡ ((eq_by_cmp location_cmp r.at k || test k) || names_stale stale reads k)) → Least all (found (lesser best r.at) reads)) →
            (((k : Place) → all k ≡ (test k || names_stale stale reads k)) → Least all (found best reads)) →
            Least all (fold lesser best (map (λ r. r.at) (cond b (r ∷ filter (λ r. stale r.at r.number) reads) (filter (λ r. stale r.at r.number) reads))))
        by_test true is with_it without = with_it (λ k. e k ∙ ap (λ b. test k || ((eq_by_cmp location_cmp r.at k && b) || names_stale stale reads k)) is ∙ one_more (test k) (eq_by_cmp location_cmp r.at k) (names_stale stale reads k))
        by_test false is with_it without = without (λ k. e k ∙ ap (λ b. test k || ((eq_by_cmp location_cmp r.at k && b) || names_stale stale reads k)) is ∙ passed_by (test k) (eq_by_cmp location_cmp r.at k) (names_stale stale reads k))

pub finds_least : FindsLeast
finds_least stale reads = walked stale reads (λ _. false) (names_stale stale reads) None (λ l. refl) (λ k. refl)
