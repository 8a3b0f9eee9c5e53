-- The least location, among the first instructions, that has two values.
use Rattle.std.proofs.Common.{◌≡◌, ℕ, suc, ◌+◌, ◌<◌, true, false, cond, [], ◌∷◌, length, get_or, below_more, MatchOption, Option, Some, None, Bor, ◌≤◌, refl, sym, ap, subst, ◌∙◌, arith, inl, inr, ⊎_elim}
use Rattle.std.specs.Prelude.{◌⊎◌}
use Rattle.std.specs.Prelude as list
use Rattle.std.specs.List.{filter_map}
use Rattle.std.specs.Ordering.{is_gt, is_lt, eq_by_cmp, ordering_reverse}
use Rattle.std.specs.declared.cmp.Ordering.TheVariants.{Less, Equal, Greater}
use Rattle.std.specs.declared.cmp.Ordering.{Ordering}
use Rattle.std.proofs.lemmas.Bool.{false≢true, false_from_ne_true}
use Rattle.std.proofs.lemmas.Cmp.{upto, tied_itself}
use Rattle.std.proofs.lemmas.List.{get_or_read}
use Rattle.asm_element.specs.Place.{Place, location_cmp, location_cmp_total, same_location, comes_before}
use Rattle.asm_update.specs.Action.{regular_value}
use Rattle.asm_update.specs.Move.{Move, has_two, regular_values, are_different, IsLeast}
use Rattle.asm_update.specs.declared.action.Instruction.{Instruction}

-- no location of the first n instructions has two values
pub record NoneBelow (n : ℕ) (M : Move) : Type 0 where
  pub none : (k : ℕ) → k < n → (d : Instruction) → has_two M (get_or M k d).at ≡ false

-- the location has two values, and none of the first n that has two is below it
pub record IsLeastBelow (n : ℕ) (M : Move) (l : Place) : Type 0 where
  pub passes : has_two M l ≡ true
  pub least : (k : ℕ) → k < n → (d : Instruction) → has_two M (get_or M k d).at ≡ true → is_gt (location_cmp l (get_or M k d).at) ≡ false

module _ (M : Move) (n : ℕ) (m : Instruction) (h : n < length M) (e : m ≡ get_or M n m) where
  here : (P : Place → Type 0) → P m.at → (d : Instruction) → P (get_or M n d).at
  here P p d = subst (λ i. P i.at) (get_or_read M n m h e d) p

  pub none_more : has_two M m.at ≡ false → NoneBelow n M → NoneBelow (n + 1) M
  none_more apart all = record { none = below_more _ n all.none (here (λ l. has_two M l ≡ false) apart) }

  pub keeps : (l : Place) → (has_two M m.at ≡ true → is_gt (location_cmp l m.at) ≡ false) → IsLeastBelow n M l → IsLeastBelow (n + 1) M l
  keeps l above all = record {
    passes = all.passes;
    least = below_more _ n all.least (here (λ k. has_two M k ≡ true → is_gt (location_cmp l k) ≡ false) above);
  }

  itself : is_gt (location_cmp m.at m.at) ≡ false
  itself = ap is_gt (tied_itself location_cmp_total m.at)

  pub first : has_two M m.at ≡ true → NoneBelow n M → IsLeastBelow (n + 1) M m.at
  first two_here all = record {
    passes = two_here;
    least = below_more _ n (λ k lt d two. absurd (false≢true (sym (all.none k lt d) ∙ two))) (here (λ k. has_two M k ≡ true → is_gt (location_cmp m.at k) ≡ false) (λ _. itself));
  }

  pub lower : (l : Place) → has_two M m.at ≡ true → is_gt (location_cmp m.at l) ≡ false → IsLeastBelow n M l → IsLeastBelow (n + 1) M m.at
  lower l two_here below all = record {
    passes = two_here;
    least = below_more _ n (λ k lt d two. upto location_cmp_total m.at l _ below (all.least k lt d two)) (here (λ k. has_two M k ≡ true → is_gt (location_cmp m.at k) ≡ false) (λ _. itself));
  }

abbrev Found : Move → Place → Type 0
Found M l = (k : ℕ) × (k < length M) × ((d : Instruction) → (get_or M k d).at ≡ l) × Instruction

-- a location that a move writes a value at stands in the move
stands : (M : Move) (l : Place) → (regular_values M l ≡ []) ⊎ Found M l
stands [] l = inl refl
stands (m ∷ M) l =
    elim (eq_by_cmp location_cmp m.at l) as (λ b. eq_by_cmp location_cmp m.at l ≡ b → (filter_map regular_value (list.map (λ i. i.action) (cond b (m ∷ list.filter (λ i. eq_by_cmp location_cmp i.at l) M) (list.filter (λ i. eq_by_cmp location_cmp i.at l) M))) ≡ []) ⊎ Found (m ∷ M) l) [
      | true ↦ λ is. inr (0, omega arith, λ d. same_location m.at l is, m)
      | false ↦ λ _. ⊎_elim (λ none. inl none) (λ f. inr (suc f.0, omega (arith, f.1), f.2, m)) (stands M l)
    ] refl

pub found : (M : Move) (l : Place) → has_two M l ≡ true → Found M l
found M l two = ⊎_elim (λ none. absurd (false≢true (ap are_different (sym none) ∙ two))) (λ f. f) (stands M l)

-- what is known after the first n instructions
abbrev pub Known : ℕ → Move → Option (Bor Place) → Type 0
Known n M least = MatchOption least (NoneBelow n M) (λ at. IsLeastBelow n M at.now)

turned : (o : Ordering) → is_lt o ≡ false → is_gt (ordering_reverse o) ≡ false
turned Less h = cc
turned Equal h = refl
turned Greater h = refl

not_above : (o : Ordering) → is_lt o ≡ true → is_gt o ≡ false
not_above Less h = refl
not_above Equal h = refl
not_above Greater h = cc

not_below : (k l : Place) → is_lt (location_cmp k l) ≡ false → is_gt (location_cmp l k) ≡ false
not_below k l h = ap is_gt (location_cmp_total.antisymm l k) ∙ turned (location_cmp k l) h

pub takes : (M : Move) (n : ℕ) (m : Instruction) → n < length M → m ≡ get_or M n m → (least : Option (Bor Place)) → comes_before m.at least ≡ true → has_two M m.at ≡ true → Known n M least → IsLeastBelow (n + 1) M m.at
takes M n m h e None before two_here all = first M n m h e two_here all
takes M n m h e (Some l) before two_here all = lower M n m h e l.now two_here (not_above _ before) all

pub skips : (M : Move) (n : ℕ) (m : Instruction) → n < length M → m ≡ get_or M n m → (least : Option (Bor Place)) → (comes_before m.at least ≡ false) ⊎ (has_two M m.at ≡ false) → Known n M least → Known (n + 1) M least
skips M n m h e None (inl later) all = absurd (false≢true (sym later))
skips M n m h e None (inr apart) all = none_more M n m h e apart all
skips M n m h e (Some l) (inl later) all = keeps M n m h e l.now (λ _. not_below m.at l.now later) all
skips M n m h e (Some l) (inr apart) all = keeps M n m h e l.now (λ two. absurd (false≢true (sym apart ∙ two))) all

pub known_all : (M : Move) (n : ℕ) → length M ≤ n → (least : Option (Bor Place)) → Known n M least → MatchOption least ((l : Place) → has_two M l ≡ false) (λ l. IsLeast (has_two M) l.now)
known_all M n h None all = λ l. false_from_ne_true _ (λ two.
    let f = found M l two in
    absurd (false≢true (sym (all.none f.0 (omega (arith, f.1)) f.3) ∙ ap (has_two M) (f.2 f.3) ∙ two)))
known_all M n h (Some at) all = record {
  passes = all.passes;
  least = λ k two.
      let f = found M k two in
      ap (λ l. is_gt (location_cmp at.now l)) (sym (f.2 f.3)) ∙ all.least f.0 (omega (arith, f.1)) f.3 (ap (has_two M) (f.2 f.3) ∙ two);
}
