-- What an order changes.
use Rattle.std.proofs.Common.{◌≡◌, ◌≢◌, ℕ, ◌+◌, List, [], ◌∷◌, ◌++◌, length, take, drop}
use Rattle.std.proofs.Common.{append-nil, append_assoc, refl, sym, ap, ◌∙◌, subst, subst₂, arith, Some}
use Rattle.std.proofs.Common.{length-append, take_at}
use Rattle.std.proofs.Math.Seq.{take-nil}
use Rattle.asm_run.specs.Name.{number_in}
use Rattle.asm_run.specs.Protocol.{Segment, Order, Saves, Drops, segment_of, present_after, dropped_after, text_of}
use Rattle.asm_run.specs.Protocol.{AreNumbered, MayOrder}
use Rattle.asm_run.proofs.Texts.{numbered_push, pushed_other, first_other}

abbrev pub IsPrefixOf : List Segment → List Segment → Type 0
IsPrefixOf xs ys = (rest : List Segment) × (xs ++ rest ≡ ys)

pub same_prefix : (xs : List Segment) → IsPrefixOf xs xs
same_prefix xs = ([], append-nil xs)

pub more_prefix : (xs ys zs : List Segment) → IsPrefixOf xs ys → IsPrefixOf ys zs → IsPrefixOf xs zs
more_prefix xs ys zs p q = (p.0 ++ q.0, sym (append_assoc xs p.0 q.0) ∙ ap (λ (l : List Segment). l ++ q.0) p.1 ∙ q.1)

pushed_some : (xs : List Segment) (s : Segment) → xs ++ s ∷ [] ≡ [] → ⊥
pushed_some [] s e = cc
pushed_some (x ∷ xs) s e = cc

same_first : (k l : ℕ) (a : List Segment) → AreNumbered k a → AreNumbered l a → a ≢ [] → k ≡ l
same_first k l [] p q some = absurd (some refl)
same_first k l (s ∷ a) p q some = let e : Some k ≡ Some l = sym p.0 ∙ q.0 in cc

take_none : (k : ℕ) → take {A = Segment} k [] ≡ []
take_none k = take-nil k

module _ (legal : List Segment → Type 0) where
  -- the segments that are present are numbered, the last of a legal run; never all are dropped
  pub record IsRun (dropped present : List Segment) : Type 0 where
    pub numbered : AreNumbered (length dropped) present
    pub is_legal : legal (dropped ++ present)
    pub some : present ≡ [] → dropped ≡ []

  pub ordered : (dropped present : List Segment) (o : Order) → MayOrder legal dropped present o →
      IsRun dropped present → IsRun (dropped_after o dropped) (present_after o present)
  ordered dropped present (Saves s) may run = record {
    numbered = numbered_push (length dropped) present s run.numbered may.0;
    is_legal = subst legal (append_assoc dropped present (s ∷ [])) may.1;
    some = λ e. absurd (pushed_some present s e);
  }
  ordered dropped present (Drops s) may run =
      let at : length dropped + 1 ≡ length (dropped ++ s ∷ []) = omega (arith, length-append dropped (s ∷ [])) in
      let numbered : AreNumbered (length dropped) (s ∷ may.0 ∷ may.1) =
      subst (AreNumbered (length dropped)) may.2 run.numbered in
      let all : (dropped ++ s ∷ []) ++ (may.0 ∷ may.1) ≡ dropped ++ (s ∷ may.0 ∷ may.1) =
      append_assoc dropped (s ∷ []) (may.0 ∷ may.1) in
      let rest : drop 1 present ≡ may.0 ∷ may.1 = ap (drop 1) may.2 in
      record {
        numbered = subst₂ (λ (k : ℕ) (l : List Segment). AreNumbered k l) at (sym rest) numbered.1;
        is_legal = subst (λ (l : List Segment). legal ((dropped ++ s ∷ []) ++ l)) (sym rest)
            (subst legal (sym all) (subst (λ (l : List Segment). legal (dropped ++ l)) may.2 run.is_legal));
        some = λ e. absurd (let no : may.0 ∷ may.1 ≡ [] = sym rest ∙ e in let never : ⊥ = cc in never);
      }

  pub order_number : (dropped present : List Segment) (o : Order) → MayOrder legal dropped present o →
      IsRun dropped present → (k : ℕ) × (number_in (segment_of o).0 ≡ Some k)
  order_number dropped present (Saves s) may run = (length dropped + length present, may.0)
  order_number dropped present (Drops s) may run =
      let numbered : AreNumbered (length dropped) (s ∷ may.0 ∷ may.1) =
      subst (AreNumbered (length dropped)) may.2 run.numbered in
      (length dropped, numbered.0)

  pub order_apart : (dropped present : List Segment) (o : Order) → MayOrder legal dropped present o → (n : List ℕ) →
      n ≢ (segment_of o).0 → text_of (present_after o present) n ≡ text_of present n
  order_apart dropped present (Saves s) may n other = pushed_other present s n other
  order_apart dropped present (Drops s) may n other =
      subst (λ (l : List Segment). text_of (drop 1 l) n ≡ text_of l n) (sym may.2)
      (sym (first_other s (may.0 ∷ may.1) n other))

  pub order_reported : (dropped present : List Segment) (o : Order) → MayOrder legal dropped present o →
      IsPrefixOf (dropped ++ present) (dropped_after o dropped ++ present_after o present)
  order_reported dropped present (Saves s) may = (s ∷ [], append_assoc dropped present (s ∷ []))
  order_reported dropped present (Drops s) may =
      subst (λ (l : List Segment). IsPrefixOf (dropped ++ l) ((dropped ++ s ∷ []) ++ drop 1 l)) (sym may.2)
      ([], append-nil (dropped ++ (s ∷ may.0 ∷ may.1)) ∙ sym (append_assoc dropped (s ∷ []) (may.0 ∷ may.1)))

  -- who finds the segments knows how many are dropped
  pub dropped_found : (from : ℕ) (dropped present : List Segment) → AreNumbered from present → IsRun dropped present →
      take from (dropped ++ present) ≡ dropped
  dropped_found from dropped [] are run =
      let none : dropped ≡ [] = run.some refl in
      subst (λ (g : List Segment). take from (g ++ []) ≡ g) (sym none) (take_none from)
  dropped_found from dropped (s ∷ present) are run =
      take_at dropped (s ∷ present) from (same_first (length dropped) from (s ∷ present) run.numbered are
      (λ e. let never : ⊥ = cc in never))

  pub dropped_found_after : (from : ℕ) (dropped present : List Segment) (o : Order) →
      MayOrder legal dropped present o → AreNumbered from (present_after o present) → IsRun dropped present →
      take from (dropped ++ present) ≡ dropped_after o dropped
  dropped_found_after from dropped present (Saves s) may are run =
      take_at dropped present from (same_first (length dropped) from (present ++ s ∷ [])
      (ordered dropped present (Saves s) may run).numbered are (pushed_some present s))
  dropped_found_after from dropped present (Drops s) may are run =
      let at : length (dropped ++ s ∷ []) ≡ from =
      same_first (length (dropped ++ s ∷ [])) from (drop 1 present)
      (ordered dropped present (Drops s) may run).numbered are
      (λ e. let no : may.0 ∷ may.1 ≡ [] = sym (ap (drop 1) may.2) ∙ e in let never : ⊥ = cc in never) in
      subst (λ (l : List Segment). take from (dropped ++ l) ≡ dropped ++ s ∷ []) (sym may.2)
      (ap (take from) (sym (append_assoc dropped (s ∷ []) (may.0 ∷ may.1))) ∙
      take_at (dropped ++ s ∷ []) (may.0 ∷ may.1) from at)
