-- What two lists of jobs give.
use Rattle.std.proofs.Common.{◌≡◌, inl, inr, ◌++◌, List, [], ◌∷◌, Result, Ok, Err, Vec, Global, refl, subst, sym}
use Rattle.std.specs.Prelude.{IfOk, IfErr, IsOkAnd}
use Rattle.asm_play.specs.Jobs.{GivesEach, IsUndone, foremost_error, error_of_both}
use Rattle.asm_play.specs.declared.outcome.RunError.{RunError}

-- what the first jobs gave and then what the others gave
pub gives_each_append : {J X : Type 0} (gives : J → X → Type 0) (a b : List J) (x y : List X) →
    GivesEach gives a x → GivesEach gives b y → GivesEach gives (a ++ b) (x ++ y)
gives_each_append gives [] b [] y p q = q
gives_each_append gives (j ∷ a) b (d ∷ x) y p q = (p.0, gives_each_append gives a b x y p.1 q)
gives_each_append gives a b x y p q = absurd p

-- both halves in order, where both are there. The first half's task and jobs are known by what a promise remembers
pub joins : {K J X E : Type 0} (gives : K → J → X → Type 0) (k l : K) (a b c : List J)
    (r s t : Result (Vec X Global) E) →
    k ≡ l → a ≡ b →
    IfOk r (λ x. GivesEach (gives k) a x.items) → IfOk s (λ y. GivesEach (gives l) c y.items) →
    IfOk t (λ z. IsOkAnd r (λ x. IsOkAnd s (λ y. z.items ≡ x.items ++ y.items))) →
    IfOk t (λ z. GivesEach (gives l) (b ++ c) z.items)
joins gives k l a b c (Ok x) (Ok y) (Ok z) same jobs p q e =
    let reported = subst (λ m. GivesEach (gives k) m x.items) jobs p in
    let first : GivesEach (gives l) b x.items = subst (λ m. GivesEach (gives m) b x.items) same reported in
    subst (λ m. GivesEach (gives l) (b ++ c) m) (sym e) (gives_each_append (gives l) b c x.items y.items first q)
joins gives k l a b c (Ok x) (Err s) (Ok z) same jobs p q e = absurd e
joins gives k l a b c (Err r) s (Ok z) same jobs p q e = absurd e
joins gives k l a b c r s (Err t) same jobs p q e = tt

-- and why they weren't done
reported_undone : (f g : RunError) → IsUndone f → IsUndone g → IsUndone (foremost_error f g)
reported_undone f g (inl is) q = subst (λ e. IsUndone (foremost_error e g)) (sym is) (inl refl)
reported_undone f g (inr is) q = subst (λ e. IsUndone (foremost_error e g)) (sym is) q

both_undone : {X Y : Type 0} (r : Result X RunError) (s : Result Y RunError) → IfErr r IsUndone → IfErr s IsUndone →
    IsUndone (error_of_both r s)
both_undone (Ok x) (Ok y) p q = inr refl
both_undone (Ok x) (Err g) p q = q
both_undone (Err f) (Ok y) p q = p
both_undone (Err f) (Err g) p q = reported_undone f g p q

pub joins_undone : {X Y Z : Type 0} (r : Result X RunError) (s : Result Y RunError) (t : Result Z RunError) →
    IfErr r IsUndone → IfErr s IsUndone → IfErr t (λ e. e ≡ error_of_both r s) → IfErr t IsUndone
joins_undone r s (Ok z) p q e = tt
joins_undone r s (Err f) p q e = subst IsUndone (sym e) (both_undone r s p q)
