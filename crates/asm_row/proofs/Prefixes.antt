-- Lists of which one begins the other.
use Rattle.std.proofs.Common.{◌≡◌, ◌⊎◌, inl, inr, List, ◌∷◌, ◌++◌, append_assoc, ap, sym, ◌∙◌}
use mathlib.Core.List.{IsPrefix}

pub IsPrefix-trans : {X : Type 0} (xs ys zs : List X) → IsPrefix xs ys → IsPrefix ys zs → IsPrefix xs zs
IsPrefix-trans xs ys zs p q = (p.0 ++ q.0, sym (append_assoc xs p.0 q.0) ∙ (ap (λ ws. ws ++ q.0) p.1 ∙ q.1))

-- the same first element before two such lists
pub one_begins-cons : {X : Type 0} (x y : X) (xs ys : List X) → x ≡ y → IsPrefix xs ys ⊎ IsPrefix ys xs → IsPrefix (x ∷ xs) (y ∷ ys) ⊎ IsPrefix (y ∷ ys) (x ∷ xs)
one_begins-cons x y xs ys e (inl p) = inl (p.0, cc (e, p.1))
one_begins-cons x y xs ys e (inr p) = inr (p.0, cc (e, p.1))
