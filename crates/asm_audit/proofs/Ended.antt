-- A text has its ended lines, and the one that hasn't, in one way.
use Rattle.std.proofs.Common.{◌≡◌, ◌≢◌, ℕ, List, [], ◌∷◌, ◌++◌, All, refl, sym, ap₂, subst, ◌∙◌, append_assoc}
use Rattle.std.specs.List.{AllByRecursion}
use Rattle.std.proofs.lemmas.List.Elements.{recursion_from_All, All-weaker}
use Rattle.asm_journal.specs.Reading.{HasNoLineFeed}
use Rattle.asm_journal.proofs.OneHistory.{NoFeed, same_split}
use Rattle.asm_audit.specs.Text.{IsShortLine, ended_lines}
use Rattle.asm_audit.proofs.Extended.{no_feed_inside}

first_ends : (l : List ℕ) (ls : List (List ℕ)) (c : List ℕ) → ended_lines (l ∷ ls) ++ c ≡ l ++ 10 ∷ (ended_lines ls ++ c)
first_ends l ls c = append_assoc (l ++ 10 ∷ []) (ended_lines ls) c ∙ append_assoc l (10 ∷ []) (ended_lines ls ++ c)

no_feed : (l : List ℕ) → HasNoLineFeed l → NoFeed l
no_feed l h = recursion_from_All (λ b. b ≢ 10) l h

by_lines : (ls ms : List (List ℕ)) (c d : List ℕ) → AllByRecursion HasNoLineFeed ls → AllByRecursion HasNoLineFeed ms →
    NoFeed c → NoFeed d → ended_lines ls ++ c ≡ ended_lines ms ++ d → (ls ≡ ms) × (c ≡ d)
by_lines [] [] c d h k p q e = (refl, e)
by_lines [] (m ∷ ms) c d h k p q e =
    absurd (no_feed_inside m (ended_lines ms ++ d) (subst NoFeed (e ∙ first_ends m ms d) p))
by_lines (l ∷ ls) [] c d h k p q e =
    absurd (no_feed_inside l (ended_lines ls ++ c) (subst NoFeed (sym e ∙ first_ends l ls c) q))
by_lines (l ∷ ls) (m ∷ ms) c d h k p q e =
    let parts = same_split l m (ended_lines ls ++ c) (ended_lines ms ++ d) (no_feed l h.0) (no_feed m k.0)
    (sym (first_ends l ls c) ∙ e ∙ first_ends m ms d) in
    let rest = by_lines ls ms c d h.1 k.1 p q parts.1 in (ap₂ (λ x (xs : List (List ℕ)). x ∷ xs) parts.0 rest.0, rest.1)

pub one_ending : (ls ms : List (List ℕ)) (c d : List ℕ) → All HasNoLineFeed ls → All HasNoLineFeed ms → HasNoLineFeed c →
    HasNoLineFeed d → ended_lines ls ++ c ≡ ended_lines ms ++ d → (ls ≡ ms) × (c ≡ d)
one_ending ls ms c d h k p q e =
    by_lines ls ms c d (recursion_from_All HasNoLineFeed ls h) (recursion_from_All HasNoLineFeed ms k) (no_feed c p)
    (no_feed d q) e

pub plain_lines : (ls : List (List ℕ)) → All IsShortLine ls → All HasNoLineFeed ls
plain_lines ls h = All-weaker IsShortLine HasNoLineFeed (λ l short. short.0) ls h
