-- Agents of a slice, one more at a time, and what closing them takes.
use Rattle.std.proofs.Common.{◌≡◌, ℕ, ◌+◌, ◌<◌, max, All, List, [], ◌∷◌, ◌++◌, length, take, get_or, arith, refl, ap, sym, ◌∙◌, subst}
use Rattle.std.proofs.lemmas.List.{take_more, map-append}
use Rattle.std.proofs.lemmas.List.Elements.{All-push}
use Rattle.std.proofs.lemmas.List.Recursion.{max_push}
use Rattle.std.specs.Ordering.{ord_max, nat_cmp}
use Rattle.std.proofs.lemmas.Bool.Decides.{nat_tests}
use Rattle.asm_storage.specs.Agents.{AgentView, most, most_seen, id_bound}
use Rattle.asm_storage.specs.Storage.{AgentAt, accounts}

pub accounts_more : {A : Type 0} (agents : List (AgentAt A)) (i : ℕ) (a : AgentAt A) → i < length agents → a ≡ get_or agents i a → accounts (take (i + 1) agents) ≡ accounts (take i agents) ++ a.account ∷ []
accounts_more agents i a lt is =
    ap accounts (take_more agents i a lt ∙ ap (λ b. take i agents ++ b ∷ []) (sym is)) ∙ map-append (λ (b : AgentAt _). b.account) (take i agents) (a ∷ [])

pub each_more : {A : Type 0} (P : AgentView → Type 0) (agents : List (AgentAt A)) (i : ℕ) (a : AgentAt A) → i < length agents → a ≡ get_or agents i a → All P (accounts (take i agents)) → P a.account → All P (accounts (take (i + 1) agents))
each_more P agents i a lt is each here = subst (All P) (sym (accounts_more agents i a lt is)) (All-push P (accounts (take i agents)) a.account each here)

most-push : {X : Type 0} (f : X → ℕ) (xs : List X) (x : X) → most f (xs ++ x ∷ []) ≡ max (most f xs) (f x)
most-push f xs x = max_push (most f) f refl (λ _ _. refl) xs x

pub most_more : {A : Type 0} (agents : List (AgentAt A)) (i : ℕ) (a : AgentAt A) → i < length agents → a ≡ get_or agents i a → most_seen (accounts (take (i + 1) agents)) ≡ max (most_seen (accounts (take i agents))) (length a.account.seen)
most_more agents i a lt is = ap most_seen (accounts_more agents i a lt is) ∙ most-push (λ (b : AgentView). length b.seen) (accounts (take i agents)) a.account

pub id_bound_more : {A : Type 0} (agents : List (AgentAt A)) (i : ℕ) (a : AgentAt A) → i < length agents → a ≡ get_or agents i a → id_bound (accounts (take (i + 1) agents)) ≡ max (id_bound (accounts (take i agents))) (a.account.id + 1)
id_bound_more agents i a lt is = ap id_bound (accounts_more agents i a lt is) ∙ most-push (λ (b : AgentView). b.id + 1) (accounts (take i agents)) a.account

pub ord_max_is : (a b : ℕ) → ord_max nat_cmp a b ≡ max a b
ord_max_is a b = grind (arith, nat_tests)
