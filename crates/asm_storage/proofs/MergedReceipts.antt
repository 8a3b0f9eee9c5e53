-- Receipts with their agents' ids, sorted by key, are the merged history, in which each agent's events are its receipts, and
-- which is one of the storage of one thread.
use Rattle.std.proofs.Common.{◌≡◌, ℕ, zero, suc, ◌+◌, ◌<◌, ◌≤◌, Bool, true, false, nat_eq, List, [], ◌∷◌, ◌++◌, map, arith, refl, ap, sym, ◌∙◌, subst, ◌*◌, ◌/◌, ◌%◌, not, ◌&&◌, cond, length, take, get_or, append_assoc, append-nil, eq-eqb, ◌≢◌, inl}
use Rattle.std.proofs.Common.{inr}
use Rattle.std.specs.List.{filter, AllByRecursion, All, flat_map, list_any}
use Rattle.std.specs.List.Sorted.{IsNonDecreasingBy, IsPermutation, IsStableByKey, ties, IsStrictlyIncreasing}
use Rattle.std.proofs.lemmas.List.Elements.{filter-append, filter_agree, All-from_recursion, recursion_from_All}
use Rattle.std.proofs.lemmas.List.{map-append, take_more, take_all, length-map}
use Rattle.std.proofs.lemmas.Bool.{eqb-true, eqb-false, or_cases}
use Rattle.asm_storage.proofs.Lists.{Each-weaker, Each-rest, filter-map, filter-none, Each-flat_map, Each-map, Each-from_map}
use Rattle.std.specs.Ordering.{nat_cmp, is_lt}
use Rattle.std.proofs.lemmas.List.Sorted.{All-permutation}
use Rattle.std.proofs.lemmas.Simd.{map-map}
use Rattle.std.proofs.lemmas.List.Concat.{flat_map-append}
use Rattle.std.proofs.lemmas.Bool.Decides.{nat_tests}
use Rattle.asm_storage.specs.declared.receipt.Receipt.{Receipt}
use Rattle.asm_storage.specs.declared.history.Event.{Event}
use Rattle.asm_storage.specs.declared.call.Call.TheVariants as call
use Rattle.asm_storage.specs.declared.call.Reply.TheVariants as reply
use Rattle.asm_storage.specs.declared.call.Answer.TheVariants as answer
use Rattle.asm_storage.specs.declared.close.merging.AgentReceipt.{AgentReceipt}
use Rattle.asm_storage.specs.Agents.{AgentView, is_fired, event_of, is_quiet_at, is_move_at, fired_at, rounds, most, last_stood, merged, next_after, AreInOrder, IsAgent, quiet_at, round, moves_seen, has_receipt, IsGathered, IsHistoryOf}
use Rattle.asm_storage.specs.Storage.{AgentAt, accounts}
use Rattle.asm_storage.specs.ReceiptOrder.{with_id, key, key_of, merged_event, receipts_with_ids, id_and_receipt}
use Rattle.asm_storage.specs.Machine.{Machine}
use Rattle.asm_storage.specs.History.{events_of, fired_moves}
use Rattle.asm_storage.proofs.Rounds.{rises_tail, rises_above, rounds_part, move_stands}
use mathlib.Core.List.{IsPrefix}
use Rattle.asm_storage.specs.declared.entry.Entry.{Entry}
use Rattle.asm_storage.proofs.Legal.{IsLegalFrom, legal-from}
use Rattle.asm_storage.proofs.Run.{run_from, numbered_from, coherent}

module _ {X : Type 0} (key : X → ℕ) where
  -- no key is below the one before it
  abbrev pub Rises : ℕ → List X → Type 0
  Rises from [] = Unit {0}
  Rises from (x ∷ xs) = (from ≤ key x) × Rises (key x) xs

  -- the elements with key n, then those with the next one, for so many keys
  abbrev pub by_key : ℕ → ℕ → List X → List X
  by_key n zero xs = []
  by_key n (suc count) xs = filter (λ x. nat_eq (key x) n) xs ++ by_key (n + 1) count xs

  pub rises_from : (low : ℕ) (xs : List X) → All (λ x. low ≤ key x) xs → IsNonDecreasingBy key xs → Rises low xs
  rises_from low [] above sorted = tt
  rises_from low (x ∷ xs) above sorted = (above 0 x (omega arith), rises_from (key x) xs (λ j d lt. sorted 0 (suc j) d (omega arith) (omega arith)) (λ i j d le lt. sorted (suc i) (suc j) d (omega arith) (omega arith)))

  all_above : (n from : ℕ) (xs : List X) → Rises from xs → n < from → AllByRecursion (λ x. n < key x) xs
  all_above n from [] rises lt = tt
  all_above n from (x ∷ xs) rises lt = (omega (arith, rises.0, lt), all_above n (key x) xs rises.1 (omega (arith, rises.0, lt)))

  record IsSplit (n : ℕ) (xs : List X) : Type 0 where
    front : List X
    rest : List X
    is : front ++ rest ≡ xs
    at_n : filter (λ x. nat_eq (key x) n) xs ≡ front
    here : AllByRecursion (λ x. key x ≡ n) front
    rises : Rises (n + 1) rest

  split : (n : ℕ) (xs : List X) → Rises n xs → IsSplit n xs
  split n [] rises = record { front = []; rest = []; is = refl; at_n = refl; here = tt; rises = tt }
  split n (x ∷ xs) rises = first (nat_eq (key x) n) refl (split n xs) where
    first : (b : Bool) → nat_eq (key x) n ≡ b → (Rises n xs → IsSplit n xs) → IsSplit n (x ∷ xs)
    first true e more =
        let same = eqb-true (key x) n e in
        let s = more (subst (λ k. Rises k xs) same rises.1) in
        record { front = x ∷ s.front; rest = s.rest; is = ap (λ ys. x ∷ ys) s.is; at_n = rw e (ap (λ ys. x ∷ ys) s.at_n); here = (same, s.here); rises = s.rises }
    first false e more =
        let above : n < key x = omega (arith, rises.0, eqb-false (key x) n e) in
        let from : Rises (n + 1) (x ∷ xs) = (omega arith, rises.1) in
        let none = filter-none (λ y. n < key y) (λ y. nat_eq (key y) n) (λ y lt is. omega (arith, eqb-true (key y) n is, lt))
        (x ∷ xs) (all_above n (n + 1) (x ∷ xs) from (omega arith)) in
        record { front = []; rest = x ∷ xs; is = refl; at_n = none; here = tt; rises = from }

  skip : (n : ℕ) (front rest : List X) → AllByRecursion (λ x. key x ≡ n) front → (count k : ℕ) → n < k → by_key k count (front ++ rest) ≡ by_key k count rest
  skip n front rest here zero k lt = refl
  skip n front rest here (suc count) k lt =
      let q : filter (λ x. nat_eq (key x) k) (front ++ rest) ≡ filter (λ x. nat_eq (key x) k) rest = filter-append (λ x. nat_eq (key x) k) front rest ∙ ap (λ xs. xs ++ filter (λ x. nat_eq (key x) k) rest) (filter-none (λ x. key x ≡ n) (λ x. nat_eq (key x) k) (λ x at is. omega (arith, eqb-true (key x) k is, at, lt)) front here) in
      rw (q, skip n front rest here count (k + 1) (omega arith)) refl

  -- a list in order is its elements key by key
  pub by_key_all : (count n : ℕ) (xs : List X) → Rises n xs → AllByRecursion (λ x. key x < n + count) xs → by_key n count xs ≡ xs
  by_key_all zero n [] rises below = refl
  by_key_all zero n (x ∷ xs) rises below = absurd (omega (arith, rises.0, below.0))
  by_key_all (suc count) n xs rises below =
      let s = split n xs rises in
      let tail : AllByRecursion (λ x. key x < n + 1 + count) s.rest = Each-weaker (λ x. key x < n + suc count) (λ x. key x < n + 1 + count) (λ x lt. omega (arith, lt)) s.rest (Each-rest (λ x. key x < n + suc count) s.front s.rest (subst (AllByRecursion (λ x. key x < n + suc count)) (sym s.is) below)) in
      ap (λ ys. ys ++ by_key (n + 1) count xs) s.at_n
      ∙ ap (λ ys. s.front ++ by_key (n + 1) count ys) (sym s.is)
      ∙ ap (λ ys. s.front ++ ys) (skip n s.front s.rest s.here count (n + 1) (omega arith) ∙ by_key_all count (n + 1) s.rest s.rises tail)
      ∙ s.is

-- what a change of each element keeps of the keys, it keeps of the order
pub by_key-map : {X Y : Type 0} (key : Y → ℕ) (f : X → Y) (count n : ℕ) (xs : List X) →
    by_key key n count (map f xs) ≡ map f (by_key (λ x. key (f x)) n count xs)
by_key-map key f zero n xs = refl
by_key-map key f (suc count) n xs =
    let first = filter (λ x. nat_eq (key (f x)) n) xs in
    ap (λ ys. ys ++ by_key key (n + 1) count (map f xs)) (filter-map (λ y. nat_eq (key y) n) f xs)
    ∙ ap (λ ys. map f first ++ ys) (by_key-map key f count (n + 1) xs)
    ∙ sym (map-append f first (by_key (λ x. key (f x)) (n + 1) count xs))

abbrev pub event_with_id : ℕ × Receipt → Event
event_with_id p = event_of p.0 p.1

-- where it merges
abbrev pub key_with_id : ℕ × Receipt → ℕ
key_with_id p = key p.1

-- one agent more
pub one_agent_more : {A : Type 0} (agents : List (AgentAt A)) (i : ℕ) (a : AgentAt A) → i < length agents → a ≡ get_or agents i a → receipts_with_ids (accounts (take (i + 1) agents)) ≡ receipts_with_ids (accounts (take i agents)) ++ map (with_id a.account.id) a.account.receipts
one_agent_more agents i a lt is =
    ap (λ xs. receipts_with_ids (accounts xs)) (take_more agents i a lt ∙ ap (λ b. take i agents ++ b ∷ []) (sym is))
    ∙ ap receipts_with_ids (map-append (λ (b : AgentAt _). b.account) (take i agents) (a ∷ []))
    ∙ flat_map-append (λ (b : AgentView). map (with_id b.id) b.receipts) (accounts (take i agents)) (a.account ∷ [])
    ∙ ap (λ xs. receipts_with_ids (accounts (take i agents)) ++ xs) (append-nil (map (with_id a.account.id) a.account.receipts))

-- one receipt more
pub one_receipt_more : (before : List (ℕ × Receipt)) (id : ℕ) (receipts : List Receipt) (i : ℕ) (r : Receipt) (all new : List AgentReceipt) (s : AgentReceipt) → i < length receipts → r ≡ get_or receipts i r → map id_and_receipt all ≡ before ++ map (with_id id) (take i receipts) → new ≡ all ++ s ∷ [] → id_and_receipt s ≡ with_id id r → map id_and_receipt new ≡ before ++ map (with_id id) (take (i + 1) receipts)
one_receipt_more before id receipts i r all new s lt is so_far pushed reported =
    ap (map id_and_receipt) pushed
    ∙ map-append id_and_receipt all (s ∷ [])
    ∙ ap (λ xs. xs ++ id_and_receipt s ∷ []) so_far
    ∙ ap (λ p. (before ++ map (with_id id) (take i receipts)) ++ p ∷ []) reported
    ∙ append_assoc before (map (with_id id) (take i receipts)) (with_id id r ∷ [])
    ∙ ap (λ xs. before ++ xs) (sym (ap (map (with_id id)) (take_more receipts i r lt ∙ ap (λ q. take i receipts ++ q ∷ []) (sym is)) ∙ map-append (with_id id) (take i receipts) (r ∷ [])))

quiet_key : (n : ℕ) (r : Receipt) → is_quiet_at n r ≡ nat_eq (key r) (2 * n)
quiet_key n r = here (is_fired r) where
  here : (f : Bool) → (nat_eq r.stood n && not f) ≡ nat_eq (2 * r.stood + cond f 1 0) (2 * n)
  here true = grind (arith, nat_tests)
  here false = grind (arith, nat_tests)

move_key : (n : ℕ) (r : Receipt) → is_move_at n r ≡ nat_eq (key r) (2 * n + 1)
move_key n r = here (is_fired r) where
  here : (f : Bool) → (nat_eq r.stood n && f) ≡ nat_eq (2 * r.stood + cond f 1 0) (2 * n + 1)
  here true = grind (arith, nat_tests)
  here false = grind (arith, nat_tests)

-- the agents' receipts that pass a test, among all
picked : (test : Receipt → Bool) (agents : List AgentView) → flat_map (λ a. map (event_of a.id) (filter test a.receipts)) agents ≡ map event_with_id (filter (λ p. test p.1) (receipts_with_ids agents))
picked test [] = refl
picked test (a ∷ agents) =
    let e : map event_with_id (filter (λ p. test p.1) (map (with_id a.id) a.receipts)) ≡ map (event_of a.id) (filter test a.receipts) =
    ap (map event_with_id) (filter-map (λ p. test p.1) (with_id a.id) a.receipts) ∙ map-map event_with_id (with_id a.id) (filter test a.receipts) in
    ap (λ h. h ++ flat_map (λ a. map (event_of a.id) (filter test a.receipts)) agents) (sym e)
    ∙ ap (λ h. map event_with_id (filter (λ p. test p.1) (map (with_id a.id) a.receipts)) ++ h) (picked test agents)
    ∙ sym (map-append event_with_id (filter (λ p. test p.1) (map (with_id a.id) a.receipts)) (filter (λ p. test p.1) (receipts_with_ids agents)))
    ∙ ap (map event_with_id) (sym (filter-append (λ p. test p.1) (map (with_id a.id) a.receipts) (receipts_with_ids agents)))

at_key : (test : Receipt → Bool) (n : ℕ) → ((r : Receipt) → test r ≡ nat_eq (key r) n) → (agents : List AgentView) →
    flat_map (λ a. map (event_of a.id) (filter test a.receipts)) agents ≡
    map event_with_id (filter (λ p. nat_eq (key_with_id p) n) (receipts_with_ids agents))
at_key test n says agents =
    picked test agents
    ∙ ap (map event_with_id)
    (filter_agree (λ p. test p.1) (λ p. nat_eq (key_with_id p) n) (λ p. says p.1) (receipts_with_ids agents))

-- rounds are places, two by two
pub rounds_by_key : (agents : List AgentView) (count n : ℕ) →
    rounds agents n count ≡ map event_with_id (by_key key_with_id (2 * n) (2 * count) (receipts_with_ids agents))
rounds_by_key agents zero n = refl
rounds_by_key agents (suc count) n =
    let two : 2 * suc count ≡ suc (suc (2 * count)) = omega arith in
    let next : 2 * (n + 1) ≡ 2 * n + 1 + 1 = omega arith in
    let ps = receipts_with_ids agents in
    let q = filter (λ p. nat_eq (key_with_id p) (2 * n)) ps in
    let f = filter (λ p. nat_eq (key_with_id p) (2 * n + 1)) ps in
    let rest = by_key key_with_id (2 * n + 1 + 1) (2 * count) ps in
    let ev = map event_with_id in
    ap (λ h. (h ++ flat_map (fired_at n) agents) ++ rounds agents (n + 1) count)
    (at_key (is_quiet_at n) (2 * n) (quiet_key n) agents)
    ∙ ap (λ h. (ev q ++ h) ++ rounds agents (n + 1) count) (at_key (is_move_at n) (2 * n + 1) (move_key n) agents)
    ∙ ap (λ h. (ev q ++ ev f) ++ h) (rounds_by_key agents count (n + 1) ∙ ap (λ k. ev (by_key key_with_id k (2 * count) ps)) next)
    ∙ append_assoc (ev q) (ev f) (ev rest)
    ∙ ap (λ h. ev q ++ h) (sym (map-append event_with_id f rest))
    ∙ sym (map-append event_with_id q (f ++ rest))
    ∙ ap (λ k. ev (by_key key_with_id (2 * n) k ps)) (sym two)

-- some receipt has each key
some_receipt : (n : ℕ) → (s : AgentReceipt) × (key_of s ≡ n)
some_receipt n = here (nat_eq (n % 2) 1) refl where
  here : (b : Bool) → nat_eq (n % 2) 1 ≡ b → (s : AgentReceipt) × (key_of s ≡ n)
  here true e = (record { agent = 0; receipt = record { ref_ptr = (0, 0); now = record { call = call.Fire [] []; answer = answer.Fire (reply.Fired 0); stood = n / 2 } } }, omega (arith, eqb-true (n % 2) 1 e))
  here false e = (record { agent = 0; receipt = record { ref_ptr = (0, 0); now = record { call = call.Fire [] []; answer = answer.Fire reply.Full; stood = n / 2 } } }, omega (arith, eqb-false (n % 2) 1 e))

ties_eq : (a b : ℕ) → (not (is_lt (nat_cmp a b)) && not (is_lt (nat_cmp b a))) ≡ nat_eq b a
ties_eq a b = grind (arith, nat_tests)

same_keys : (xs ys : List AgentReceipt) → IsStableByKey key_of nat_cmp xs ys → (count n : ℕ) → by_key key_of n count ys ≡ by_key key_of n count xs
same_keys xs ys stable zero n = refl
same_keys xs ys stable (suc count) n =
    let x = some_receipt n in
    let test : (s : AgentReceipt) → ties (λ a b. is_lt (nat_cmp (key_of a) (key_of b))) x.0 s ≡ nat_eq (key_of s) n = λ s. ties_eq (key_of x.0) (key_of s) ∙ ap (nat_eq (key_of s)) x.1 in
    let agree : (zs : List AgentReceipt) → filter (ties (λ a b. is_lt (nat_cmp (key_of a) (key_of b))) x.0) zs ≡ filter (λ s. nat_eq (key_of s) n) zs = λ zs. filter_agree (ties (λ a b. is_lt (nat_cmp (key_of a) (key_of b))) x.0) (λ s. nat_eq (key_of s) n) test zs in
    ap (λ zs. zs ++ by_key key_of (n + 1) count ys) (sym (agree ys) ∙ stable x.0 ∙ agree xs)
    ∙ ap (λ zs. filter (λ s. nat_eq (key_of s) n) xs ++ zs) (same_keys xs ys stable count (n + 1))

pub key_below : (top : ℕ) (r : Receipt) → r.stood ≤ top → key r < 0 + 2 * (top + 1)
key_below top r le = here (is_fired r) where
  here : (b : Bool) → 2 * r.stood + cond b 1 0 < 0 + 2 * (top + 1)
  here true = omega arith
  here false = omega arith

-- a bound on each element by the greatest
pub most_bounds : {X : Type 0} (f : X → ℕ) (xs : List X) (top : ℕ) → most f xs ≤ top → AllByRecursion (λ x. f x ≤ top) xs
most_bounds f [] top le = tt
most_bounds f (x ∷ xs) top le = (omega arith, most_bounds f xs top (omega arith))

-- the keys of one agent's receipts
pub own_below : (top : ℕ) (a : AgentView) → most (λ r. r.stood) a.receipts ≤ top →
    AllByRecursion (λ r. key r < 0 + 2 * (top + 1)) a.receipts
own_below top a le =
    Each-weaker (λ r. r.stood ≤ top) (λ r. key r < 0 + 2 * (top + 1)) (key_below top) a.receipts
    (most_bounds (λ r. r.stood) a.receipts top le)

keys_below : (agents : List AgentView) →
    AllByRecursion (λ p. key_with_id p < 0 + 2 * (last_stood agents + 1)) (receipts_with_ids agents)
keys_below agents =
    let top = last_stood agents in
    let low : ℕ × Receipt → Type 0 = λ p. key_with_id p < 0 + 2 * (top + 1) in
    Each-flat_map low (λ (a : AgentView). map (with_id a.id) a.receipts) agents
    (Each-weaker (λ (a : AgentView). most (λ r. r.stood) a.receipts ≤ top)
    (λ a. AllByRecursion low (map (with_id a.id) a.receipts))
    (λ a le. Each-map low (with_id a.id) a.receipts (own_below top a le)) agents
    (most_bounds (λ (a : AgentView). most (λ r. r.stood) a.receipts) agents top (omega arith)))

-- a stable sort of the agents' receipts by key is the merged history
pub merged_from_sort : (agents : List AgentView) (xs ys : List AgentReceipt) → map id_and_receipt xs ≡ receipts_with_ids agents → IsPermutation xs ys → IsNonDecreasingBy key_of ys → IsStableByKey key_of nat_cmp xs ys → map merged_event ys ≡ merged agents
merged_from_sort agents xs ys reported permutation sorted stable =
    let count = last_stood agents + 1 in
    let low : ℕ × Receipt → Type 0 = λ p. key_with_id p < 0 + 2 * count in
    let mine : AgentReceipt → Type 0 = λ s. key_of s < 0 + 2 * count in
    let each = Each-from_map low id_and_receipt xs (subst (AllByRecursion low) (sym reported) (keys_below agents)) in
    let below = recursion_from_All mine ys (All-permutation mine xs ys permutation (All-from_recursion mine xs each)) in
    let rises : Rises key_of 0 ys = rises_from key_of 0 ys (λ j d lt. omega arith) sorted in
    ap (map merged_event) (sym (by_key_all key_of (2 * count) 0 ys rises below) ∙ same_keys xs ys stable (2 * count) 0)
    ∙ sym (map-map event_with_id id_and_receipt (by_key key_of 0 (2 * count) xs))
    ∙ ap (map event_with_id)
    (sym (by_key-map key_with_id id_and_receipt (2 * count) 0 xs) ∙ ap (by_key key_with_id 0 (2 * count)) reported)
    ∙ sym (rounds_by_key agents count 0)

-- the agent with that id, if there is one
abbrev pub those : ℕ → List AgentView → List AgentView
those i agents = filter (λ a. nat_eq a.id i) agents

events_of-map : (i id : ℕ) (b : Bool) → nat_eq id i ≡ b → (rs : List Receipt) → events_of (map (event_of id) rs) i ≡ cond b (map (event_of id) rs) []
events_of-map i id true e [] = refl
events_of-map i id false e [] = refl
events_of-map i id true e (r ∷ rs) = rw (e, events_of-map i id true e rs) refl
events_of-map i id false e (r ∷ rs) = rw e (events_of-map i id false e rs)

events_of-append : (g h : List Event) (i : ℕ) → events_of (g ++ h) i ≡ events_of g i ++ events_of h i
events_of-append g h i = filter-append (λ e. nat_eq e.agent i) g h

events_of-flat_map : (pick : AgentView → List Receipt) (i : ℕ) (agents : List AgentView) → events_of (flat_map (λ a. map (event_of a.id) (pick a)) agents) i ≡ flat_map (λ a. map (event_of a.id) (pick a)) (those i agents)
events_of-flat_map pick i [] = refl
events_of-flat_map pick i (a ∷ agents) = here (nat_eq a.id i) refl (events_of-flat_map pick i agents) where
  here : (b : Bool) → nat_eq a.id i ≡ b → events_of (flat_map (λ a. map (event_of a.id) (pick a)) agents) i ≡ flat_map (λ a. map (event_of a.id) (pick a)) (those i agents) → events_of (map (event_of a.id) (pick a) ++ flat_map (λ a. map (event_of a.id) (pick a)) agents) i ≡ flat_map (λ a. map (event_of a.id) (pick a)) (cond b (a ∷ those i agents) (those i agents))
  here true e rest = events_of-append (map (event_of a.id) (pick a)) _ i ∙ ap (λ h. h ++ events_of (flat_map (λ a. map (event_of a.id) (pick a)) agents) i) (events_of-map i a.id true e (pick a)) ∙ ap (λ h. map (event_of a.id) (pick a) ++ h) rest
  here false e rest = events_of-append (map (event_of a.id) (pick a)) _ i ∙ ap (λ h. h ++ events_of (flat_map (λ a. map (event_of a.id) (pick a)) agents) i) (events_of-map i a.id false e (pick a)) ∙ rest

events_of-round : (i : ℕ) (agents : List AgentView) (n : ℕ) → events_of (round agents n) i ≡ round (those i agents) n
events_of-round i agents n =
    events_of-append (flat_map (quiet_at n) agents) (flat_map (fired_at n) agents) i
    ∙ ap (λ h. h ++ events_of (flat_map (fired_at n) agents) i) (events_of-flat_map (λ a. filter (is_quiet_at n) a.receipts) i agents)
    ∙ ap (λ h. flat_map (quiet_at n) (those i agents) ++ h) (events_of-flat_map (λ a. filter (is_move_at n) a.receipts) i agents)

events_of-rounds : (i : ℕ) (agents : List AgentView) (count n : ℕ) → events_of (rounds agents n count) i ≡ rounds (those i agents) n count
events_of-rounds i agents zero n = refl
events_of-rounds i agents (suc count) n =
    events_of-append (round agents n) (rounds agents (n + 1) count) i
    ∙ ap (λ h. h ++ events_of (rounds agents (n + 1) count) i) (events_of-round i agents n)
    ∙ ap (λ h. round (those i agents) n ++ h) (events_of-rounds i agents count (n + 1))

key_bounds : (r : Receipt) → (2 * r.stood ≤ key r) × (key r ≤ 2 * next_after r)
key_bounds r = here (is_fired r) where
  here : (b : Bool) → (2 * r.stood ≤ 2 * r.stood + cond b 1 0) × (2 * r.stood + cond b 1 0 ≤ 2 * cond b (r.stood + 1) r.stood)
  here true = (omega arith, omega arith)
  here false = (omega arith, omega arith)

-- receipts that stand in order stand in the order of their keys
rises_by_key : (n low : ℕ) (rs : List Receipt) → low ≤ 2 * n → AreInOrder n rs → Rises key low rs
rises_by_key n low [] le order = tt
rises_by_key n low (r ∷ rs) le order =
    (omega (arith, le, order.0, (key_bounds r).0), rises_by_key (next_after r) (key r) rs (key_bounds r).1 order.1)

-- one agent's rounds are its receipts
one_agent : (a : AgentView) (count : ℕ) → AreInOrder 0 a.receipts → AllByRecursion (λ r. key r < 0 + 2 * count) a.receipts →
    rounds (a ∷ []) 0 count ≡ map (event_of a.id) a.receipts
one_agent a count order below =
    rounds_by_key (a ∷ []) count 0
    ∙ ap (λ ps. map event_with_id (by_key key_with_id 0 (2 * count) ps)) (append-nil (map (with_id a.id) a.receipts))
    ∙ ap (map event_with_id) (by_key-map key_with_id (with_id a.id) (2 * count) 0 a.receipts)
    ∙ map-map event_with_id (with_id a.id) (by_key key 0 (2 * count) a.receipts)
    ∙ ap (map (event_of a.id)) (by_key_all key (2 * count) 0 a.receipts (rises_by_key 0 0 a.receipts (omega arith) order) below)

no_agents : (count n : ℕ) → rounds [] n count ≡ []
no_agents zero n = refl
no_agents (suc count) n = no_agents count (n + 1)

none_those : (i : ℕ) (agents : List AgentView) → AllByRecursion (λ j. i < j) (map (λ a. a.id) agents) → those i agents ≡ []
none_those i agents above =
    filter-none (λ a. i < a.id) (λ a. nat_eq a.id i) (λ a lt is. omega (arith, eqb-true a.id i is, lt)) agents
    (Each-from_map (λ j. i < j) (λ (a : AgentView). a.id) agents above)

-- where ids rise, each agent is the only one with its id
only : (agents : List AgentView) → IsStrictlyIncreasing (map (λ a. a.id) agents) → AllByRecursion (λ a. those a.id agents ≡ a ∷ []) agents
only [] rises = tt
only (a ∷ agents) rises =
    let above = rises_above a.id (map (λ b. b.id) agents) rises in
    (rw (eq-eqb a.id a.id refl, none_those a.id agents above) refl, later agents above (only agents (rises_tail a.id (map (λ b. b.id) agents) rises))) where
      later : (xs : List AgentView) → AllByRecursion (λ j. a.id < j) (map (λ b. b.id) xs) → AllByRecursion (λ b. those b.id agents ≡ b ∷ []) xs → AllByRecursion (λ b. those b.id (a ∷ agents) ≡ b ∷ []) xs
      later [] above each = tt
      later (b ∷ xs) above each = (case (nat_eq a.id b.id) refl, later xs above.1 each.1) where
        case : (t : Bool) → nat_eq a.id b.id ≡ t → cond t (a ∷ those b.id agents) (those b.id agents) ≡ b ∷ []
        case true e = absurd (omega (arith, eqb-true a.id b.id e, above.0))
        case false e = each.0

-- the events of each agent are its receipts, in order
pub events_of-merged : (m : Machine) (agents : List AgentView) → All (IsAgent m) agents → IsStrictlyIncreasing (map (λ a. a.id) agents) → All (λ a. events_of (merged agents) a.id ≡ map (event_of a.id) a.receipts) agents
events_of-merged m agents each rises =
    All-from_recursion (λ a. events_of (merged agents) a.id ≡ map (event_of a.id) a.receipts) agents
    (go agents (recursion_from_All (IsAgent m) agents each) (only agents rises) (most_bounds (λ a. most (λ r. r.stood) a.receipts) agents (last_stood agents) (omega arith))) where
      go : (xs : List AgentView) → AllByRecursion (IsAgent m) xs → AllByRecursion (λ a. those a.id agents ≡ a ∷ []) xs → AllByRecursion (λ a. most (λ r. r.stood) a.receipts ≤ last_stood agents) xs → AllByRecursion (λ a. events_of (merged agents) a.id ≡ map (event_of a.id) a.receipts) xs
      go [] each alone low = tt
      go (a ∷ xs) each alone low =
          let count = last_stood agents + 1 in (
            events_of-rounds a.id agents count 0
                ∙ ap (λ xs. rounds xs 0 count) alone.0
                ∙ one_agent a count each.0.in_order (own_below (last_stood agents) a low.0),
            go xs each.1 alone.1 low.1,
          )

-- no other agent has events
pub events_of-others : (agents : List AgentView) (i : ℕ) → those i agents ≡ [] → events_of (merged agents) i ≡ []
events_of-others agents i none = events_of-rounds i agents (last_stood agents + 1) 0 ∙ ap (λ xs. rounds xs 0 (last_stood agents + 1)) none ∙ no_agents (last_stood agents + 1) 0

-- the greatest is at least k where one of them passes a test that says so
most_above : {X : Type 0} (f : X → ℕ) (test : X → Bool) (k : ℕ) → ((x : X) → test x ≡ true → k ≤ f x) → (xs : List X) →
    list_any test xs ≡ true → k ≤ most f xs
most_above f test k says [] any = absurd cc
most_above f test k says (x ∷ xs) any = elim (or_cases (test x) (list_any test xs) any) [
  | inl e ↦ omega (arith, says x e)
  | inr e ↦ omega (arith, most_above f test k says xs e)
]

receipt_below : (k : ℕ) (agents : List AgentView) → has_receipt agents k ≡ true → k ≤ last_stood agents
receipt_below k =
    most_above (λ (a : AgentView). most (λ r. r.stood) a.receipts) (λ a. list_any (is_move_at k) a.receipts) k
    (λ a. most_above (λ r. r.stood) (is_move_at k) k (λ r e. omega (arith, move_stands k r e)) a.receipts)

all_below : (all : List Entry) (agents : List AgentView) → ((k : ℕ) → k < length all → has_receipt agents k ≡ true) → length all ≤ last_stood agents + 1
all_below [] agents none_missing = omega arith
all_below (x ∷ all) agents none_missing = omega (arith, receipt_below (length all) agents (none_missing (length all) (omega arith)))

merged_part : (m : Machine) (all : List Entry) (agents : List AgentView) → IsGathered m all agents → IsLegalFrom m [] (merged agents) × (fired_moves (merged agents) ≡ moves_seen all)
merged_part m all agents g =
    let p = rounds_part m all agents (last_stood agents + 1) 0 g in
    let long : length (moves_seen all) ≤ 0 + (last_stood agents + 1) = omega (arith, length-map all (λ (x : Entry). x.instrs), all_below all agents g.none_missing) in
    (p.legal, p.leaves ∙ take_all (0 + (last_stood agents + 1)) (moves_seen all) long)

prefix-moves_seen : (xs ys : List Entry) → IsPrefix xs ys → IsPrefix (moves_seen xs) (moves_seen ys)
prefix-moves_seen xs ys p = (moves_seen p.0, sym (map-append (λ (x : Entry). x.instrs) xs p.0) ∙ ap moves_seen p.1)

pub merged_is_history : (m : Machine) (all : List Entry) (agents : List AgentView) → IsGathered m all agents → IsHistoryOf m agents (merged agents)
merged_is_history m all agents g =
    let part = merged_part m all agents g in
    record {
      own_receipts = events_of-merged m agents g.each g.ids;
      no_others = λ i others. events_of-others agents i (filter-none (λ a. a.id ≢ i) (λ a. nat_eq a.id i)
          (λ a differs is. differs (eqb-true a.id i is)) agents (recursion_from_All (λ a. a.id ≢ i) agents others));
      legal = legal-from m (merged agents) part.0;
      run = run_from m [] (merged agents) part.0;
      seen_first = All-from_recursion (λ a. IsPrefix (moves_seen a.seen) (fired_moves (merged agents))) agents
          (Each-weaker (λ a. IsPrefix a.seen all) (λ a. IsPrefix (moves_seen a.seen) (fired_moves (merged agents)))
          (λ a p. subst (IsPrefix (moves_seen a.seen)) (sym part.1) (prefix-moves_seen a.seen all p)) agents (recursion_from_All (λ a. IsPrefix a.seen all) agents g.prefixes));
      numbered = numbered_from m [] (merged agents) part.0;
      coherent = coherent m (merged agents) part.0;
    }
