-- Receipts of agents that saw one row, merged round by round: each round is legal, and fires the row's next move.
use Rattle.std.proofs.Common.{◌≡◌, ℕ, zero, suc, ◌+◌, ◌<◌, ◌≤◌, Bool, true, false, not, ◌||◌, cond, nat_eq, List, [], ◌∷◌, ◌++◌, length, take, map, Option, Some, None, slice_get, is_some, append_assoc, append-nil, length-append, add-one, arith, refl, ap, sym, ◌∙◌, subst, ◌⊎◌, inl, inr}
use Rattle.std.specs.List.{filter, flat_map, list_any, AllByRecursion}
use Rattle.std.specs.List.Sorted.{IsStrictlyIncreasing}
use Rattle.std.specs.Option.{option_map}
use Rattle.std.proofs.lemmas.List.Elements.{recursion_from_All}
use Rattle.std.proofs.lemmas.List.{take_all, length-map}
use Rattle.std.proofs.lemmas.Option.{slice_get_within, slice_get-map}
use Rattle.std.proofs.lemmas.Bool.{eqb-true, and_parts, cases_lt}
use mathlib.Core.List.{IsPrefix}
use Rattle.asm_storage.specs.declared.receipt.Receipt.{Receipt}
use Rattle.asm_storage.specs.declared.history.Event.{Event}
use Rattle.asm_storage.specs.declared.entry.Entry.{Entry}
use Rattle.asm_update.specs.Move.{Move}
use Rattle.asm_storage.specs.Machine.{Machine, reply_to}
use Rattle.asm_storage.specs.History.{fired_move, fired_moves, move_of}
use Rattle.asm_storage.specs.Agents.{AgentView, ids, moves_seen, is_fired, next_after, AreInOrder, IsInRow, IsAgent, event_of, is_quiet_at, is_move_at, quiet_at, fired_at, round, rounds, has_receipt, IsGathered}
use Rattle.asm_storage.proofs.Lists.{Each-map_filter, Each-flat_map, Each-weaker, filter-none, slice_get-prefix, take-slice_get}
use Rattle.asm_storage.proofs.AgentInvariant.{stood_le, next_fired, stood_within, take-moves_seen}
use Rattle.asm_storage.proofs.Legal.{IsLegalFrom, legal-append, legal_quiet, fired_moves-append}

-- a receipt, told of the whole row
record IsPlaced (m : Machine) (all : List Entry) (a : AgentView) (r : Receipt) : Type 0 where
  replied : r.answer ≡ reply_to m (take r.stood (moves_seen all)) r.call
  in_row : IsInRow a.id all r

-- an event, told of the whole row
pub record IsAt (m : Machine) (all : List Entry) (n : ℕ) (e : Event) : Type 0 where
  replied : e.answer ≡ reply_to m (take n (moves_seen all)) e.call
  in_row : (M : Move) → move_of e ≡ Some M → slice_get all n ≡ Some (record { agent = e.agent; instrs = M })

placed_each : (m : Machine) (all : List Entry) (a : AgentView) → IsPrefix a.seen all → (rs : List Receipt) → AllByRecursion (λ r. r.stood ≤ length a.seen) rs → AllByRecursion (λ r. r.answer ≡ reply_to m (take r.stood (moves_seen a.seen)) r.call) rs → AllByRecursion (IsInRow a.id a.seen) rs → AllByRecursion (IsPlaced m all a) rs
placed_each m all a prefix [] within replied in_row = tt
placed_each m all a prefix (r ∷ rs) within replied in_row = (
  record {
    replied = subst (λ q. r.answer ≡ reply_to m q r.call) (take-moves_seen r.stood a.seen all prefix within.0) replied.0;
    in_row = λ M is. slice_get-prefix a.seen all r.stood _ prefix (in_row.0 M is);
  },
  placed_each m all a prefix rs within.1 replied.1 in_row.1,
)

placed : (m : Machine) (all : List Entry) (a : AgentView) → IsAgent m a → IsPrefix a.seen all → AllByRecursion (IsPlaced m all a) a.receipts
placed m all a agent prefix =
    placed_each m all a prefix a.receipts
    (stood_within 0 (length a.seen) a.receipts agent.in_order agent.within).0
    (recursion_from_All _ a.receipts agent.replied)
    (recursion_from_All _ a.receipts agent.in_row)

at_from : (m : Machine) (all : List Entry) (a : AgentView) (n : ℕ) (r : Receipt) → IsPlaced m all a r → r.stood ≡ n → IsAt m all n (event_of a.id r)
at_from m all a n r p e = record {
  replied = subst (λ k. r.answer ≡ reply_to m (take k (moves_seen all)) r.call) e p.replied;
  in_row = λ M is. subst (λ k. slice_get all k ≡ Some (record { agent = a.id; instrs = M })) e (p.in_row M is);
}

quiet_stands : (n : ℕ) (r : Receipt) → is_quiet_at n r ≡ true → r.stood ≡ n
quiet_stands n r e = eqb-true r.stood n (and_parts (nat_eq r.stood n) (not (is_fired r)) e).0

pub move_stands : (n : ℕ) (r : Receipt) → is_move_at n r ≡ true → r.stood ≡ n
move_stands n r e = eqb-true r.stood n (and_parts (nat_eq r.stood n) (is_fired r) e).0

move_fired : (n : ℕ) (r : Receipt) → is_move_at n r ≡ true → is_fired r ≡ true
move_fired n r e = (and_parts (nat_eq r.stood n) (is_fired r) e).1

-- the events of one agent at a number
pub quiet_each : (m : Machine) (all : List Entry) (n : ℕ) (a : AgentView) → IsAgent m a → IsPrefix a.seen all → AllByRecursion (λ e. IsAt m all n e × (move_of e ≡ None)) (quiet_at n a)
quiet_each m all n a agent prefix =
    Each-map_filter (λ e. IsAt m all n e × (move_of e ≡ None)) (event_of a.id) (is_quiet_at n) a.receipts
    (Each-weaker (IsPlaced m all a) (λ r. is_quiet_at n r ≡ true → IsAt m all n (event_of a.id r) × (move_of (event_of a.id r) ≡ None)) (λ r p test. (at_from m all a n r p (quiet_stands n r test), none_from (fired_move r.call r.answer) (and_parts (nat_eq r.stood n) (not (is_fired r)) test).1)) a.receipts (placed m all a agent prefix)) where
      none_from : (o : Option Move) → not (is_some o) ≡ true → o ≡ None
      none_from None e = refl
      none_from (Some M) e = absurd cc

pub fired_each : (m : Machine) (all : List Entry) (n : ℕ) (a : AgentView) → IsAgent m a → IsPrefix a.seen all → AllByRecursion (λ e. IsAt m all n e × (is_some (move_of e) ≡ true) × (e.agent ≡ a.id)) (fired_at n a)
fired_each m all n a agent prefix =
    Each-map_filter (λ e. IsAt m all n e × (is_some (move_of e) ≡ true) × (e.agent ≡ a.id)) (event_of a.id) (is_move_at n) a.receipts
    (Each-weaker (IsPlaced m all a) (λ r. is_move_at n r ≡ true → IsAt m all n (event_of a.id r) × (is_some (move_of (event_of a.id r)) ≡ true) × (a.id ≡ a.id)) (λ r p test. (at_from m all a n r p (move_stands n r test), move_fired n r test, refl)) a.receipts (placed m all a agent prefix))

-- each receipt stands above n where the list begins above it
all_above : (n from : ℕ) (rs : List Receipt) → AreInOrder from rs → n < from → AllByRecursion (λ r. n < r.stood) rs
all_above n from [] order lt = tt
all_above n from (r ∷ rs) order lt =
    (omega (arith, order.0, lt), all_above n (next_after r) rs order.1 (omega (arith, stood_le r, order.0, lt)))

-- one agent has at most one fired receipt at n
pub one_fired : (n from : ℕ) (rs : List Receipt) → AreInOrder from rs → length (filter (is_move_at n) rs) ≤ 1
one_fired n from [] order = omega arith
one_fired n from (r ∷ rs) order = here (is_move_at n r) refl (one_fired n (next_after r) rs order.1) where
  here : (b : Bool) → is_move_at n r ≡ b → length (filter (is_move_at n) rs) ≤ 1 → length (cond b (r ∷ filter (is_move_at n) rs) (filter (is_move_at n) rs)) ≤ 1
  here true e rest =
      let above : n < next_after r = omega (arith, move_stands n r e, next_fired r (move_fired n r e)) in
      omega (
        arith,
        ap length (filter-none (λ s. n < s.stood) (is_move_at n) (λ s lt is. omega (arith, move_stands n s is, lt)) rs
            (all_above n (next_after r) rs order.1 above)),
      )
  here false e rest = rest

-- numbers that rise, without the first
pub rises_tail : (x : ℕ) (xs : List ℕ) → IsStrictlyIncreasing (x ∷ xs) → IsStrictlyIncreasing xs
rises_tail x xs rises k lt = rw add-one (rw add-one at (rises (suc k) (omega arith)))

-- of numbers that rise each later one is above the first
pub rises_above : (x : ℕ) (xs : List ℕ) → IsStrictlyIncreasing (x ∷ xs) → AllByRecursion (λ y. x < y) xs
rises_above x [] rises = tt
rises_above x (y ∷ xs) rises =
    let first : x < y = rises 0 (omega arith) in
    (first, Each-weaker (λ z. y < z) (λ z. x < z) (λ z lt. omega (arith, lt, first)) xs (rises_above y xs (rises_tail x (y ∷ xs) rises)))

no_events : (f : AgentView → List Event) (i : ℕ) (agents : List AgentView) → AllByRecursion (λ j. i < j) (ids agents) → AllByRecursion (λ a. (f a ≡ []) ⊎ (a.id ≡ i)) agents → flat_map f agents ≡ []
no_events f i [] above each = refl
no_events f i (a ∷ agents) above each = here each.0 (no_events f i agents above.1 each.1) where
  here : (f a ≡ []) ⊎ (a.id ≡ i) → flat_map f agents ≡ [] → f a ++ flat_map f agents ≡ []
  here (inl e) rest = rw e rest
  here (inr e) rest = absurd (omega (arith, above.0, e))

-- where one agent alone has events, and at most one, the agents have at most one
one_of : (f : AgentView → List Event) (i : ℕ) (agents : List AgentView) → IsStrictlyIncreasing (ids agents) → AllByRecursion (λ a. length (f a) ≤ 1) agents → AllByRecursion (λ a. (f a ≡ []) ⊎ (a.id ≡ i)) agents → length (flat_map f agents) ≤ 1
one_of f i [] rises few each = omega arith
one_of f i (a ∷ agents) rises few each = here each.0 (one_of f i agents (rises_tail a.id (ids agents) rises) few.1 each.1) where
  here : (f a ≡ []) ⊎ (a.id ≡ i) → length (flat_map f agents) ≤ 1 → length (f a ++ flat_map f agents) ≤ 1
  here (inl e) rest = rw e rest
  here (inr e) rest =
      let above : AllByRecursion (λ j. i < j) (ids agents) = subst (λ j. AllByRecursion (λ k. j < k) (ids agents)) e (rises_above a.id (ids agents) rises) in
      let none : flat_map f agents ≡ [] = no_events f i agents above each.1 in
      let few' : length (f a) ≤ 1 = few.0 in
      rw (none, append-nil) few'

-- a receipt shows among the events
some_fired : (n : ℕ) (id : ℕ) (rs : List Receipt) → list_any (is_move_at n) rs ≡ true → 0 < length (map (event_of id) (filter (is_move_at n) rs))
some_fired n id [] any = absurd cc
some_fired n id (r ∷ rs) any = here (is_move_at n r) refl any (some_fired n id rs) where
  here : (b : Bool) → is_move_at n r ≡ b → (b || list_any (is_move_at n) rs) ≡ true → (list_any (is_move_at n) rs ≡ true → 0 < length (map (event_of id) (filter (is_move_at n) rs))) → 0 < length (map (event_of id) (cond b (r ∷ filter (is_move_at n) rs) (filter (is_move_at n) rs)))
  here true e any rest = omega arith
  here false e any rest = rest any

some_fired_of : (n : ℕ) (agents : List AgentView) → has_receipt agents n ≡ true → 0 < length (flat_map (fired_at n) agents)
some_fired_of n [] any = absurd cc
some_fired_of n (a ∷ agents) any = here (list_any (is_move_at n) a.receipts) refl any (some_fired_of n agents) where
  here : (b : Bool) → list_any (is_move_at n) a.receipts ≡ b → (b || has_receipt agents n) ≡ true → (has_receipt agents n ≡ true → 0 < length (flat_map (fired_at n) agents)) → 0 < length (fired_at n a ++ flat_map (fired_at n) agents)
  here true e any rest = omega (arith, length-append (fired_at n a) (flat_map (fired_at n) agents), some_fired n a.id a.receipts e)
  here false e any rest = omega (arith, length-append (fired_at n a) (flat_map (fired_at n) agents), rest any)

-- what is known of each agent
pub record IsSeen (m : Machine) (all : List Entry) (a : AgentView) : Type 0 where
  agent : IsAgent m a
  prefix : IsPrefix a.seen all

pub seen_each : (m : Machine) (all : List Entry) (agents : List AgentView) → IsGathered m all agents → AllByRecursion (IsSeen m all) agents
seen_each m all agents g = pair agents (recursion_from_All _ agents g.each) (recursion_from_All _ agents g.prefixes) where
  pair : (xs : List AgentView) → AllByRecursion (IsAgent m) xs → AllByRecursion (λ a. IsPrefix a.seen all) xs → AllByRecursion (IsSeen m all) xs
  pair [] p q = tt
  pair (a ∷ xs) p q = (record { agent = p.0; prefix = q.0 }, pair xs p.1 q.1)

-- an event that fired at n has the row's entry at n
fired_entry : (m : Machine) (all : List Entry) (n : ℕ) (e : Event) → IsAt m all n e → is_some (move_of e) ≡ true → (x : Entry) × (slice_get all n ≡ Some x) × (e.agent ≡ x.agent) × (move_of e ≡ Some x.instrs)
fired_entry m all n e at fired = here (move_of e) refl fired where
  here : (o : Option Move) → move_of e ≡ o → is_some o ≡ true → (x : Entry) × (slice_get all n ≡ Some x) × (e.agent ≡ x.agent) × (move_of e ≡ Some x.instrs)
  here None is bad = absurd cc
  here (Some M) is ok = (record { agent = e.agent; instrs = M }, at.in_row M is, refl, is)

-- the events of one agent at n are none, or the agent is the one of the row's entry
fired_by : (m : Machine) (all : List Entry) (n : ℕ) (x : Entry) → slice_get all n ≡ Some x → (a : AgentView) → IsSeen m all a → (fired_at n a ≡ []) ⊎ (a.id ≡ x.agent)
fired_by m all n x is a s = here (fired_at n a) refl (fired_each m all n a s.agent s.prefix) where
  here : (es : List Event) → fired_at n a ≡ es → AllByRecursion (λ e. IsAt m all n e × (is_some (move_of e) ≡ true) × (e.agent ≡ a.id)) es → (fired_at n a ≡ []) ⊎ (a.id ≡ x.agent)
  here [] e each = inl e
  here (v ∷ es) e each =
      let entry = fired_entry m all n v each.0.0 each.0.1 in
      let same : Some x ≡ Some entry.0 = sym is ∙ entry.1 in
      let equal : x ≡ entry.0 = cc same in
      inr (sym each.0.2 ∙ entry.2 ∙ ap (λ (y : Entry). y.agent) (sym equal))

few_each : (m : Machine) (all : List Entry) (n : ℕ) (agents : List AgentView) → AllByRecursion (IsSeen m all) agents → AllByRecursion (λ a. length (fired_at n a) ≤ 1) agents
few_each m all n agents seen = Each-weaker (IsSeen m all) (λ a. length (fired_at n a) ≤ 1) (λ a s. omega (arith, one_fired n 0 a.receipts s.agent.in_order, length-map (filter (is_move_at n) a.receipts) (event_of a.id))) agents seen

-- the events that fired at n: the row's move there, or none past its end
pub fired_all : (m : Machine) (all : List Entry) (n : ℕ) (agents : List AgentView) → AllByRecursion (IsSeen m all) agents → AllByRecursion (λ e. IsAt m all n e × (is_some (move_of e) ≡ true)) (flat_map (fired_at n) agents)
fired_all m all n agents seen =
    Each-flat_map (λ e. IsAt m all n e × (is_some (move_of e) ≡ true)) (fired_at n) agents
    (Each-weaker (IsSeen m all) (λ a. AllByRecursion (λ e. IsAt m all n e × (is_some (move_of e) ≡ true)) (fired_at n a)) (λ a s. Each-weaker (λ e. IsAt m all n e × (is_some (move_of e) ≡ true) × (e.agent ≡ a.id)) (λ e. IsAt m all n e × (is_some (move_of e) ≡ true)) (λ e p. (p.0, p.1)) (fired_at n a) (fired_each m all n a s.agent s.prefix)) agents seen)

pub quiet_all : (m : Machine) (all : List Entry) (n : ℕ) (agents : List AgentView) → AllByRecursion (IsSeen m all) agents → AllByRecursion (λ e. IsAt m all n e × (move_of e ≡ None)) (flat_map (quiet_at n) agents)
quiet_all m all n agents seen =
    Each-flat_map (λ e. IsAt m all n e × (move_of e ≡ None)) (quiet_at n) agents
    (Each-weaker (IsSeen m all) (λ a. AllByRecursion (λ e. IsAt m all n e × (move_of e ≡ None)) (quiet_at n a)) (λ a s. quiet_each m all n a s.agent s.prefix) agents seen)

-- what a part of a round does after the first n moves
pub record IsPart (m : Machine) (all : List Entry) (before after : List Move) (h : List Event) : Type 0 where
  pub legal : IsLegalFrom m before h
  pub leaves : before ++ fired_moves h ≡ after

no_moves : (m : Machine) (all : List Entry) (n : ℕ) (h : List Event) → AllByRecursion (λ e. IsAt m all n e × (move_of e ≡ None)) h → fired_moves h ≡ []
no_moves m all n [] each = refl
no_moves m all n (e ∷ h) each = rw each.0.1 (no_moves m all n h each.1)

quiet_part : (m : Machine) (all : List Entry) (n : ℕ) (h : List Event) → AllByRecursion (λ e. IsAt m all n e × (move_of e ≡ None)) h → IsPart m all (take n (moves_seen all)) (take n (moves_seen all)) h
quiet_part m all n h each =
    let none = no_moves m all n h each in
    record {
      legal = legal_quiet m (take n (moves_seen all)) h (Each-weaker (λ e. IsAt m all n e × (move_of e ≡ None)) (λ e. e.answer ≡ reply_to m (take n (moves_seen all)) e.call) (λ e p. p.0.replied) h each) none;
      leaves = ap (λ r. take n (moves_seen all) ++ r) none ∙ append-nil (take n (moves_seen all));
    }

-- past the end of the row nothing fired
fired_past : (m : Machine) (all : List Entry) (n : ℕ) (h : List Event) → length all ≤ n → AllByRecursion (λ e. IsAt m all n e × (is_some (move_of e) ≡ true)) h → h ≡ []
fired_past m all n [] past each = refl
fired_past m all n (e ∷ h) past each = let entry = fired_entry m all n e each.0.0 each.0.1 in absurd (omega (arith, slice_get_within all n entry.0 entry.1))

fired_part : (m : Machine) (all : List Entry) (n : ℕ) (h : List Event) → length h ≡ 1 → AllByRecursion (λ e. IsAt m all n e × (is_some (move_of e) ≡ true)) h → IsPart m all (take n (moves_seen all)) (take (suc n) (moves_seen all)) h
fired_part m all n [] one each = absurd cc
fired_part m all n (e ∷ f ∷ h) one each = absurd (omega arith)
fired_part m all n (e ∷ []) one each =
    let entry = fired_entry m all n e each.0.0 each.0.1 in
    let mine : fired_moves (e ∷ []) ≡ entry.0.instrs ∷ [] = rw entry.3 refl in
    let move = λ (x : Entry). x.instrs in
    let here = slice_get-map move all n ∙ ap (option_map move) entry.1 in
    record {
      legal = (each.0.0.replied, tt);
      leaves = ap (λ r. take n (moves_seen all) ++ r) mine ∙ sym (take-slice_get (moves_seen all) n entry.0.instrs here);
    }

part-append : (m : Machine) (all : List Entry) (q r s : List Move) (g h : List Event) → IsPart m all q r g → IsPart m all r s h → IsPart m all q s (g ++ h)
part-append m all q r s g h first second = record {
  legal = legal-append m q g h first.legal (subst (λ w. IsLegalFrom m w h) (sym first.leaves) second.legal);
  leaves = ap (λ w. q ++ w) (fired_moves-append g h) ∙ sym (append_assoc q (fired_moves g) (fired_moves h)) ∙ ap (λ w. w ++ fired_moves h) first.leaves ∙ second.leaves;
}

get_at : (all : List Entry) (n : ℕ) → n < length all → (x : Entry) × (slice_get all n ≡ Some x)
get_at [] n lt = absurd (omega arith)
get_at (x ∷ all) zero lt = (x, refl)
get_at (x ∷ all) (suc n) lt = get_at all n (omega arith)

-- a round is legal after the first n moves of the row, and fires the next one
pub round_part : (m : Machine) (all : List Entry) (agents : List AgentView) (n : ℕ) → IsGathered m all agents → IsPart m all (take n (moves_seen all)) (take (suc n) (moves_seen all)) (round agents n)
round_part m all agents n g =
    let seen = seen_each m all agents g in
    part-append m all _ _ _ _ _ (quiet_part m all n (flat_map (quiet_at n) agents) (quiet_all m all n agents seen))
    (elim (cases_lt n (length all)) [ inl lt ↦ within lt seen | inr past ↦ beyond past seen ]) where
      within : n < length all → AllByRecursion (IsSeen m all) agents → IsPart m all (take n (moves_seen all)) (take (suc n) (moves_seen all)) (flat_map (fired_at n) agents)
      within lt seen =
          let x = get_at all n lt in
          let most = one_of (fired_at n) x.0.agent agents g.ids (few_each m all n agents seen) (Each-weaker (IsSeen m all) (λ a. (fired_at n a ≡ []) ⊎ (a.id ≡ x.0.agent)) (fired_by m all n x.0 x.1) agents seen) in
          let least = some_fired_of n agents (g.none_missing n lt) in
          fired_part m all n (flat_map (fired_at n) agents) (omega arith) (fired_all m all n agents seen)

      beyond : length all ≤ n → AllByRecursion (IsSeen m all) agents → IsPart m all (take n (moves_seen all)) (take (suc n) (moves_seen all)) (flat_map (fired_at n) agents)
      beyond past seen =
          let none = fired_past m all n (flat_map (fired_at n) agents) past (fired_all m all n agents seen) in
          let len : length (moves_seen all) ≤ n = omega (arith, length-map all (λ (x : Entry). x.instrs)) in
          rw none (record { legal = tt; leaves = append-nil (take n (moves_seen all)) ∙ (take_all n (moves_seen all) len ∙ sym (take_all (suc n) (moves_seen all) (omega arith))) })

pub rounds_part : (m : Machine) (all : List Entry) (agents : List AgentView) (count n : ℕ) → IsGathered m all agents → IsPart m all (take n (moves_seen all)) (take (n + count) (moves_seen all)) (rounds agents n count)
rounds_part m all agents zero n g = record { legal = tt; leaves = append-nil (take n (moves_seen all)) ∙ ap (λ k. take k (moves_seen all)) (omega arith) }
rounds_part m all agents (suc count) n g =
    part-append m all _ _ _ (round agents n) (rounds agents (n + 1) count) (round_part m all agents n g)
    (let more = rounds_part m all agents count (n + 1) g in
    let here : n + 1 ≡ suc n = omega arith in
    let there : n + 1 + count ≡ n + suc count = omega arith in
    subst (λ k. IsPart m all (take k (moves_seen all)) (take (n + suc count) (moves_seen all)) (rounds agents (n + 1) count)) here
    (subst (λ k. IsPart m all (take (n + 1) (moves_seen all)) (take k (moves_seen all)) (rounds agents (n + 1) count)) there more))
