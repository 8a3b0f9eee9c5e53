-- How many bytes the lines of a journal have, beside what is counted of them.
use Rattle.std.proofs.Common.{◌≡◌, ◌≤◌, ◌+◌, ◌∷◌, ◌++◌, [], ℕ, List, Bool, true, false, cond, map, length, ap, refl, subst, arith, codes, ltb-true, inl, inr, ◌⊎◌, Option, Some, None, Result, Ok, Err, length-append}
use Rattle.std.specs.Prelude.{max, nat_lt, ◌&&◌}
use Rattle.std.specs.List.{list_any}
use Rattle.std.specs.Ordering.{eq_by_cmp}
use Rattle.std.specs.FinMap as finite
use Rattle.std.proofs.lemmas.Bool.{false≢true, or_cases}
use Rattle.std.proofs.lemmas.Fmt.{length-decimal-le}
use Rattle.json.specs.Print.{escape_byte, quoted}
use Rattle.serde_json.specs.Data.{Data, Members, member, no_members, string}
use Rattle.serde_json.specs.Written.{compact_text, members_text}
use Rattle.asm_element.specs.Place.{Place, location_cmp, same_location}
use Rattle.asm_element.specs.Tests.{both}
use Rattle.asm_element.specs.declared.value.Value.{Value}
use Rattle.asm_row.specs.Limits.{capacity_limit}
use Rattle.asm_update.specs.Fire.{Old, fire}
use Rattle.asm_update.specs.Move.{Move}
use Rattle.asm_update.specs.State.{State}
use Rattle.asm_update.specs.declared.action.Instruction.{Instruction}
use Rattle.asm_update.specs.declared.clash.Cause.{Cause}
use Rattle.asm_update.specs.declared.clash.Cause.TheVariants as cause
use Rattle.asm_update.specs.declared.clash.Clash.{Clash}
use Rattle.asm_update.proofs.FireLemmas.{fired_clash}
use Rattle.asm_state.specs.FollowsFrom.{is_stale}
use Rattle.asm_state.specs.LeastNamed.{IsLeastNamed}
use Rattle.asm_state.specs.Verdict.{least_stale}
use Rattle.asm_state.specs.declared.named.Named.{Named}
use Rattle.asm_state.proofs.LeastFound.{finds_least}
use Rattle.asm_storage.specs.Limits.{agents_limit}
use Rattle.asm_storage.specs.Machine.{Machine, fire_reply, firing_reply, machine_state}
use Rattle.asm_storage.specs.declared.call.Call.TheVariants as call
use Rattle.asm_storage.specs.declared.call.Reply.TheVariants as reply
use Rattle.asm_storage.specs.declared.call.Answer.TheVariants as answer
use Rattle.asm_journal.specs.Element.{location_json_of}
use Rattle.asm_journal.specs.Event.{answer_json_of, call_json_of, clash_json_of, event_object, named_json_of, reply_json_of, word_of_cause}
use Rattle.asm_journal.specs.Instruction.{instruction_json_of}
use Rattle.asm_journal.specs.Shape.{list_of, number_json_of, one_of, three_of, two_of}
use Rattle.asm_journal.specs.Text.{header_with, state_json_of}
use Rattle.asm_journal.specs.Value.{pair_json_of, value_json_of}
use Rattle.asm_slots.specs.FittingLines.{FiresFit, ReadsFit, StatesFit}
use Rattle.asm_slots.specs.LongLines.{longest, spelled, spelled_list, spelled_values}
use Rattle.asm_slots.proofs.LineRooms.{list_short, pair_is}

-- ---- objects

member_first : (k : List ℕ) (d : Data) (ms : Members) →
    length (members_text false (member k d ms)) ≡ length (quoted k) + spelled d + length (members_text true ms) + 1
member_first k d ms = omega (arith, length-append (quoted k) (58 ∷ (compact_text d ++ members_text true ms)), length-append (compact_text d) (members_text true ms))

member_after : (k : List ℕ) (d : Data) (ms : Members) →
    length (members_text true (member k d ms)) ≡ length (quoted k) + spelled d + length (members_text true ms) + 2
member_after k d ms = omega (arith, member_first k d ms)

one_is : (k : List ℕ) (d : Data) → spelled (one_of k d) ≡ length (quoted k) + spelled d + 3
one_is k d = omega (arith, member_first k d no_members)

two_is : (k l : List ℕ) (a b : Data) → spelled (two_of k a l b) ≡ length (quoted k) + length (quoted l) + spelled a + spelled b + 5
two_is k l a b = omega (arith, member_first k a (member l b no_members), member_after l b no_members)

three_is : (k l m : List ℕ) (a b c : Data) →
    spelled (three_of k a l b m c) ≡ length (quoted k) + length (quoted l) + length (quoted m) + spelled a + spelled b + spelled c + 7
three_is k l m a b c =
    omega (arith, member_first k a (member l b (member m c no_members)), member_after l b (member m c no_members), member_after m c no_members)

agent_short : (n : ℕ) → n ≤ agents_limit → spelled (number_json_of n) ≤ 3
agent_short n h = length-decimal-le 3 n (omega arith) (omega (arith, h)) (omega (arith, h))

moves_short : (n : ℕ) → n ≤ capacity_limit → spelled (number_json_of n) ≤ 7
moves_short n h = length-decimal-le 7 n (omega arith) (omega (arith, h)) (omega (arith, h))

-- the keys of an event, with their quotes
event_keys : (length (quoted (codes "agent")) ≡ 7) × (length (quoted (codes "call")) ≡ 6) × (length (quoted (codes "reply")) ≡ 7)
unfolding escape_byte
event_keys = (refl, refl, refl)

event_is : (agent call reply : Data) → spelled (event_object agent call reply) ≡ spelled agent + spelled call + spelled reply + 27
event_is agent call reply = omega (arith, three_is (codes "agent") (codes "call") (codes "reply") agent call reply, event_keys.0, event_keys.1, event_keys.2)

-- ---- fires

fire_keys : (length (quoted (codes "fire")) ≡ 6) × (length (quoted (codes "reads")) ≡ 7)
unfolding escape_byte
fire_keys = (refl, refl)

fire_short : (reads : List Named) (M : Move) →
    spelled (call_json_of (call.Fire reads M)) ≤ spelled_list (map instruction_json_of M) + spelled_list (map named_json_of reads) + 22
fire_short reads M =
    let instrs = map instruction_json_of M in
    let named = map named_json_of reads in
    omega (arith, two_is (codes "fire") (codes "reads") (list_of instrs) (list_of named), fire_keys.0, fire_keys.1, list_short instrs, list_short named)

reply_keys : (length (quoted (codes "fired")) ≡ 7) × (length (quoted (codes "stale")) ≡ 7) × (length (quoted (codes "clash")) ≡ 7) × (length (quoted (codes "full")) ≡ 6)
unfolding escape_byte
reply_keys = (refl, refl, refl, refl)

cause_short : (c : Cause) → length (quoted (word_of_cause c)) ≤ 9
unfolding escape_byte
cause_short cause.Two = omega arith
cause_short cause.Mixed = omega arith
cause_short cause.Kind = omega arith
cause_short cause.Both = omega arith
cause_short cause.Against = omega arith
cause_short cause.Short = omega arith
cause_short cause.Large = omega arith

fired_short : (k : ℕ) → k ≤ capacity_limit → spelled (reply_json_of (reply.Fired k)) ≤ 17
fired_short k small =
    omega (arith, one_is (codes "fired") (number_json_of k), reply_keys.0, moves_short k small)

stale_is : (l : Place) → spelled (reply_json_of (reply.Stale l)) ≡ spelled (location_json_of l) + 10
stale_is l = omega (arith, one_is (codes "stale") (location_json_of l), reply_keys.1)

clash_short : (c : Clash) → spelled (reply_json_of (reply.Clash c)) ≤ spelled (location_json_of c.at) + 22
clash_short c =
    omega (arith, one_is (codes "clash") (clash_json_of c), pair_is (location_json_of c.at) (string (word_of_cause c.cause)), cause_short c.cause, reply_keys.2)

-- a location at which one of the items is has no more bytes than the longest of theirs
one_of_longest : {X : Type 0} (at : X → Place) (test : X → Bool) (l : Place) → ((x : X) → test x ≡ true → at x ≡ l) → (xs : List X) →
    list_any test xs ≡ true → spelled (location_json_of l) ≤ longest (map (λ x. location_json_of (at x)) xs)
one_of_longest at test l same [] found = absurd (false≢true found)
one_of_longest at test l same (x ∷ xs) found = by_cases (or_cases (test x) (list_any test xs) found) (one_of_longest at test l same xs) where
  by_cases : (test x ≡ true) ⊎ (list_any test xs ≡ true) →
      (list_any test xs ≡ true → spelled (location_json_of l) ≤ longest (map (λ x. location_json_of (at x)) xs)) →
      spelled (location_json_of l) ≤ max (spelled (location_json_of (at x))) (longest (map (λ x. location_json_of (at x)) xs))
  by_cases (inl here) others = omega (arith, ap (λ (p : Place). spelled (location_json_of p)) (same x here))
  by_cases (inr there) others = omega (arith, others there)

module _ (m : Machine) (q : List Move) (reads : List Named) (M : Move) where
  abbrev of_instrs : ℕ
  of_instrs = longest (map (λ (i : Instruction). location_json_of i.at) M)

  abbrev of_reads : ℕ
  of_reads = longest (map (λ (r : Named). location_json_of r.at) reads)

  stale_within : (l : Place) → least_stale m.part m.init q reads ≡ Some l → spelled (location_json_of l) ≤ of_reads
  stale_within l is =
      let stale = is_stale m.part m.init q in
      let least = subst (IsLeastNamed stale reads) is (finds_least stale reads) in
      one_of_longest (λ (r : Named). r.at) (λ (r : Named). eq_by_cmp location_cmp r.at l && stale r.at r.number) l
      (λ r h. same_location r.at l (both (eq_by_cmp location_cmp r.at l) (stale r.at r.number) h).0) reads least.passes

  clash_within : (c : Clash) → fire m.part (machine_state m q) M ≡ Err c → spelled (location_json_of c.at) ≤ of_instrs
  clash_within c is =
      one_of_longest (λ (i : Instruction). i.at) (λ (i : Instruction). eq_by_cmp location_cmp i.at c.at) c.at
      (λ i h. same_location i.at c.at h) M (fired_clash m.part (machine_state m q) M c is).written

  reply_short : m.capacity ≤ capacity_limit → spelled (reply_json_of (fire_reply m q M (least_stale m.part m.init q reads))) ≤ max of_instrs of_reads + 22
  reply_short small = by_stale (least_stale m.part m.init q reads) refl where
    by_room : (b : Bool) → nat_lt (length q) m.capacity ≡ b → spelled (reply_json_of (cond b (reply.Fired (length q + 1)) reply.Full)) ≤ max of_instrs of_reads + 22
    by_room true is = omega (arith, fired_short (length q + 1) (omega (arith, small, ltb-true (length q) m.capacity is)))
    by_room false is = omega (arith, reply_keys.3)

    by_fire : (r : Result State Clash) → fire m.part (machine_state m q) M ≡ r → spelled (reply_json_of (firing_reply m q r)) ≤ max of_instrs of_reads + 22
    by_fire (Ok B) is = by_room (nat_lt (length q) m.capacity) refl
    by_fire (Err c) is = omega (arith, clash_short c, clash_within c is)

    by_stale : (o : Option Place) → least_stale m.part m.init q reads ≡ o → spelled (reply_json_of (fire_reply m q M o)) ≤ max of_instrs of_reads + 22
    by_stale (Some l) is = omega (arith, stale_is l, stale_within l is)
    by_stale None is = by_fire (fire m.part (machine_state m q) M) refl

-- 74 bytes are enough beside what is counted
pub fires_fit : FiresFit
fires_fit m q agent reads M small few short =
    let reply = reply_json_of (fire_reply m q M (least_stale m.part m.init q reads)) in
    omega (arith, event_is (number_json_of agent) (call_json_of (call.Fire reads M)) reply, agent_short agent (omega (arith, few)), fire_short reads M, reply_short m q reads M small, short)

-- ---- reads

read_keys : (length (quoted (codes "read")) ≡ 6) × (length (quoted (codes "number")) ≡ 8) × (length (quoted (codes "values")) ≡ 8)
unfolding escape_byte
read_keys = (refl, refl, refl)

read_short : (locations : List Place) → spelled (call_json_of (call.Read locations)) ≤ spelled_list (map location_json_of locations) + 11
read_short locations =
    let ds = map location_json_of locations in omega (arith, one_is (codes "read") (list_of ds), read_keys.0, list_short ds)

values_short : (number : ℕ) (values : List Value) → number ≤ capacity_limit →
    spelled (answer_json_of (answer.Read number values)) ≤ spelled_list (map value_json_of values) + 30
values_short number values small =
    let ds = map value_json_of values in
    omega (arith, two_is (codes "number") (codes "values") (number_json_of number) (list_of ds), read_keys.1, read_keys.2, list_short ds, moves_short number small)

values_are : (seen : Old) (locations : List Place) →
    spelled_values seen locations ≡ spelled_list (map location_json_of locations) + spelled_list (map value_json_of (map seen locations))
values_are seen [] = refl
values_are seen (l ∷ ls) = omega (arith, values_are seen ls)

-- 71 are enough
pub reads_fit : ReadsFit
reads_fit seen agent number locations small few short =
    let asked = call_json_of (call.Read locations) in
    let reply = answer_json_of (answer.Read number (map seen locations)) in
    omega (arith, event_is (number_json_of agent) asked reply, agent_short agent (omega (arith, few)), read_short locations, values_short number (map seen locations) small, values_are seen locations, short)

-- ---- states

header_keys : (length (quoted (codes "agents")) ≡ 8) × (length (quoted (codes "capacity")) ≡ 10) × (length (quoted (codes "events")) ≡ 8) ×
    (length (quoted (codes "init")) ≡ 6) × (length (quoted (codes "version")) ≡ 9)
unfolding escape_byte
header_keys = (refl, refl, refl, refl, refl)

header_is : (agents capacity events init version : Data) →
    spelled (header_with agents capacity events init version) ≡ spelled agents + spelled capacity + spelled events + spelled init + spelled version + 52
header_is agents capacity events init version =
    let last = member (codes "version") version no_members in
    let inits = member (codes "init") init last in
    let counts = member (codes "events") events inits in
    let room = member (codes "capacity") capacity counts in
    omega (arith, member_first (codes "agents") agents room, member_after (codes "capacity") capacity counts, member_after (codes "events") events inits, member_after (codes "init") init last, member_after (codes "version") version no_members, header_keys.0, header_keys.1, header_keys.2, header_keys.3, header_keys.4)

-- 75 are enough
pub states_fit : StatesFit
states_fit h fits short =
    let events = number_json_of (length h.events) in
    let pairs = map pair_json_of (finite.entries h.init) in
    let counted = length-decimal-le 10 (length h.events) (omega arith) (omega (arith, fits.few)) (omega (arith, fits.few)) in
    let version = length-decimal-le 1 2 (omega arith) (omega arith) (omega arith) in
    omega (arith, header_is (number_json_of h.agents) (number_json_of h.capacity) events (state_json_of h.init) (number_json_of 2), agent_short h.agents fits.agents, moves_short h.capacity fits.capacity, counted, list_short pairs, version, short)
