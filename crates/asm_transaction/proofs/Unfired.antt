-- A commit that doesn't fire: its moves clash, or the row is full.
use Rattle.std.proofs.Common.{◌≡◌, ◌≤◌, ◌+◌, ◌∙◌, ℕ, Bool, true, false, cond, nat_lt, List, [], ◌∷◌, All, Ok, Err, Result, Option, None, Some, length, map, get_or, arith, ap, refl, subst, sym}
use Rattle.std.specs.List.{AllByRecursion}
use Rattle.std.proofs.lemmas.Bool.Decides.{nat_tests}
use Rattle.std.proofs.lemmas.List.{length-map}
use Rattle.std.proofs.lemmas.List.Elements.{All-contains, All-from_recursion, All-map, Contains-append_right}
use Rattle.asm_element.specs.Place.{Place}
use Rattle.asm_update.specs.Aggregator.{AggregatorLaws, Meaning}
use Rattle.asm_update.specs.Fire.{fire}
use Rattle.asm_update.specs.Move.{Move}
use Rattle.asm_update.specs.State.{State, IsProper, val}
use Rattle.asm_update.specs.declared.clash.Clash as clash
use Rattle.asm_state.specs.FollowsFrom.{is_stale}
use Rattle.asm_state.specs.Verdict.{least_stale}
use Rattle.asm_state.specs.declared.named.Named.{Named}
use Rattle.asm_storage.proofs.AgentInvariant.{take-moves_seen, take_seen}
use Rattle.asm_storage.proofs.Lists.{length-prefix}
use Rattle.asm_storage.proofs.Run.{fresh_each, same_value_from}
use Rattle.asm_storage.specs.Agents.{moves_seen}
use Rattle.asm_storage.specs.Calls.{IsReplied}
use Rattle.asm_storage.specs.Machine.{Machine, fire_reply, fired_or_full, firing_reply, machine_state, reply_to}
use Rattle.asm_storage.specs.Scans.{with_found}
use Rattle.asm_storage.specs.Storage.{AgentAt, StorageView, machine_of}
use Rattle.asm_storage.specs.declared.call.Answer.TheVariants as answer
use Rattle.asm_storage.specs.declared.call.Call.TheVariants as call
use Rattle.asm_storage.specs.declared.call.Reply.TheVariants.{Clash, Fired, Full}
use Rattle.asm_storage.specs.declared.entry.Entry.{Entry}
use Rattle.asm_step.proofs.Built.{dependencies_those}
use Rattle.asm_step.specs.Dependencies.{AgreesAtDependencies, left_by}
use Rattle.asm_step.specs.InTurn.{fire_all}
use Rattle.asm_step.specs.Layers.{dependencies_of}
use Rattle.asm_transaction.specs.Commit.{HasClashed, HasFoundFull, IsMoveOf, NamesAll}
use Rattle.asm_transaction.specs.Reading.{IsOf, state_at}
use Rattle.asm_transaction.specs.View.{TransactionView, moves_of, pushed}

-- ---- a clash

no_clash : (capacity number : ℕ) (c : clash.Clash) → Clash c ≡ fired_or_full capacity number → ⊥
no_clash capacity number c = by_room (nat_lt number capacity) where
  by_room : (b : Bool) → Clash c ≡ cond b (Fired (number + 1)) Full → ⊥
  by_room true is = cc is
  by_room false is = cc is

nothing_left : (m : Machine) (q : List Move) (c : clash.Clash) (r : Result State clash.Clash) → Clash c ≡ firing_reply m q r → left_by r ≡ None
nothing_left m q c (Ok C) is = absurd (no_clash m.capacity (length q) c is)
nothing_left m q c (Err d) is = refl

clash_at : (m : Machine) (q : List Move) (M : Move) (c : clash.Clash) (o : Option Place) → Clash c ≡ fire_reply m q M o →
    (o ≡ None) × (left_by (fire m.part (machine_state m q) M) ≡ None)
clash_at m q M c (Some j) is = absurd (cc is)
clash_at m q M c None is = (refl, nothing_left m q c (fire m.part (machine_state m q) M) is)

-- the reply that a fire clashes: no location that it names is stale, and its move leaves nothing
clash_reply : (m : Machine) (q : List Move) (reads : List Named) (M : Move) (c : clash.Clash) →
    answer.Fire (Clash c) ≡ reply_to m q (call.Fire reads M) →
    (least_stale m.part m.init q reads ≡ None) × (left_by (fire m.part (machine_state m q) M) ≡ None)
clash_reply m q reads M c h =
    let r : Clash c ≡ fire_reply m q M (least_stale m.part m.init q reads) = cc h in
    clash_at m q M c (least_stale m.part m.init q reads) r

first_ones : (P : Named → Type 0) (reads : List Named) (found : Option Named) → AllByRecursion P (with_found reads found) →
    AllByRecursion P reads
first_ones P reads None all = all
first_ones P [] (Some r) all = tt
first_ones P (x ∷ xs) (Some r) all = (all.0, first_ones P xs (Some r) all.1)

module _ {A : Type 0} (meaning : A → Meaning) (a new : AgentAt A) (t : TransactionView) (reads : List Named) (M : Move)
    (c : clash.Clash) (found : Option Named) (laws : AggregatorLaws (meaning a.storage.agg)) (names : NamesAll t reads)
    (stands : IsMoveOf t.layers M) (own : IsOf meaning a t) (answered : IsReplied meaning a new (with_found reads found) M (Clash c)) where
  abbrev m : Machine
  m = machine_of meaning a.storage

  abbrev q : List Move
  q = moves_seen new.account.seen

  -- the last state that the agent has seen, and the one at the transaction's version
  abbrev B : State
  B = machine_state m q

  abbrev S : State
  S = state_at meaning a t.number

  reply : (least_stale m.part m.init q (with_found reads found) ≡ None) × (left_by (fire m.part B M) ≡ None)
  reply = clash_reply m q (with_found reads found) M c answered.reply

  fresh : AllByRecursion (λ (r : Named). is_stale m.part m.init q r.at r.number ≡ false) reads
  fresh =
      first_ones (λ (r : Named). is_stale m.part m.init q r.at r.number ≡ false) reads found
      (fresh_each (λ (r : Named). is_stale m.part m.init q r.at r.number) (with_found reads found) reply.0)

  reached : t.number ≤ length q
  reached =
      omega (
        arith,
        own.reached,
        length-prefix a.account.seen new.account.seen answered.begins,
        length-map new.account.seen (λ (x : Entry). x.instrs),
      )

  same_there : (l : Place) → is_stale m.part m.init q l t.number ≡ false → val B l ≡ val S l
  same_there l unwritten =
      sym (same_value_from m m.init q l t.number unwritten reached)
      ∙ ap (λ (x : List Move). val (machine_state m x) l)
      (sym (take-moves_seen t.number a.account.seen new.account.seen answered.begins own.reached))

  each_same : All (λ (r : Named). val B r.at ≡ val S r.at) reads
  each_same i d lt =
      same_there (get_or reads i d).at
      (subst (λ (n : ℕ). is_stale m.part m.init q (get_or reads i d).at n ≡ false) (names.numbers i d lt)
      (All-from_recursion (λ (r : Named). is_stale m.part m.init q r.at r.number ≡ false) reads fresh i d lt))

  agrees : AgreesAtDependencies B (val S) (moves_of t)
  agrees l dependent =
      All-contains (λ (k : Place). val B k ≡ val S k) (map (λ (r : Named). r.at) reads) l
      (All-map (λ (k : Place). val B k ≡ val S k) (λ (r : Named). r.at) reads each_same)
      ((names.locations.same l).1 (Contains-append_right t.tracked (dependencies_of t.layers) l
      (((dependencies_those m.part (val S) t.layers (pushed t) own.step).same l).1 dependent)))

  left : IsProper B → left_by (fire_all m.part (Ok B) (moves_of t)) ≡ None
  left proper = sym (stands (meaning a.storage.agg) (val S) (pushed t) B laws own.step proper agrees) ∙ reply.1

  same_storage : new.storage ≡ a.storage
  same_storage = ap (λ (x : AgentAt A). x.storage) answered.agent

  last_is : state_at meaning new (length new.account.seen) ≡ B
  last_is =
      ap (machine_state (machine_of meaning new.storage)) (take_seen new.account.seen)
      ∙ ap (λ (s : StorageView A). machine_state (machine_of meaning s) q) same_storage

  pub has_clashed : HasClashed meaning new t
  has_clashed proper =
      subst (λ (s : StorageView A). left_by (fire_all (meaning s.agg).part (Ok (state_at meaning new (length new.account.seen))) (moves_of t)) ≡ None)
      (sym same_storage)
      (subst (λ (Y : State). left_by (fire_all m.part (Ok Y) (moves_of t)) ≡ None) (sym last_is) (left (subst IsProper last_is proper)))

-- ---- a full row

no_room : (capacity number : ℕ) → Full ≡ fired_or_full capacity number → capacity ≤ number
no_room capacity number = by_room (nat_lt number capacity) refl where
  by_room : (b : Bool) → nat_lt number capacity ≡ b → Full ≡ cond b (Fired (number + 1)) Full → capacity ≤ number
  by_room true e is = absurd (cc is)
  by_room false e is = grind (arith, nat_tests)

full_after : (m : Machine) (q : List Move) (r : Result State clash.Clash) → Full ≡ firing_reply m q r → m.capacity ≤ length q
full_after m q (Ok C) is = no_room m.capacity (length q) is
full_after m q (Err d) is = absurd (cc is)

full_at : (m : Machine) (q : List Move) (M : Move) (o : Option Place) → Full ≡ fire_reply m q M o → m.capacity ≤ length q
full_at m q M (Some j) is = absurd (cc is)
full_at m q M None is = full_after m q (fire m.part (machine_state m q) M) is

-- the reply that there is no room: there are as many moves as the capacity
full_reply : (m : Machine) (q : List Move) (reads : List Named) (M : Move) → answer.Fire Full ≡ reply_to m q (call.Fire reads M) →
    m.capacity ≤ length q
full_reply m q reads M h =
    let r : Full ≡ fire_reply m q M (least_stale m.part m.init q reads) = cc h in
    full_at m q M (least_stale m.part m.init q reads) r

pub has_found_full : {A : Type 0} (meaning : A → Meaning) (a new : AgentAt A) (reads : List Named) (M : Move) (found : Option Named) →
    IsReplied meaning a new (with_found reads found) M Full → HasFoundFull new
has_found_full {A} meaning a new reads M found answered =
    subst (λ (s : StorageView A). length s.row ≤ length new.account.seen) (sym (ap (λ (x : AgentAt A). x.storage) answered.agent))
    (omega (
      arith,
      full_reply (machine_of meaning a.storage) (moves_seen new.account.seen) (with_found reads found) M answered.reply,
      length-map new.account.seen (λ (x : Entry). x.instrs),
    ))
