-- What a read and a fire of a try add to an agent's receipts, and what they tell.
use Rattle.std.proofs.Common.{◌≡◌, ℕ, zero, suc, ◌+◌, ◌≤◌, Bool, true, false, cond, nat_lt, List}
use Rattle.std.proofs.Common.{[], ◌∷◌, ◌++◌, length, take, map, All, Option, Some, None, Result, Ok, Err}
use Rattle.std.proofs.Common.{Contains, append_assoc, append-nil, arith, refl, sym, ap, subst, ◌∙◌}
use Rattle.std.specs.List.{AllByRecursion}
use Rattle.std.proofs.lemmas.List.{take_at, map-append}
use Rattle.std.proofs.lemmas.List.Elements.{All-nil, All-cons}
use Rattle.std.proofs.lemmas.Bool.{ltb-false}
use mathlib.Core.List.{IsPrefix}
use Rattle.asm_element.specs.Place.{Place}
use Rattle.asm_element.specs.declared.value.Value.{Value}
use Rattle.asm_update.specs.Aggregator.{Meaning}
use Rattle.asm_update.specs.Fire.{fire}
use Rattle.asm_update.specs.Move.{Move}
use Rattle.asm_update.specs.State.{State, val}
use Rattle.asm_update.specs.declared.clash.Clash.{Clash}
use Rattle.asm_state.specs.FollowsFrom.{is_stale}
use Rattle.asm_state.specs.Verdict.{least_stale}
use Rattle.asm_state.specs.declared.named.Named.{Named}
use Rattle.asm_storage.specs.Agents.{event_of, moves_seen}
use Rattle.asm_storage.specs.Calls.{ReadingView, read_answer, receipt_at}
use Rattle.asm_storage.specs.Machine.{Machine, machine_state, firing_reply, fire_reply, reply_to}
use Rattle.asm_storage.specs.Storage.{AgentAt}
use Rattle.asm_storage.specs.declared.call.Answer.TheVariants as answer
use Rattle.asm_storage.specs.declared.call.Call.TheVariants as call
use Rattle.asm_storage.specs.declared.call.Reply.{Reply}
use Rattle.asm_storage.specs.declared.call.Reply.TheVariants as reply
use Rattle.asm_storage.specs.declared.entry.Entry.{Entry}
use Rattle.asm_storage.specs.declared.receipt.Receipt.{Receipt}
use Rattle.asm_storage.proofs.Run.{same_value_from, fresh_each}
use Rattle.asm_play.specs.StepEvents.{IsIdle, name_at, stale_fires, IsReading}
use Rattle.asm_play.specs.Trying.{names_of, HasRead, Adds}
use Rattle.asm_row.proofs.Prefixes.{IsPrefix-trans}
use Rattle.asm_play.proofs.Counts.{one_reading}

pub prefix_mapped : {X Y : Type 0} (f : X → Y) (xs ys : List X) → IsPrefix xs ys → IsPrefix (map f xs) (map f ys)
prefix_mapped f xs ys p = (map f p.0, sym (map-append f xs p.0) ∙ ap (map f) p.1)

-- the first of a longer list
pub taken_prefix : {X : Type 0} (xs ys : List X) (n : ℕ) → n ≡ length xs → IsPrefix xs ys → take n ys ≡ xs
taken_prefix xs ys n is p = ap (take n) (sym p.1) ∙ take_at xs p.0 n (sym is)

-- what is added in turn
pub adds_then : {A : Type 0} (old mid new : AgentAt A) (xs ys : List Receipt) → Adds old mid xs → Adds mid new ys →
    Adds old new (xs ++ ys)
adds_then old mid new xs ys first second = record {
  same = record { storage = second.same.storage ∙ first.same.storage; id = second.same.id ∙ first.same.id };
  begins = IsPrefix-trans old.account.seen mid.account.seen new.account.seen first.begins second.begins;
  added = second.added ∙ ap (λ rs. rs ++ ys) first.added ∙ append_assoc old.account.receipts xs ys;
}

pub adds_none : {A : Type 0} (old : AgentAt A) → Adds old old []
adds_none old = record {
  same = record { storage = refl; id = refl };
  begins = ([], append-nil old.account.seen);
  added = sym (append-nil old.account.receipts);
}

-- a receipt of a read is idle, and so is one of a stale fire
pub idle_read : (id stood n : ℕ) (places : List Place) (vs : List Value) →
    IsIdle (event_of id (receipt_at stood (call.Read places) (answer.Read n vs)))
idle_read id stood n places vs = tt

pub idle_stale : (id stood : ℕ) (reads : List Named) (M : Move) (l : Place) →
    IsIdle (event_of id (receipt_at stood (call.Fire reads M) (answer.Fire (reply.Stale l))))
idle_stale id stood reads M l = tt

-- where no named location is stale, each keeps its value
pub each_named : (test : Named → Bool) (n : ℕ) (ps : List Place) →
    AllByRecursion (λ r. test r ≡ false) (map (name_at n) ps) → (l : Place) → Contains ps l → test (name_at n l) ≡ false
each_named test n [] all l there = absurd (omega (arith, there.1))
each_named test n (p ∷ ps) all l (zero, lt, is) = subst (λ k. test (name_at n k) ≡ false) is all.0
each_named test n (p ∷ ps) all l (suc k, lt, is) = each_named test n ps all.1 l (k, omega (arith, lt), is)

pub fresh_value : (m : Machine) (q : List Move) (r : ReadingView) →
    least_stale m.part m.init q (names_of (Some r)) ≡ None → r.number ≤ length q →
    (l : Place) → Contains r.places l → val (machine_state m (take r.number q)) l ≡ val (machine_state m q) l
fresh_value m q r none le l there =
    let test : Named → Bool = λ n. is_stale m.part m.init q n.at n.number in
    same_value_from m m.init q l r.number
    (each_named test r.number r.places (fresh_each test (names_of (Some r)) none) l there) le

pub clashed_by : (m : Machine) (q : List Move) (reads : List Named) (M : Move) (c : Clash) →
    answer.Fire (reply.Clash c) ≡ reply_to m q (call.Fire reads M) →
    (least_stale m.part m.init q reads ≡ None) × (fire m.part (machine_state m q) M ≡ Err c)
clashed_by m q reads M c is = by_stale (least_stale m.part m.init q reads) refl reported where
  reported : reply.Clash c ≡ fire_reply m q M (least_stale m.part m.init q reads)
  reported = cc is

  not_taken : (b : Bool) → reply.Clash c ≡ cond b (reply.Fired (length q + 1)) reply.Full → ⊥
  not_taken true is = cc is
  not_taken false is = cc is

  by_answer : (o : Result State Clash) → fire m.part (machine_state m q) M ≡ o → reply.Clash c ≡ firing_reply m q o →
      fire m.part (machine_state m q) M ≡ Err c
  by_answer (Ok B) e is = absurd (not_taken (nat_lt (length q) m.capacity) is)
  by_answer (Err d) e is = let same : c ≡ d = cc is in e ∙ ap Err (sym same)

  by_stale : (o : Option Place) → least_stale m.part m.init q reads ≡ o → reply.Clash c ≡ fire_reply m q M o →
      (least_stale m.part m.init q reads ≡ None) × (fire m.part (machine_state m q) M ≡ Err c)
  by_stale (Some l) e is = absurd (cc is)
  by_stale None e is = (e, by_answer (fire m.part (machine_state m q) M) refl is)

-- what a fire that found no room tells
pub record FoundNoRoom (m : Machine) (q : List Move) (reads : List Named) (M : Move) : Type 0 where
  pub many : m.capacity ≤ length q
  pub state : State
  pub fires : fire m.part (machine_state m q) M ≡ Ok state
  pub fresh : least_stale m.part m.init q reads ≡ None

pub no_room_by : (m : Machine) (q : List Move) (reads : List Named) (M : Move) →
    answer.Fire reply.Full ≡ reply_to m q (call.Fire reads M) → FoundNoRoom m q reads M
no_room_by m q reads M is = by_stale (least_stale m.part m.init q reads) refl reported where
  reported : reply.Full ≡ fire_reply m q M (least_stale m.part m.init q reads)
  reported = cc is

  not_taken : (b : Bool) → nat_lt (length q) m.capacity ≡ b →
      reply.Full ≡ cond b (reply.Fired (length q + 1)) reply.Full → m.capacity ≤ length q
  not_taken true e is = absurd (cc is)
  not_taken false e is = ltb-false (length q) m.capacity e

  by_answer : (o : Result State Clash) → fire m.part (machine_state m q) M ≡ o → reply.Full ≡ firing_reply m q o →
      least_stale m.part m.init q reads ≡ None → FoundNoRoom m q reads M
  by_answer (Ok B) e is none = record {
    many = not_taken (nat_lt (length q) m.capacity) refl is;
    state = B;
    fires = e;
    fresh = none;
  }
  by_answer (Err d) e is none = absurd (cc is)

  by_stale : (o : Option Place) → least_stale m.part m.init q reads ≡ o → reply.Full ≡ fire_reply m q M o →
      FoundNoRoom m q reads M
  by_stale (Some l) e is = absurd (cc is)
  by_stale None e is = by_answer (fire m.part (machine_state m q) M) refl is e

-- a fire that names nothing isn't stale
pub not_stale : (m : Machine) (q : List Move) (M : Move) (l : Place) →
    answer.Fire (reply.Stale l) ≡ reply_to m q (call.Fire [] M) → ⊥
not_stale m q M l is = by_answer (fire m.part (machine_state m q) M) reported where
  reported : reply.Stale l ≡ firing_reply m q (fire m.part (machine_state m q) M)
  reported = cc is

  not_taken : (b : Bool) → reply.Stale l ≡ cond b (reply.Fired (length q + 1)) reply.Full → ⊥
  not_taken true is = cc is
  not_taken false is = cc is

  by_answer : (o : Result State Clash) → reply.Stale l ≡ firing_reply m q o → ⊥
  by_answer (Ok B) is = not_taken (nat_lt (length q) m.capacity) is
  by_answer (Err d) is = cc is

-- an agent that read has a receipt more, where it read anything, and a fire that names what was read
pub record AddsRead {A : Type 0} (places : List Place) (o : Option ReadingView) (old mid : AgentAt A) : Type 0 where
  pub more : List Receipt
  pub adds : Adds old mid more
  pub idle : All IsIdle (map (event_of old.account.id) more)
  pub number : ℕ
  pub number_is : number ≡ length (moves_seen mid.account.seen)
  pub calls : IsReading places number (map (event_of old.account.id) more)
  pub names : names_of o ≡ map (name_at number) places
  pub fresh : stale_fires (map (event_of old.account.id) more) ≡ 0

pub read_adds : {A : Type 0} (meaning : A → Meaning) (old mid : AgentAt A) (places : List Place) (o : Option ReadingView) →
    HasRead meaning old mid places o → AddsRead places o old mid
read_adds {A = A} meaning old mid places None read = record {
  more = [];
  adds = subst (λ (a : AgentAt A). Adds old a []) (sym read.1) (adds_none old);
  idle = All-nil IsIdle;
  number = length (moves_seen mid.account.seen);
  number_is = refl;
  calls = subst (λ (ps : List Place). IsReading ps (length (moves_seen mid.account.seen)) []) (sym read.0) refl;
  names = ap (map (name_at (length (moves_seen mid.account.seen)))) (sym read.0);
  fresh = refl;
}
read_adds {A = A} meaning old mid places (Some r) read =
    let receipt = receipt_at (length mid.account.seen) (call.Read places) (read_answer r) in
    record {
      more = receipt ∷ [];
      adds = record {
        same = record {
          storage = ap (λ (a : AgentAt A). a.storage) read.1.agent;
          id = ap (λ (a : AgentAt A). a.account.id) read.1.agent;
        };
        begins = read.1.begins;
        added = ap (λ (a : AgentAt A). a.account.receipts) read.1.agent;
      };
      idle = All-cons IsIdle _ [] (idle_read old.account.id (length mid.account.seen) r.number places r.values)
          (All-nil IsIdle);
      number = r.number;
      number_is = cc read.1.reply;
      calls = one_reading places r.number r.values (event_of old.account.id receipt) read.0 refl refl;
      names = ap (map (name_at r.number)) read.1.locations;
      fresh = refl;
    }

-- and by a fire
pub fire_adds : {A : Type 0} (mid new : AgentAt A) (reads : List Named) (M : Move) (stood : ℕ) (r : Reply) (seen : List Entry) →
    new.storage ≡ mid.storage → new.account.id ≡ mid.account.id →
    new.account.receipts ≡ mid.account.receipts ++ receipt_at stood (call.Fire reads M) (answer.Fire r) ∷ [] →
    IsPrefix mid.account.seen seen → IsPrefix seen new.account.seen →
    Adds mid new (receipt_at stood (call.Fire reads M) (answer.Fire r) ∷ [])
fire_adds mid new reads M stood r seen storage id receipts before begins = record {
  same = record { storage = storage; id = id };
  begins = IsPrefix-trans mid.account.seen seen new.account.seen before begins;
  added = receipts;
}
