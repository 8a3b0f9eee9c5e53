-- One turn of a fire, and several: the state's verdict is the reply, what fired finds what it named as it was, where the
-- agent's state then stands, and how many offers were made.
use Rattle.std.proofs.Common.{◌≡◌, ◌+◌, ◌<◌, Bool, true, false, cond, List, length, nat_lt, Option, Some, None, Ok, Err, refl, ap, sym, ◌∙◌, subst, arith, ◌-◌, ℕ, ◌^◌, ◌≤◌, min, IfErr, zero, suc, [], ◌∷◌, ◌++◌, length-append, take, OnErr, IfSome}
use Rattle.std.proofs.Common.{IfNone}
use Rattle.std.specs.Prelude.{Result, IsOk, IfOk, MatchBool}
use Rattle.std.proofs.lemmas.List.{length-map, take_all, take-append-le}
use Rattle.std.proofs.lemmas.Bool.Decides.{nat_tests}
use Rattle.std.specs.declared.alloc.AllocError.{AllocError}
use Rattle.asm_update.specs.Move.{Move}
use Rattle.asm_update.specs.State.{State, Updates, val}
use Rattle.asm_update.specs.Fire.{Part, fire, aggregated, overwritten, state_of}
use Rattle.asm_update.specs.declared.clash.Clash.{Clash}
use Rattle.asm_state.specs.declared.named.Named.{Named}
use Rattle.asm_state.specs.Verdict.{least_stale}
use Rattle.asm_storage.specs.declared.call.Call.TheVariants as call
use Rattle.asm_storage.specs.declared.call.Reply.{Reply}
use Rattle.asm_storage.specs.declared.call.Reply.TheVariants as reply
use Rattle.asm_storage.specs.declared.call.Answer.TheVariants as answer
use Rattle.asm_storage.specs.declared.entry.Entry.{Entry}
use Rattle.asm_storage.specs.Machine as machine
use Rattle.asm_storage.specs.Machine.{Machine, firing_reply, fire_reply, fired_or_full, reply_to}
use Rattle.asm_storage.specs.Agents.{moves_seen}
use Rattle.asm_storage.specs.Part.{IsReplyAt, IsJudged, agent_of, HasPolledRow, HasWon, HasLostAttempt, IsPartOf, IsTurn, offers_in, misses_in, IsAsked, IsEntryOf}
use Rattle.asm_update.specs.Aggregator.{Meaning}
use Rattle.asm_storage.specs.History.{IsCoherentAt, fired_move}
use Rattle.asm_storage.specs.Storage.{AgentAt, StorageView, machine_of, FollowsOn, last_poll, has_polled, has_seen, with_fired, with_receipt, IsReplyOf, Missed}
use Rattle.asm_storage.specs.Calls.{after_fire, judged_on, IsReplied, IsCoherentReply, IsVersionAfter, HasOffered, IsBusy, MadeOffers, receipt_at, after_answer, Ran}
use Rattle.asm_storage.proofs.Run.{coherent_at}
use Rattle.asm_storage.specs.declared.part.AgentPart.{AgentPart}
use Rattle.asm_storage.specs.declared.error.FireError.{FireError}
use Rattle.asm_storage.specs.declared.error.FireError.TheVariants as fire_error
use Rattle.asm_storage.specs.Limits.{offers_limit}
use mathlib.Core.List.{IsPrefix}
use Rattle.asm_storage.specs.declared.part.offering.Asked.{Asked}
use Rattle.asm_storage.specs.declared.receipt.Receipt.{Receipt}
use Rattle.asm_row.proofs.Prefixes.{IsPrefix-trans}
use Rattle.asm_storage.proofs.Lists.{length-prefix}

-- a move that has an update set fires
pub fires : (part : Part) (A : State) (M : Move) → IsOk (aggregated part (val A) M) → IsOk (fire part A M)
fires part A M ok = by_answer (aggregated part (val A) M) ok where
  by_answer : (r : Result Updates Clash) → IsOk r → IsOk (overwritten A r)
  by_answer (Ok U) h = refl
  by_answer (Err c) h = absurd (cc h)

-- what fires is answered by the room that the row has
pub full_or_none : (part : Part) (A : State) (q : List Move) (full : Bool) (reads : List Named) (M : Move)
    (o : Option Reply) → o ≡ cond full (Some reply.Full) None → least_stale part A q reads ≡ None →
    IsOk (fire part (state_of part A q) M) → IsReplyAt part A q full reads M o
full_or_none part A q full reads M o is none ok =
    subst (IsReplyAt part A q full reads M) (sym is) (by_room full) where
      by_room : (full : Bool) → IsReplyAt part A q full reads M (cond full (Some reply.Full) None)
      by_room true = (none, ok, refl)
      by_room false = (none, ok, refl)

pub clashes : (part : Part) (A : State) (M : Move) (c : Clash) → aggregated part (val A) M ≡ Err c → fire part A M ≡ Err c
clashes part A M c e = ap (overwritten A) e

count : (seen : List Entry) → length (moves_seen seen) ≡ length seen
count seen = length-map seen (λ (x : Entry). x.instrs)

taken : (m : Machine) (seen : List Entry) → length seen < m.capacity → fired_or_full m.capacity (length (moves_seen seen)) ≡ reply.Fired (length seen + 1)
taken m seen lt = ap (fired_or_full m.capacity) (count seen) ∙ (let b : nat_lt (length seen) m.capacity ≡ true = grind (arith, nat_tests) in ap (λ b. cond b (reply.Fired (length seen + 1)) reply.Full) b)

full_reply : (m : Machine) (seen : List Entry) → length seen ≡ m.capacity → fired_or_full m.capacity (length (moves_seen seen)) ≡ reply.Full
full_reply m seen e = ap (fired_or_full m.capacity) (count seen) ∙ (let b : nat_lt (length seen) m.capacity ≡ false = grind (arith, nat_tests) in ap (λ b. cond b (reply.Fired (length seen + 1)) reply.Full) b)

firing_ok : (m : Machine) (q : List Move) (r : Result State Clash) → IsOk r → firing_reply m q r ≡ fired_or_full m.capacity (length q)
firing_ok m q (Ok B) h = refl
firing_ok m q (Err c) h = absurd (cc h)

reply_none : (m : Machine) (seen : List Entry) (reads : List Named) (M : Move) (r : Reply) → least_stale m.part m.init (moves_seen seen) reads ≡ None → firing_reply m (moves_seen seen) (fire m.part (machine.machine_state m (moves_seen seen)) M) ≡ r → answer.Fire r ≡ reply_to m (moves_seen seen) (call.Fire reads M)
reply_none m seen reads M r none fired = ap answer.Fire (sym (ap (fire_reply m (moves_seen seen) M) none ∙ fired))

pub judged_reply : (m : Machine) (seen : List Entry) (reads : List Named) (M : Move) (full : Bool) (o : Option Reply) → MatchBool full (length seen ≡ m.capacity) (length seen < m.capacity) → IsReplyAt m.part m.init (moves_seen seen) full reads M o → IsJudged m seen reads M o
judged_reply m seen reads M full (Some (reply.Stale l)) room h = (ap (λ s. answer.Fire (fire_reply m (moves_seen seen) M s)) (sym h), refl)
judged_reply m seen reads M full (Some (reply.Clash c)) room h = (reply_none m seen reads M (reply.Clash c) h.0 (ap (firing_reply m (moves_seen seen)) h.1), refl)
judged_reply m seen reads M true (Some reply.Full) room h = (reply_none m seen reads M reply.Full h.0 (firing_ok m (moves_seen seen) _ h.1 ∙ full_reply m seen room), refl)
judged_reply m seen reads M false (Some reply.Full) room h = absurd cc
judged_reply m seen reads M full (Some (reply.Fired k)) room h = absurd h
judged_reply m seen reads M true None room h = absurd (cc h.2)
judged_reply m seen reads M false None room h = (reply_none m seen reads M (reply.Fired (length seen + 1)) h.0 (firing_ok m (moves_seen seen) _ h.1 ∙ taken m seen room), room)

pub judged_result : (m : Machine) (seen : List Entry) (reads : List Named) (M : Move) (full : Bool) (r : Result (Option Reply) AllocError) → MatchBool full (length seen ≡ m.capacity) (length seen < m.capacity) → IfOk r (IsReplyAt m.part m.init (moves_seen seen) full reads M) → IfOk r (IsJudged m seen reads M)
judged_result m seen reads M full (Ok o) room h = judged_reply m seen reads M full o room h
judged_result m seen reads M full (Err e) room h = tt

same_storage : {A : Type 0} (old new : AgentAt A) (reads : List Named) (M : Move) (r : Reply) → new ≡ after_fire old new reads M r → new.storage ≡ old.storage
same_storage {A} old new reads M (reply.Fired k) is = ap (λ (a : AgentAt A). a.storage) is
same_storage {A} old new reads M (reply.Stale l) is = ap (λ (a : AgentAt A). a.storage) is
same_storage {A} old new reads M (reply.Clash c) is = ap (λ (a : AgentAt A). a.storage) is
same_storage {A} old new reads M reply.Full is = ap (λ (a : AgentAt A). a.storage) is

pub answered_coherent : {A : Type 0} (meaning : A → Meaning) (old new : AgentAt A) (reads : List Named) (M : Move) (r : Reply) → IsReplied meaning old new reads M r → IsCoherentReply meaning new reads M r
answered_coherent {A} meaning old new reads M (reply.Fired k) is =
    let q = moves_seen (judged_on (reply.Fired k) new.account.seen) in
    subst (λ (s : StorageView A). IsCoherentAt (machine_of meaning s) q (call.Fire reads M) (k - 1)) (sym (same_storage old new reads M (reply.Fired k) is.agent))
    (coherent_at (machine_of meaning old.storage) q (call.Fire reads M) k is.reply q (take_all (length q) q (omega arith)))
answered_coherent meaning old new reads M (reply.Stale l) is = tt
answered_coherent meaning old new reads M (reply.Clash c) is = tt
answered_coherent meaning old new reads M reply.Full is = tt

-- a later turn's answer is one of the whole call
pub stands_later : {A : Type 0} (old mid new : AgentAt A) (plain : Bool) (r : Reply) →
    (plain ≡ true → mid.number ≡ old.number) → IsVersionAfter mid new plain r → IsVersionAfter old new plain r
stands_later old mid new true r same stands = stands ∙ same refl
stands_later old mid new false r same stands = stands

-- an agent that looked on goes on
pub polled_follows : {A : Type 0} (meaning : A → Meaning) (s : StorageView A) (old new : AgentPart) →
    HasPolledRow meaning s old new → FollowsOn (agent_of s old) (agent_of s new)
polled_follows meaning s old new polls = record { onward = polls.onward; within = polls.part.following.within }

one_at_most : (b : Bool) → cond b 1 0 ≤ 1
one_at_most true = omega arith
one_at_most false = omega arith

module _ {A : Type 0} (old new : AgentAt A) where
  after_last : (n : ℕ) → n < offers_limit → HasOffered old new n (n + last_poll new) → new.misses ≤ old.misses + offers_limit
  after_last n lt offered =
      let last : last_poll new ≤ 1 = one_at_most (nat_lt (length new.account.seen) (length new.storage.row)) in
      omega (arith, lt, offered.missed, last)

  -- no more looks find nothing than a fire makes offers
  pub few_misses : (r : Result Reply FireError) (n : ℕ) → MadeOffers old new r n → new.misses ≤ old.misses + offers_limit
  few_misses (Ok (reply.Fired k)) n made = omega (arith, made.1, made.2.missed)
  few_misses (Ok (reply.Stale l)) n made = after_last n made.0 made.1
  few_misses (Ok (reply.Clash c)) n made = after_last n made.0 made.1
  few_misses (Ok reply.Full) n made = after_last n made.0 made.1
  few_misses (Err fire_error.ManyReads) n made = subst (λ (a : AgentAt A). new.misses ≤ a.misses + offers_limit) made.1 (omega arith)
  few_misses (Err (fire_error.Busy from to)) n made = omega (arith, made.0, made.1.missed)
  few_misses (Err fire_error.Memory) n made = after_last n made.0 made.1

  -- a look that found nothing comes before the move that fired
  pub fired_missed : (r : Result Reply FireError) (n : ℕ) → MadeOffers old new r n →
      (k : ℕ) → r ≡ Ok (reply.Fired k) → min (old.misses + 1) (2 ^ 64 - 1) ≤ new.misses
  fired_missed r n made k is =
      let fired = subst (λ (q : Result Reply FireError). MadeOffers old new q n) is made in
      omega (arith, fired.0, fired.2.missed)

  -- a busy fire saw at least as many moves as it lost offers
  pub busy_lost : (r : Result Reply FireError) (n : ℕ) → MadeOffers old new r n → IfErr r (IsBusy old new) →
      (from to : ℕ) → r ≡ Err (fire_error.Busy from to) → from + offers_limit ≤ to
  busy_lost r n made busy from to is =
      let lost = subst (λ (q : Result Reply FireError). MadeOffers old new q n) is made in
      let reported = subst (λ (q : Result Reply FireError). IfErr q (IsBusy old new)) is busy in
      omega (arith, lost.0, lost.1.longer, reported.0, reported.1)

pub take_before : {X : Type 0} (xs : List X) (x : X) → take (length xs + 1 - 1) (xs ++ x ∷ []) ≡ xs
take_before xs x =
    let n : length xs + 1 - 1 ≡ length xs = omega arith in
    ap (λ k. take k (xs ++ x ∷ [])) n ∙ take-append-le (length xs) xs (x ∷ []) (omega arith)
    ∙ take_all (length xs) xs (omega arith)

-- a move that fired was judged on all that had been seen
pub won_judged : {A : Type 0} (s : StorageView A) (mid new : AgentPart) (reads : List Named) (M : Move) (r : Reply) →
    HasWon s mid new reads M r → judged_on r new.progress.seen ≡ mid.progress.seen
won_judged {A} s mid new reads M r won =
    let seen = mid.progress.seen in
    let entry : Entry = record { agent = mid.id; instrs = M } in
    let grown : new.progress.seen ≡ seen ++ entry ∷ [] = ap (λ (a : AgentAt A). a.account.seen) won.agent in
    ap (λ (t : Reply). judged_on t new.progress.seen) won.reply ∙ ap (take (length seen + 1 - 1)) grown
    ∙ take_before seen entry

module _ {A : Type 0} (meaning : A → Meaning) (old mid : AgentAt A) (reads : List Named) (M : Move) where
  -- a reply that fired nothing was judged on all that was seen, and its receipt is kept
  quiet_as : (r : Reply) (new : AgentAt A) (seen : List Entry) →
      fired_move (call.Fire reads M) (answer.Fire r) ≡ None →
      (judged_on r seen ≡ seen) × (after_fire old new reads M r ≡ after_answer old new (call.Fire reads M) (answer.Fire r))
  quiet_as (reply.Fired k) new seen quiet = absurd cc
  quiet_as (reply.Stale l) new seen quiet = (refl, refl)
  quiet_as (reply.Clash c) new seen quiet = (refl, refl)
  quiet_as reply.Full new seen quiet = (refl, refl)

  -- an agent that looked on and then kept the receipt of a reply that fired nothing
  pub answered_quiet : (new : AgentAt A) (r : Reply) → mid ≡ has_polled old mid.account.seen mid.misses mid.number →
      IsPrefix old.account.seen mid.account.seen → IsReplyOf meaning mid (call.Fire reads M) (answer.Fire r) →
      fired_move (call.Fire reads M) (answer.Fire r) ≡ None →
      new ≡ with_receipt mid (receipt_at (length mid.account.seen) (call.Fire reads M) (answer.Fire r)) →
      IsReplied meaning old new reads M r
  answered_quiet new r polled begins reported quiet is =
      let receipt : Receipt = receipt_at (length mid.account.seen) (call.Fire reads M) (answer.Fire r) in
      let kept : AgentAt A = with_receipt mid receipt in
      let same = quiet_as r kept mid.account.seen quiet in
      let replies : StorageView A → List Entry → Type 0 = λ s q.
      answer.Fire r ≡ reply_to (machine_of meaning s) (moves_seen q) (call.Fire reads M) in
      let there = subst (λ q. replies mid.storage q) (sym same.0) reported in
      subst (λ (n : AgentAt A). IsReplied meaning old n reads M r) (sym is) (record {
        reply = subst (λ s. replies s (judged_on r mid.account.seen)) (ap (λ (a : AgentAt A). a.storage) polled) there;
        begins = subst (IsPrefix old.account.seen) (sym same.0) begins;
        agent = ap (λ (a : AgentAt A). with_receipt a receipt) polled ∙ sym same.1;
      })

  -- an agent that looked on and then fired
  pub answered_fired : (new : AgentAt A) → mid ≡ has_polled old mid.account.seen mid.misses mid.number →
      IsPrefix old.account.seen mid.account.seen →
      IsReplyOf meaning mid (call.Fire reads M) (answer.Fire (reply.Fired (length mid.account.seen + 1))) →
      new ≡ with_fired mid (receipt_at (length mid.account.seen) (call.Fire reads M)
      (answer.Fire (reply.Fired (length mid.account.seen + 1)))) M →
      IsReplied meaning old new reads M (reply.Fired (length mid.account.seen + 1))
  answered_fired new polled begins reported is =
      let n = length mid.account.seen in
      let r : Reply = reply.Fired (n + 1) in
      let entry : Entry = record { agent = mid.account.id; instrs = M } in
      let before = take_before mid.account.seen entry in
      let number : n ≡ n + 1 - 1 = omega arith in
      let replies : StorageView A → List Entry → Type 0 = λ s q.
      answer.Fire r ≡ reply_to (machine_of meaning s) (moves_seen q) (call.Fire reads M) in
      let there = subst (λ q. replies mid.storage q) (sym before) reported in
      let grown = take (n + 1 - 1) (mid.account.seen ++ entry ∷ []) in
      let receipt : ℕ → Receipt = λ k. receipt_at k (call.Fire reads M) (answer.Fire r) in
      subst (λ (a : AgentAt A). IsReplied meaning old a reads M r) (sym is) (record {
        reply = subst (λ s. replies s grown) (ap (λ (a : AgentAt A). a.storage) polled) there;
        begins = subst (IsPrefix old.account.seen) (sym before) begins;
        agent = ap (λ (a : AgentAt A). with_fired a (receipt n) M) polled
            ∙ ap (λ k. with_fired (has_polled old mid.account.seen mid.misses mid.number) (receipt k) M) number
            ∙ ap (λ seen. with_fired (has_polled old seen mid.misses mid.number) (receipt (n + 1 - 1)) M) (sym before);
      })

  -- what a turn answers after others were lost is an answer of the whole call
  pub answered_after : (new : AgentAt A) (r : Reply) → mid ≡ has_polled old mid.account.seen mid.misses mid.number →
      IsPrefix old.account.seen mid.account.seen → IsReplied meaning mid new reads M r →
      IsReplied meaning old new reads M r
  answered_after new r polled begins is = record {
    reply = subst (λ s. answer.Fire r ≡
        reply_to (machine_of meaning s) (moves_seen (judged_on r new.account.seen)) (call.Fire reads M))
        (ap (λ (a : AgentAt A). a.storage) polled) is.reply;
    begins = IsPrefix-trans old.account.seen mid.account.seen (judged_on r new.account.seen) begins is.begins;
    agent = is.agent ∙ refired r;
  } where
    refired : (s : Reply) → after_fire mid new reads M s ≡ after_fire old new reads M s
    refired (reply.Fired k) = ap (λ (a : AgentAt A). after_fire a new reads M (reply.Fired k)) polled
    refired (reply.Stale l) = ap (λ (a : AgentAt A). after_fire a new reads M (reply.Stale l)) polled
    refired (reply.Clash c) = ap (λ (a : AgentAt A). after_fire a new reads M (reply.Clash c)) polled
    refired reply.Full = ap (λ (a : AgentAt A). after_fire a new reads M reply.Full) polled

-- an agent that looked on keeps its number
pub polled_id : {A : Type 0} (meaning : A → Meaning) (s : StorageView A) (old new : AgentPart) →
    HasPolledRow meaning s old new → new.id ≡ old.id
polled_id {A} meaning s old new polls = ap (λ (a : AgentAt A). a.account.id) polls.agent

-- what is offered by an agent is so by one of the same number
pub same_entry : (i k : ℕ) (a : Asked) → i ≡ k → IfSome a.entry (λ b. IsEntryOf i a.instrs b.value) →
    IfSome a.entry (λ b. IsEntryOf k a.instrs b.value)
same_entry i k a e is = subst (λ n. IfSome a.entry (λ b. IsEntryOf n a.instrs b.value)) e is

pub same_asked : (i k : ℕ) (reads : List Named) (M : Move) (a : Asked) (r : Result (Option Reply) AllocError) → i ≡ k →
    IfOk r (λ o. IfNone o (IsAsked i reads M a)) → IfOk r (λ o. IfNone o (IsAsked k reads M a))
same_asked i k reads M a r e is = subst (λ n. IfOk r (λ o. IfNone o (IsAsked n reads M a))) e is

-- what is true of what is asked is true of the move with these reads
pub of_asked : (P : List Named → Move → Type 0) (i : ℕ) (reads : List Named) (M : Move) (a : Asked) →
    IsAsked i reads M a → P a.reads a.instrs → P reads M
of_asked P i reads M a is holds = subst (λ rs. P rs M) is.reads_is (subst (P a.reads) is.instrs_is holds)

-- a turn that lost its attempt leaves the fire as it was asked for
pub still_asked : (i k : ℕ) (reads : List Named) (M : Move) (a b : Asked) → i ≡ k → IsAsked k reads M a →
    IsAsked i a.reads a.instrs b → IsAsked k reads M b
still_asked i k reads M a b e was is = record {
  reads_is = is.reads_is ∙ was.reads_is;
  instrs_is = is.instrs_is ∙ was.instrs_is;
  entry = subst (λ n. IfSome b.entry (λ x. IsEntryOf n M x.value)) e
      (subst (λ m. IfSome b.entry (λ x. IsEntryOf i m x.value)) was.instrs_is is.entry);
}

-- its entry is the agent's
pub asked_entry : (i k : ℕ) (reads : List Named) (M : Move) (a : Asked) → k ≡ i → IsAsked k reads M a →
    IfSome a.entry (λ b. IsEntryOf i a.instrs b.value)
asked_entry i k reads M a e is = subst (λ n. IfSome a.entry (λ b. IsEntryOf n a.instrs b.value)) e
    (subst (λ m. IfSome a.entry (λ b. IsEntryOf k m b.value)) (sym is.instrs_is) is.entry)

-- a fire that nothing was made for yet
pub asked_first : (i : ℕ) (a : Asked) → a.entry ≡ None → IsAsked i a.reads a.instrs a
asked_first i a none = record {
  reads_is = refl;
  instrs_is = refl;
  entry = subst (λ o. IfSome o (λ b. IsEntryOf i a.instrs b.value)) (sym none) tt;
}

module _ {A : Type 0} (meaning : A → Meaning) (s : StorageView A) (old mid new : AgentPart) (reads : List Named) (M : Move)
    (polls : HasPolledRow meaning s old mid) where
  lost_after : HasLostAttempt s mid new → IsPartOf meaning s new → HasPolledRow meaning s old new
  lost_after lost part = record {
    agent = lost.agent ∙ ap (λ (a : AgentAt A). has_seen a new.progress.seen) polls.agent
        ∙ (λ i. has_polled (agent_of s old) new.progress.seen (sym (ap (λ (a : AgentAt A). a.misses) lost.agent) i)
        (sym (ap (λ (a : AgentAt A). a.number) lost.agent) i));
    seen = IsPrefix-trans old.progress.seen mid.progress.seen new.progress.seen polls.seen lost.seen;
    onward = omega (arith, polls.onward, ap (λ (a : AgentAt A). a.number) lost.agent);
    part = part;
  }

  longer : length old.progress.seen ≤ length mid.progress.seen
  longer = length-prefix old.progress.seen mid.progress.seen polls.seen

  polled : length mid.progress.seen < length s.row →
      Missed (agent_of s old) (last_poll (agent_of s mid)) (agent_of s mid) → Missed (agent_of s old) 1 (agent_of s mid)
  polled room missed =
      let one : nat_lt (length mid.progress.seen) (length s.row) ≡ true = grind (arith, nat_tests) in
      missed ∙ ap (λ b. min (old.progress.misses + cond b 1 0) (2 ^ 64 - 1)) one

  -- what an offer of a move that was judged to fire makes of the turn
  pub attempted : (r : Result (Option Reply) AllocError) → IsPartOf meaning s new →
      IsReplyOf meaning (agent_of s mid) (call.Fire reads M) (answer.Fire (reply.Fired (length mid.progress.seen + 1))) →
      IfOk r (λ o. IfSome o (HasWon s mid new reads M)) → IfOk r (λ o. IfNone o (HasLostAttempt s mid new)) →
      IfOk r (IsTurn meaning s old new reads M)
  attempted (Ok (Some r)) part reported won lost =
      let first = agent_of s old in
      let is = won.agent ∙ ap (λ t. with_fired (agent_of s mid)
      (receipt_at (length mid.progress.seen) (call.Fire reads M) (answer.Fire t)) M) won.reply in
      subst (IsReplied meaning first (agent_of s new) reads M) (sym won.reply)
      (answered_fired meaning first (agent_of s mid) reads M (agent_of s new) polls.agent polls.seen reported is)
  attempted (Ok None) part reported won lost = lost_after lost part
  attempted (Err e) part reported won lost = tt

  -- what was seen begins with what had been seen
  pub attempt_seen : (r : Result (Option Reply) AllocError) →
      IfOk r (λ o. IfSome o (HasWon s mid new reads M)) → IfOk r (λ o. IfNone o (HasLostAttempt s mid new)) →
      OnErr r (agent_of s new ≡ agent_of s mid) → IsPrefix old.progress.seen new.progress.seen
  attempt_seen (Ok (Some r)) won lost err =
      let entry : Entry = record { agent = mid.id; instrs = M } in
      let grown = sym (ap (λ (a : AgentAt A). a.account.seen) won.agent) in
      IsPrefix-trans old.progress.seen mid.progress.seen new.progress.seen polls.seen (entry ∷ [], grown)
  attempt_seen (Ok None) won lost err =
      IsPrefix-trans old.progress.seen mid.progress.seen new.progress.seen polls.seen lost.seen
  attempt_seen (Err e) won lost err =
      subst (IsPrefix old.progress.seen) (sym (ap (λ (a : AgentAt A). a.account.seen) err)) polls.seen

  -- an offer that was made adds one entry, and one that was not adds none
  pub attempt_counted : (r : Result (Option Reply) AllocError) → length mid.progress.seen < length s.row →
      Missed (agent_of s old) (last_poll (agent_of s mid)) (agent_of s mid) →
      IfOk r (λ o. IfSome o (HasWon s mid new reads M)) → IfOk r (λ o. IfNone o (HasLostAttempt s mid new)) →
      OnErr r (agent_of s new ≡ agent_of s mid) →
      HasOffered (agent_of s old) (agent_of s new) (offers_in r) (misses_in (agent_of s new) r)
  attempt_counted (Ok (Some r)) room missed won lost err =
      let entry : Entry = record { agent = mid.id; instrs = M } in
      let seen = ap (λ (a : AgentAt A). a.account.seen) won.agent in
      let misses = ap (λ (a : AgentAt A). a.misses) won.agent in
      subst (λ (q : Reply). HasOffered (agent_of s old) (agent_of s new) (offers_in (Ok (Some q))) (misses_in (agent_of s new) (Ok (Some q))))
      (sym won.reply) (record {
        longer = omega (arith, longer, ap length seen, length-append mid.progress.seen (entry ∷ []));
        missed = misses ∙ polled room missed;
      })
  attempt_counted (Ok None) room missed won lost err = record {
    longer = omega (arith, longer, lost.longer);
    missed = ap (λ (a : AgentAt A). a.misses) lost.agent ∙ polled room missed;
  }
  attempt_counted (Err e) room missed won lost err =
      subst (λ (a : AgentAt A). HasOffered (agent_of s old) a 0 (last_poll a)) (sym err)
      (record { longer = omega (arith, longer); missed = missed })

  -- nor does a turn that was refused memory before it
  pub none_offered : (r : Result (Option Reply) AllocError) (e : AllocError) → r ≡ Err e →
      Missed (agent_of s old) (last_poll (agent_of s mid)) (agent_of s mid) → agent_of s new ≡ agent_of s mid →
      HasOffered (agent_of s old) (agent_of s new) (offers_in r) (misses_in (agent_of s new) r)
  none_offered r e is missed same =
      subst (λ (q : Result (Option Reply) AllocError). HasOffered (agent_of s old) (agent_of s new) (offers_in q) (misses_in (agent_of s new) q))
      (sym is)
      (subst (λ (a : AgentAt A). HasOffered (agent_of s old) a 0 (last_poll a)) (sym same)
      (record { longer = omega (arith, longer); missed = missed }))

module _ {A : Type 0} (old mid new : AgentAt A) (n : ℕ) (lost : HasOffered old mid n n) where
  pub offered_then : (k j : ℕ) → HasOffered mid new k j → HasOffered old new (n + k) (n + j)
  offered_then k j more = record {
    longer = omega (arith, lost.longer, more.longer);
    missed = omega (arith, lost.missed, more.missed);
  }

  quiet : HasOffered mid new 0 (last_poll new) → HasOffered old new (n + 0) (n + 0 + last_poll new)
  quiet more = subst (HasOffered old new (n + 0)) (omega arith) (offered_then 0 (last_poll new) more)

  -- the offers of a call of whose turns n were lost and the next one was answered
  pub offers_answered : (r : Reply) → n < offers_limit → HasOffered mid new (offers_in (Ok (Some r))) (misses_in new (Ok (Some r))) →
      MadeOffers old new (Ok r) (n + offers_in (Ok (Some r)))
  offers_answered (reply.Fired k) lt more = (omega arith, omega (arith, lt), offered_then 1 1 more)
  offers_answered (reply.Stale l) lt more = (omega (arith, lt), quiet more)
  offers_answered (reply.Clash c) lt more = (omega (arith, lt), quiet more)
  offers_answered reply.Full lt more = (omega (arith, lt), quiet more)

  -- and of one in whose next turn memory was refused
  pub offers_refused : n < offers_limit → HasOffered mid new 0 (last_poll new) →
      MadeOffers old new (Err fire_error.Memory) (n + 0)
  offers_refused lt more = (omega (arith, lt), quiet more)

-- an offer that was made calls the closure once
pub attempt_ran : {A F : Type 0} (step : F → F → Type 0) (f g : F) (s : StorageView A) (old new : AgentPart)
    (reads : List Named) (M : Move) (r : Result (Option Reply) AllocError) →
    IfOk r (λ o. IfSome o (HasWon s old new reads M)) → IfOk r (λ o. step f g) → OnErr r (g ≡ f) →
    Ran step f (offers_in r) g
attempt_ran step f g s old new reads M (Ok (Some r)) won called uncalled =
    subst (λ (q : Reply). Ran step f (offers_in (Ok (Some q))) g) (sym won.reply) (g, called, refl)
attempt_ran step f g s old new reads M (Ok None) won called uncalled = (g, called, refl)
attempt_ran step f g s old new reads M (Err e) won called uncalled = sym uncalled

-- calls of a closure, and then more
pub ran_then : {F : Type 0} (step : F → F → Type 0) (f g h : F) (n k : ℕ) →
    Ran step f n g → Ran step g k h → Ran step f (n + k) h
ran_then step f g h zero k first more =
    let all : k ≡ 0 + k = omega arith in
    subst (λ j. Ran step f j h) all (subst (λ x. Ran step x k h) (sym first) more)
ran_then step f g h (suc n) k first more =
    let all : suc (n + k) ≡ suc n + k = omega arith in
    subst (λ j. Ran step f j h) all (first.0, first.1, ran_then step first.0 g h n k first.2 more)
